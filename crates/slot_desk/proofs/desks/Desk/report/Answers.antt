use Rattle.slot_desk.specs.Places.{report_of}
use Rattle.slot_desk.proofs.Reporting.{reported}
use Rattle.slot_desk.proofs.desks.Desk.report.Goals as goal

pub returns-clause-reported : goal.returns-clause-reported
returns-clause-reported g c =
    reported c.args.service c.args.seat.now c.args.moment (report_of c.args.ticket c.args.outcome) c.report.result c.report.new.book c.requires.room
    (rw c.new-place.ensures at c.report.ensures.reported)
