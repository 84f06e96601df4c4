use Rattle.desk.proofs.Reporting.{reported}
use Rattle.desk.proofs.desks.Desk.report.Goals as goal

pub returns-clause-reported : goal.returns-clause-reported
returns-clause-reported g c =
    reported c.args.self.now.services c.args.seat.now c.args.moment (record { ticket = c.args.ticket; outcome = c.args.outcome }) c.report.result c.report.new.book c.requires.room
    (rw c.new-place.ensures at c.report.ensures.reported)
