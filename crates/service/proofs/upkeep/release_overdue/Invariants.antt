use Rattle.std.proofs.Common.{◌≡◌, List, length}
use Rattle.service_profile.specs.declared.replies.Reply.{Reply}
use Rattle.service.specs.Upkept.{AreReleased}
use Rattle.service.proofs.upkeep.release_overdue.Given as goal

-- as many releases as rounds were answered, one after another, and who calls the book still fits its place
abbrev pub invariant-loop-release : goal.invariant-loop-release
invariant-loop-release g l =
    g.B.BookCalls.fits l.fn.place l.book
    × (answers : List Reply) × AreReleased (g.B.BookCalls.calls l.fn.place) l.fn.upkeep.max_ticket_age l.fn.moment l.fn.book answers l.book × (length answers ≡ l._release)
