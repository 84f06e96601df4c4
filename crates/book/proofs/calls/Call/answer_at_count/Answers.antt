use Rattle.book.proofs.Counting.{room_for}
use Rattle.book.proofs.calls.Call.answer_at_count.Goals as goal

pub returns-then-count-lt-FULL_COUNT-clause-room : goal.returns-then-count-lt-FULL_COUNT-clause-room
returns-then-count-lt-FULL_COUNT-clause-room g c none = room_for c.args.count (g.Self.Call.called c.args.self.now) c.if-count-lt-FULL_COUNT.true

pub returns-clause-room : goal.returns-clause-room
returns-clause-room g c none = c.turned_away.ensures.other none c.args.count
