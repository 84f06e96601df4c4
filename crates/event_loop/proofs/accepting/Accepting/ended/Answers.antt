use Rattle.std.proofs.Common.{rules}
use Rattle.event_loop.proofs.accepting.Accepting.ended.Goals as goal

pub returns-clause-none_left : goal.returns-clause-none_left
returns-clause-none_left c = search rules
