use Rattle.std.proofs.Common.{rules}
use Rattle.event_loop.proofs.failure.is_listener_error.Goals as goal

pub returns-in_default : goal.returns-in_default
returns-in_default c = search rules
