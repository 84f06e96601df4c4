use Rattle.std.proofs.Common.{rules}
use Rattle.abs_states.proofs.calls.stretch_at.Goals as goal

pub returns-then-place-count-clause-stretch : goal.returns-then-place-count-clause-stretch
returns-then-place-count-clause-stretch c = search rules

pub returns-then-place-count-clause-inside : goal.returns-then-place-count-clause-inside
returns-then-place-count-clause-inside c = search rules
