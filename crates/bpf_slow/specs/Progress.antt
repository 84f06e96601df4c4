-- A step of the code beside a step of the definitions.
use Rattle.std.specs.Prelude.{ℕ, List, Result, Ok, Err}
use Rattle.bpf_profile.specs.declared.machine.Cell.{Cell}
use Rattle.bpf_profile.specs.declared.machine.TrapReason.{TrapReason}
use Rattle.bpf_profile.specs.Machine.{State, Effect, goes, answers}
use Rattle.bpf_profile.specs.Helpers.{Answer}
use Rattle.bpf_slow.specs.declared.progress.Progress.{Progress}
use Rattle.bpf_slow.specs.declared.progress.Progress.TheVariants as progress

-- what the code answers of a step, and the state that it leaves, as the definitions' step
abbrev pub effect_of_step : Result Progress TrapReason → State → Result Effect TrapReason
effect_of_step (Ok progress.Goes) s = Ok (goes s)
effect_of_step (Ok (progress.Answers n)) s = Ok (answers n)
effect_of_step (Err reason) s = Err reason

-- what the code answers of a helper's call, and the stack that it leaves, as the definitions' answer
abbrev pub answer_with : Result ℕ TrapReason → List Cell → Result Answer TrapReason
answer_with (Ok n) stack = Ok (record { answer = n; stack = stack })
answer_with (Err reason) stack = Err reason
