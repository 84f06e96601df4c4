-- What a program says of an outcome, as a function: the meaning's verdict and steps.
use Rattle.std.specs.Prelude.{ℕ, zero, suc, ◌==◌, if◌then◌else◌, List, Option, Some, None, Result, Ok, Err}
use Rattle.std.specs.Option.{option_map_or}
use Rattle.bpf_profile.specs.declared.machine.TrapReason.{TrapReason}
use Rattle.bpf_profile.specs.declared.machine.Verdict.{Verdict}
use Rattle.bpf_profile.specs.declared.machine.Verdict.TheVariants as verdict
use Rattle.bpf_profile.specs.declared.slot.Slot.{Slot}
use Rattle.bpf_profile.specs.Layouts.{context_size}
use Rattle.bpf_profile.specs.Machine.{State, Effect, goes, answers}
use Rattle.bpf_profile.specs.Meaning.{step, entry}
use Rattle.bpf_profile.specs.Outcomes.{Outcome}
use Rattle.bpf_profile.specs.Programs.{VerifiedProgram}
use Rattle.service_profile.specs.declared.decisions.Judgement.{Judgement}

-- an answer, and after how many steps it comes
pub record Ending : Type 0 where
  pub answer : ℕ
  pub steps : ℕ

abbrev pub one_later : Option Ending → Option Ending
one_later None = None
one_later (Some ending) = Some (record { answer = ending.answer; steps = suc ending.steps })

-- what a step leads to in the end
abbrev pub ending_of : (State → Option Ending) → Result Effect TrapReason → Option Ending
ending_of on (Ok (goes state)) = one_later (on state)
ending_of on (Ok (answers answer)) = Some (record { answer = answer; steps = 1 })
ending_of on (Err reason) = None

-- the answer among the next steps, so many, where the context has this size; none where the program traps or goes on
unfoldable pub ending_within : ℕ → List Slot → Outcome → ℕ → State → Option Ending
ending_within size slots outcome zero state = None
ending_within size slots outcome (suc left) state = ending_of (λ next. ending_within size slots outcome left next) (step size slots outcome state)

abbrev pub verdict_of : ℕ → Verdict
verdict_of answer = if answer == 0 then verdict.Success else (if answer == 1 then verdict.Failure else verdict.Ignored)

abbrev pub judged_as : Ending → Judgement
judged_as ending = record { verdict = verdict_of ending.answer; steps = ending.steps }

-- a verified program has an answer within its budget on every outcome, so that the last case never comes
unfoldable pub judgement : VerifiedProgram → Outcome → Judgement
judgement program outcome = option_map_or judged_as (ending_within (context_size program.layout) program.slots outcome program.budget entry) (record { verdict = verdict.Ignored; steps = 0 })
