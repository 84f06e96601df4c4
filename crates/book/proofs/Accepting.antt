-- What holds of what is brought, where accepted programs are safe.
use Rattle.std.proofs.Common.{ℕ, List, rules}
use Rattle.std.specs.List.{AllByRecursion}
use Rattle.bpf_profile.specs.JudgedWork.{JudgedData}
use Rattle.bpf_profile.specs.Programs.{VerifiedProgram}
use Rattle.service_profile.specs.Events.{EventData, finishes}
use Rattle.book.specs.Accepted.{Accepting, IsSafeProgram, IsJudged, IsEvent}
use Rattle.book.proofs.Lists.{all_weaken}

-- each program that is accepted is safe
abbrev pub Safely : Accepting → Type 0
Safely accepts = (program : VerifiedProgram) → accepts program → IsSafeProgram program

pub themselves : Safely IsSafeProgram
themselves program safe_ = safe_

module _ (accepts : Accepting) (safely : Safely accepts) where
  pub programs_safe : (programs : List VerifiedProgram) → AllByRecursion accepts programs → AllByRecursion IsSafeProgram programs
  programs_safe programs all = all_weaken accepts IsSafeProgram safely programs all

  pub judged_safe : (work : JudgedData) → IsJudged accepts work → IsJudged IsSafeProgram work
  judged_safe work good = record { program = safely work.program good.program; outcome = good.outcome; tied = good.tied }

  pub event_safe : (event : EventData) → IsEvent accepts event → IsEvent IsSafeProgram event
  event_safe event good = record {
    installs_accepted = λ program e. safely program (good.installs_accepted program e);
    judged = λ work ticket e. judged_safe work (good.judged work ticket e);
  }

-- work that was judged may be brought
pub finish_accepted : (accepts : Accepting) (work : JudgedData) (ticket : ℕ) → IsJudged accepts work → IsEvent accepts (finishes work ticket)
finish_accepted accepts work ticket good = search rules
