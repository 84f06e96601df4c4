-- What is answered by a service behind a lock: as the documented machine does after some legal history of one of the desk's services.
use Rattle.std.specs.Prelude.{◌≡◌, ℕ, List, Result, Ok, Err}
use Rattle.bpf_profile.specs.JudgedWork.{JudgedData, IsTied}
use Rattle.bpf_profile.specs.Outcomes.{Outcome}
use Rattle.bpf_profile.specs.Programs.{VerifiedProgram}
use Rattle.refusals.specs.declared.RefusalNumber.{RefusalNumber}
use Rattle.service_profile.specs.declared.readings.Reading.{Reading}
use Rattle.service_profile.specs.declared.replies.Reply.{Reply}
use Rattle.service_profile.specs.declared.replies.Reply.TheVariants as reply
use Rattle.service_profile.specs.Answers.{IsApplied, IsLooked, IsPage, IsCut, IsRolled, reading}
use Rattle.service_profile.specs.Calls.{CallData, CallAnswer, IsCalled}
use Rattle.service_profile.specs.Events.{EventData, finishes, EntryData, History}
use Rattle.service_profile.specs.Histories.{past_of}
use Rattle.desk.specs.Seats.{SeatData, after_call}
use Rattle.desk.specs.Services.{ServiceData}
use Rattle.book.specs.Good.{IsGood}
use Rattle.desk.specs.Kept.{IsOfOne}

-- a legal history of one of these services before one hold of the lock, and a legal history after it, are related so
pub record AfterSome (services : List ServiceData) (Holds : History → History → Type 0) : Type 0 where
  pub before : History
  pub after : History
  pub of_service : (cuts : ℕ) × IsOfOne services cuts before
  pub good_before : IsGood before
  pub good_after : IsGood after
  pub holds : Holds before after

-- the answer to a call of a seat of this number
abbrev pub IsCalledAfter : List ServiceData → ℕ → CallData → CallAnswer → Type 0
IsCalledAfter services seat call answer = AfterSome services (λ before after. IsCalled seat before call answer after)

-- the reply to an event of a seat at a moment
abbrev pub IsReplied : List ServiceData → ℕ → ℕ → EventData → Reply → Type 0
IsReplied services seat moment event r = AfterSome services (λ before after. IsApplied before seat moment event r after)

-- the program of a ticket, or why there is none; nothing changes
abbrev pub IsFound : List ServiceData → ℕ → Result VerifiedProgram RefusalNumber → Type 0
IsFound services ticket found = AfterSome services (λ before after. IsLooked before ticket found × (after ≡ before))

-- what stands at a moment; nothing changes
abbrev pub IsShown : List ServiceData → ℕ → Reading → Type 0
IsShown services moment shown = AfterSome services (λ before after. (shown ≡ reading (past_of before) moment) × (after ≡ before))

-- a page from a number on, or no memory for it; nothing changes
abbrev pub IsPageFrom : List ServiceData → ℕ → Result (List EntryData) RefusalNumber → Type 0
IsPageFrom services from found = AfterSome services (λ before after. IsPage before from found × (after ≡ before))

-- the entries that a cut hands out, or why there is none
abbrev pub IsCutOff : List ServiceData → Result (List EntryData) RefusalNumber → Type 0
IsCutOff services found = AfterSome services (λ before after. IsCut before found after)

-- the entries up to a number that a roll hands out, or why it hands out none
abbrev pub IsRolledOff : List ServiceData → ℕ → Result (List EntryData) RefusalNumber → Type 0
IsRolledOff services last found = AfterSome services (λ before after. IsRolled before last found after)

-- the program that was found judges the outcome, and its verdict is finished; a look that is refused makes no entry
abbrev pub IsFinished : List ServiceData → SeatData → ℕ → ℕ → Outcome → Result VerifiedProgram RefusalNumber → Reply → SeatData → Type 0
IsFinished services seat moment ticket outcome (Err refused) r after = (r ≡ reply.Refused refused) × (after ≡ seat)
IsFinished services seat moment ticket outcome (Ok program) r after =
    (work : JudgedData) × (work.program ≡ program) × (work.outcome ≡ outcome) × IsTied work
    × IsReplied services seat.number moment (finishes work ticket) r × (after ≡ after_call seat r)

-- a report: the look at the ticket in one hold of the lock, and the finish in another
abbrev pub IsReported : List ServiceData → SeatData → ℕ → ℕ → Outcome → Reply → SeatData → Type 0
IsReported services seat moment ticket outcome r after =
    (found : Result VerifiedProgram RefusalNumber) × IsFound services ticket found × IsFinished services seat moment ticket outcome found r after
