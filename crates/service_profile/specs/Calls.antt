-- The calls of a service's book as data, what each answers, and the history after it.
use Rattle.std.specs.Prelude.{◌≡◌, ℕ, List, Result}
use Rattle.bpf_profile.specs.Programs.{VerifiedProgram}
use Rattle.refusals.specs.declared.RefusalNumber.{RefusalNumber}
use Rattle.service_profile.specs.declared.readings.Reading.{Reading}
use Rattle.service_profile.specs.declared.replies.Reply.{Reply}
use Rattle.service_profile.specs.Answers.{IsAppliedBy, IsLooked, IsPage, IsCut, IsRolled, reading}
use Rattle.service_profile.specs.Events.{EventData, EntryData, History}
use Rattle.service_profile.specs.Histories.{past_of}
use Rattle.service_profile.specs.Machine.{Judging, meant}

-- what is called: an event at a moment, a look at a ticket, a reading at a moment, a page from a number on, a cut, a roll up to a number
pub data CallData : Type 0 where
  applies : ℕ → EventData → CallData
  looks : ℕ → CallData
  reads : ℕ → CallData
  pages : ℕ → CallData
  cuts : CallData
  rolls : ℕ → CallData

-- what is answered: a reply, the program of a ticket, a reading, lines of the journal; or why there is none
pub data CallAnswer : Type 0 where
  replies : Reply → CallAnswer
  finds : Result VerifiedProgram RefusalNumber → CallAnswer
  shows : Reading → CallAnswer
  hands : Result (List EntryData) RefusalNumber → CallAnswer

-- what a book answers to a call of a seat, and the history after it, where work is judged so
abbrev pub IsCalledBy : Judging → ℕ → History → CallData → CallAnswer → History → Type 0
IsCalledBy judging seat history (applies moment event) (replies r) after = IsAppliedBy judging history seat moment event r after
IsCalledBy judging seat history (looks ticket) (finds found) after = IsLooked history ticket found × (after ≡ history)
IsCalledBy judging seat history (reads moment) (shows shown) after = (shown ≡ reading (past_of history) moment) × (after ≡ history)
IsCalledBy judging seat history (pages from) (hands found) after = IsPage history from found × (after ≡ history)
IsCalledBy judging seat history cuts (hands found) after = IsCut history found after
IsCalledBy judging seat history (rolls last) (hands found) after = IsRolled history last found after
IsCalledBy judging seat history call other after = ⊥

-- the same by the documented machine, which takes the meaning's verdict
abbrev pub IsCalled : ℕ → History → CallData → CallAnswer → History → Type 0
IsCalled seat history call given after = IsCalledBy meant seat history call given after
