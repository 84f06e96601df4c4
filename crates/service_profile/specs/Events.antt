-- What happens on a service, as data: events, the lines of its journal, and its opening.
use Rattle.std.specs.Prelude.{ℕ, List}
use Rattle.bpf_profile.specs.JudgedWork.{JudgedData}
use Rattle.bpf_profile.specs.Programs.{VerifiedProgram}
use Rattle.service_profile.specs.declared.configuration.ConfigParts.{ConfigParts}
use Rattle.service_profile.specs.declared.replies.Reply.{Reply}
use Rattle.service_profile.specs.declared.states.State.{State}

pub data EventData : Type 0 where
  acquires : EventData
  finishes : JudgedData → ℕ → EventData
  releases : ℕ → EventData
  installs : VerifiedProgram → EventData
  moves : State → EventData
  resets : EventData

-- a line of the journal: its number, who made it, what happened, at which raised moment, and the reply
pub record EntryData : Type 0 where
  pub number : ℕ
  pub seat : ℕ
  pub event : EventData
  pub moment : ℕ
  pub reply : Reply

abbrev pub line : ℕ → ℕ → EventData → ℕ → Reply → EntryData
line number seat event moment reply = record { number = number; seat = seat; event = event; moment = moment; reply = reply }

-- how a book opens: CLOSED, with one program under its version, and with numbers and moments that go on from earlier openings
pub record Opening : Type 0 where
  pub config : ConfigParts
  pub program : VerifiedProgram
  pub version : ℕ
  pub period : ℕ
  -- the next numbers of a ticket and of a line
  pub ticket : ℕ
  pub line : ℕ
  -- the greatest moment before
  pub moment : ℕ

-- what rolls have taken out of a book since its opening
pub record Rolled : Type 0 where
  -- how many of the first lines were handed out
  pub lines : ℕ
  -- how many of the first programs were dropped
  pub programs : ℕ

abbrev pub nothing_rolled : Rolled
nothing_rolled = record { lines = 0; programs = 0 }

-- what contracts see of a book: all lines since its opening. Of these the first ones may have been handed out, so that the book holds the last ones, and the first programs may have been dropped
pub record History : Type 0 where
  pub opening : Opening
  pub lines : List EntryData
  pub rolled : Rolled

-- a history that was never rolled
abbrev pub history_of : Opening → List EntryData → History
history_of opening lines = record { opening = opening; lines = lines; rolled = nothing_rolled }

-- the same history with so much taken out
abbrev pub rolled_to : Rolled → History → History
rolled_to rolled history = record { opening = history.opening; lines = history.lines; rolled = rolled }
