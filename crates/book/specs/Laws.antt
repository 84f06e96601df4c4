-- Premises of the laws of the book.
use Rattle.std.specs.Prelude.{◌≡◌, ℕ, Some}
use Rattle.std.specs.List.{AllByRecursion}
use Rattle.bpf_profile.specs.JudgedWork.{JudgedData}
use Rattle.bpf_profile.specs.declared.machine.Verdict.{Verdict}
use Rattle.service_profile.specs.declared.notes.Note.{Note}
use Rattle.service_profile.specs.Events.{finishes, EntryData, History}
use Rattle.service_profile.specs.Histories.{Stage, Past, note_at, programs_of, issued, IsLegal}
use Rattle.service_profile.specs.Machine.{note_of}
use Rattle.book.specs.Accepted.{Accepting, IsLine}
use Rattle.service_profile.specs.Openings.{IsOpening}
use Rattle.service_profile.specs.MeantVerdicts.{IsMeant}

-- a legal history of accepted programs and judged work, from a good opening on
pub record IsService (accepts : Accepting) (history : History) : Type 0 where
  pub opening : IsOpening history.opening
  pub program : accepts history.opening.program
  pub legal : IsLegal history
  pub lines : AllByRecursion (IsLine accepts) history.lines

-- a note is that of judged work, and says what the meaning's verdict and the record's duration say
pub record IsMeantNote (past : Past) (line : EntryData) (note : Note) : Type 0 where
  pub work : JudgedData
  pub ticket : ℕ
  pub verdict : Verdict
  pub steps : ℕ
  pub version : ℕ
  pub finished : line.event ≡ finishes work ticket
  pub meant : IsMeant past.opening.version (programs_of past) (issued past.stages) work ticket verdict steps version
  pub noted : note ≡ note_of past.opening.config line.moment verdict work.outcome

abbrev pub HasMeantNote : Past → Stage → Type 0
HasMeantNote past stage = (note : Note) → note_at past.opening.config stage ≡ Some note → IsMeantNote past stage.line note
