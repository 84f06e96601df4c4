-- What it means that a verdict is the meaning's for the version that its ticket names.
use Rattle.std.specs.Prelude.{◌≡◌, ℕ, List, Contains, Some}
use Rattle.bpf_profile.specs.declared.machine.Verdict.{Verdict}
use Rattle.bpf_profile.specs.Layouts.{context_size}
use Rattle.bpf_profile.specs.JudgedWork.{JudgedData}
use Rattle.bpf_profile.specs.Meaning.{Judges}
use Rattle.bpf_profile.specs.Programs.{VerifiedProgram}
use Rattle.service_profile.specs.declared.replies.Fate.{Fate}
use Rattle.service_profile.specs.declared.replies.Reply.TheVariants as reply
use Rattle.service_profile.specs.declared.states.State.{State}
use Rattle.service_profile.specs.declared.tickets.OpenTicket.{OpenTicket}
use Rattle.service_profile.specs.Events.{finishes, EntryData}
use Rattle.service_profile.specs.Machine.{program_from}

-- a finished call carries the meaning's verdict and steps for the program of the version with which its ticket was issued
pub record IsMeant (first : ℕ) (programs : List VerifiedProgram) (tickets : List OpenTicket) (work : JudgedData) (ticket : ℕ) (v : Verdict) (steps version : ℕ) : Type 0 where
  pub issued : OpenTicket
  pub listed : Contains tickets issued
  pub number : issued.number ≡ ticket
  pub of_version : issued.version ≡ version
  pub program : VerifiedProgram
  pub held : program_from first programs version ≡ Some program
  pub meant : Judges (context_size program.layout) program.slots work.outcome v steps

abbrev pub IsMeantLine : ℕ → List VerifiedProgram → List OpenTicket → EntryData → Type 0
IsMeantLine first programs tickets line =
    (work : JudgedData) (ticket : ℕ) (f : Fate) (v : Verdict) (steps version : ℕ) (st : State) → line.event ≡ finishes work ticket → line.reply ≡ reply.Finished f v steps version st
    → IsMeant first programs tickets work ticket v steps version
