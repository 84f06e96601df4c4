-- What is brought to a service: programs that are accepted, and work that they judged.
use Rattle.std.specs.Prelude.{◌≡◌, ℕ, ◌^◌, ◌<◌}
use Rattle.std.specs.Arc.{arc_value}
use Rattle.bpf_profile.specs.Layouts.{context_size}
use Rattle.bpf_profile.specs.Limits.{record_size}
use Rattle.bpf_profile.specs.Outcomes.{IsOutcome}
use Rattle.bpf_profile.specs.Safety.{IsSafe}
use Rattle.bpf_profile.specs.Spelling.{IsProgram}
use Rattle.bpf_profile.specs.JudgedWork.{JudgedData, IsTied}
use Rattle.bpf_profile.specs.Programs.{VerifiedProgram}
use Rattle.service_profile.specs.Events.{EventData, acquires, finishes, releases, installs, moves, resets, EntryData}
use Rattle.book.specs.declared.events.Event.{Event}
use Rattle.book.specs.declared.events.Event.TheVariants as event

-- it has the slots of a program, ends within its budget on every outcome's record, and never does what it must not
pub record IsSafeProgram (program : VerifiedProgram) : Type 0 where
  pub program_there : IsProgram program.slots
  pub safe : IsSafe (context_size program.layout) program.slots program.budget

-- which programs are accepted
abbrev pub Accepting : Type 1
Accepting = VerifiedProgram → Type 0

-- the meaning's verdict and steps of an accepted program on an outcome's record
pub record IsJudged (accepts : Accepting) (work : JudgedData) : Type 0 where
  pub program : accepts work.program
  pub outcome : IsOutcome record_size work.outcome
  pub tied : IsTied work

-- what is installed is accepted, and work that is brought was judged
pub record IsEvent (accepts : Accepting) (event : EventData) : Type 0 where
  pub installs_accepted : (program : VerifiedProgram) → event ≡ installs program → accepts program
  pub judged : (work : JudgedData) (ticket : ℕ) → event ≡ finishes work ticket → IsJudged accepts work

-- moments are words, and seats are numbers of 32 bits
pub record IsLine (accepts : Accepting) (line : EntryData) : Type 0 where
  pub word : line.moment < 2 ^ 64
  pub seat : line.seat < 2 ^ 32
  pub event : IsEvent accepts line.event

-- an event of the program, as data
abbrev pub seen : Event → EventData
seen event.Acquire = acquires
seen (event.Finish work ticket) = finishes work ticket
seen (event.Release ticket) = releases ticket
seen (event.Install program) = installs (arc_value program)
seen (event.Move state) = moves state
seen event.Reset = resets
