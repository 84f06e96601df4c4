-- Small things of which the promises hold, and like ones of which they don't: two programs, work, an entry, and steps.
use Rattle.std.specs.Prelude.{List, [], ◌∷◌}
use Rattle.bpf_profile.specs.declared.layout.Layout.TheVariants as layout
use Rattle.bpf_profile.specs.declared.machine.Verdict.{Verdict}
use Rattle.bpf_profile.specs.declared.slot.Slot.{Slot}
use Rattle.bpf_profile.specs.declared.slot.Slot.TheVariants.{Ins}
use Rattle.bpf_profile.specs.JudgedWork.{JudgedData}
use Rattle.bpf_profile.specs.Programs.{VerifiedProgram}
use Rattle.service_profile.specs.declared.replies.Fate.TheVariants as fate
use Rattle.service_profile.specs.declared.replies.Reply.TheVariants as reply
use Rattle.service_profile.specs.declared.states.State.TheVariants as state
use Rattle.service_profile.specs.declared.tickets.OpenTicket.{OpenTicket}
use Rattle.service_profile.specs.Events.{finishes, EntryData, line}
use Rattle.book.specs.Interleavings.{Act}
use Rattle.worked_examples.specs.Services.{response, by_caller, acquire, release, install, read}

-- ---- programs

-- a move of 0 into R0, and an exit
abbrev pub zero_slots : List Slot
zero_slots = Ins 183 0 0 0 0 ∷ (Ins 149 0 0 0 0 ∷ [])

abbrev pub zero_program : VerifiedProgram
zero_program = record { slots = zero_slots; budget = 2; layout = layout.One }

-- an exit alone, where R0 is unset
abbrev pub bare_exit : List Slot
bare_exit = Ins 149 0 0 0 0 ∷ []

abbrev pub bare_program : VerifiedProgram
bare_program = record { slots = bare_exit; budget = 1; layout = layout.One }

-- ---- work

-- that program's work on a response with status 503, with a verdict
abbrev pub zero_work : Verdict → JudgedData
zero_work v = record { program = zero_program; outcome = response 503; verdict = v; steps = 2 }

-- ---- an entry

-- the second entry of a journal: ticket 1 of version 1 was reported
abbrev pub reported_line : Verdict → EntryData
reported_line v = line 2 1 (finishes (zero_work v) 1) 5 (reply.Finished fate.Recorded v 2 1 state.Closed)

abbrev pub first_ticket : OpenTicket
first_ticket = record { number = 1; version = 1; period = 1; moment = 5 }

-- ---- steps

abbrev pub steps_with : VerifiedProgram → List Act
steps_with program = by_caller (acquire 0) ∷ (by_caller (install 1 program) ∷ (by_caller (release 2 1) ∷ (by_caller (read 3) ∷ [])))
