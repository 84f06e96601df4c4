-- Worked examples of classifiers: what they read, call and keep.
use Rattle.std.specs.Prelude.{List, [], ◌∷◌, ◌++◌, replicate}
use Rattle.bpf_profile.specs.declared.layout.Layout.TheVariants as layout
use Rattle.bpf_profile.specs.declared.machine.Verdict.TheVariants as verdict
use Rattle.bpf_profile.specs.declared.slot.Slot.TheVariants.{Ins}
use Rattle.bpf_profile.specs.Outcomes.{Outcome}
use Rattle.bpf_profile.specs.Programs.{VerifiedProgram}
use Rattle.service_profile.specs.declared.replies.Fate.TheVariants as fate
use Rattle.service_profile.specs.declared.replies.Reply.TheVariants as reply
use Rattle.service_profile.specs.declared.states.State.TheVariants as state
use Rattle.book.specs.Interleavings.{Act}
use Rattle.worked_examples.specs.Services.{response, by_caller, acquire, install, reports, Heard, says}

-- ---- a program of layout 2 reads the byte at offset 150, which one of layout 1 doesn't see

abbrev pub byte_150 : VerifiedProgram
byte_150 = record { slots = Ins 113 0 1 150 0 ∷ (Ins 149 0 0 0 0 ∷ []); budget = 2; layout = layout.Two }

-- an outcome of which only that byte isn't 0
abbrev pub with_byte_150 : Outcome
with_byte_150 = record { context = replicate 150 0 ++ 1 ∷ replicate 41 0; facts = replicate 16 0; tag = [] }

abbrev pub further_byte_is_read : List Act
further_byte_is_read = by_caller (install 0 byte_150) ∷ (by_caller (acquire 0) ∷ reports 0 0 1 with_byte_150)

abbrev pub further_byte_was_read : List Heard
further_byte_was_read =
    says (reply.Installed 2 2 layout.Two)
    ∷ (says (reply.Permitted 1 2 state.Closed)
    ∷ (says (reply.Finished fate.Recorded verdict.Failure 2 2 state.Closed) ∷ []))

-- ---- a helper function answers fact 3, and the answer 2 is an ignored verdict

abbrev pub fact_three : VerifiedProgram
fact_three = record { slots = Ins 183 1 0 0 3 ∷ (Ins 133 0 0 0 1 ∷ (Ins 149 0 0 0 0 ∷ [])); budget = 3; layout = layout.One }

abbrev pub with_fact_three : Outcome
with_fact_three = record { context = replicate 192 0; facts = replicate 3 0 ++ 2 ∷ replicate 12 0; tag = [] }

abbrev pub helper_is_called : List Act
helper_is_called = by_caller (install 0 fact_three) ∷ (by_caller (acquire 0) ∷ reports 0 0 1 with_fact_three)

abbrev pub helper_was_called : List Heard
helper_was_called =
    says (reply.Installed 2 3 layout.One)
    ∷ (says (reply.Permitted 1 2 state.Closed)
    ∷ (says (reply.Finished fate.Ignored verdict.Ignored 3 2 state.Closed) ∷ []))

-- ---- what is stored to the stack at R10 - 8 is loaded from there

abbrev pub stored_one : VerifiedProgram
stored_one = record { slots = Ins 122 10 0 65528 1 ∷ (Ins 121 0 10 65528 0 ∷ (Ins 149 0 0 0 0 ∷ [])); budget = 3; layout = layout.One }

abbrev pub stack_is_used : List Act
stack_is_used = by_caller (install 0 stored_one) ∷ (by_caller (acquire 0) ∷ reports 0 0 1 (response 200))

abbrev pub stack_was_used : List Heard
stack_was_used =
    says (reply.Installed 2 3 layout.One)
    ∷ (says (reply.Permitted 1 2 state.Closed)
    ∷ (says (reply.Finished fate.Recorded verdict.Failure 3 2 state.Closed) ∷ []))
