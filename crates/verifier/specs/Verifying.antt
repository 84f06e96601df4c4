-- What verifying answers.
use Rattle.std.specs.Prelude.{◌≡◌, ◌⊎◌, ℕ, ◌<◌, List, length, slice_get, Some, None}
use Rattle.refusals.specs.declared.RefusalNumber.TheVariants.{ProgramOutOfMemory}
use Rattle.bpf_profile.specs.declared.layout.Layout.{Layout}
use Rattle.bpf_profile.specs.declared.slot.Slot.{Slot}
use Rattle.bpf_profile.specs.Layouts.{context_size}
use Rattle.bpf_profile.specs.Flow.{successors, IsBudget}
use Rattle.bpf_profile.specs.FlowFaults.{flow_fault}
use Rattle.bpf_profile.specs.Spelling.{Spells}
use Rattle.bpf_profile.specs.SpellingFaults.{Fault, first_fault}
use Rattle.verifier.specs.Analysis.{analysis_fault}
use Rattle.verifier.specs.Product.{product}
use Rattle.bpf_profile.specs.Programs.{VerifiedProgram}
use Rattle.verifier.specs.declared.refusal.Refusal.{Refusal}

-- the refusal for want of memory
abbrev pub out_of_memory : Refusal
out_of_memory = record { slot = 0; number = ProgramOutOfMemory }

abbrev pub fault_of : Refusal → Fault
fault_of e = record { slot = e.slot; number = e.number }

-- flow and the analysis on records of a layout find no fault
abbrev pub IsAccepted : Layout → List Slot → Type 0
IsAccepted layout slots = (flow_fault slots ≡ None) × (analysis_fault product (context_size layout) slots ≡ None)

-- the bytes spell a program that flow and the analysis on records of its layout accept, with its budget
pub record IsVerification (bytes : List ℕ) (program : VerifiedProgram) : Type 0 where
  pub spelled : Spells bytes program.slots
  pub accepted : IsAccepted program.layout program.slots
  pub budget : IsBudget program.slots program.budget

-- the fault that a program is refused for: the first of its flow, or else the first of the analysis
abbrev pub IsProgramRefused : Layout → List Slot → Fault → Type 0
IsProgramRefused layout slots fault = (flow_fault slots ≡ Some fault) ⊎ ((flow_fault slots ≡ None) × (analysis_fault product (context_size layout) slots ≡ Some fault))

-- the fault that bytes are refused for: the first of decoding, or else the program's
abbrev pub IsRefused : Layout → List ℕ → Fault → Type 0
IsRefused layout bytes fault = (first_fault bytes ≡ Some fault) ⊎ ((slots : List Slot) × Spells bytes slots × IsProgramRefused layout slots fault)

-- the flow of a program, slot by slot
pub record IsFlowOf (slots : List Slot) (edges : List (List ℕ)) : Type 0 where
  pub counted : length edges ≡ length slots
  pub each : (place : ℕ) → place < length slots → slice_get edges place ≡ Some (successors slots place)
