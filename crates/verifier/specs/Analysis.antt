-- The analysis, over any domain: the abstract state before each slot, and the least slot that fails a check.
use Rattle.std.specs.Prelude.{◌≡◌, ℕ, zero, suc, ◌<◌, ◌==◌, true, false, if◌then◌else◌, List, [], ◌∷◌, ◌++◌, length, slice_get, Option, Some, None, option_map, Result, Ok, Err}
use Rattle.std.specs.Option.{option_or}
use Rattle.refusals.specs.declared.RefusalNumber.{RefusalNumber}
use Rattle.abs_domain.specs.declared.domain.Domain.{Ghosts}
use Rattle.abs_states.specs.declared.state.AbsState.{AbsState}
use Rattle.abs_states.specs.States.{entry_state, joined_state}
use Rattle.abs_states.specs.Steps.{edge_of}
use Rattle.abs_states.specs.Transfers.{transfer_in}
use Rattle.bpf_profile.specs.declared.instruction.Instruction.{Instruction}
use Rattle.bpf_profile.specs.declared.slot.Slot.{Slot}
use Rattle.bpf_profile.specs.Meaning.{instruction_at}
use Rattle.bpf_profile.specs.SpellingFaults.{Fault}

-- ---- the abstract state before a slot

-- an abstract state that is sent along an edge, to the slot where the edge ends
pub record Message (X : Type 0) : Type 0 where
  pub to : ℕ
  pub state : AbsState X

-- what is sent along an edge, if there is one; an instruction that fails a check sends nothing
abbrev pub message_to : {X : Type 0} → Option ℕ → Result (AbsState X) RefusalNumber → List (Message X)
message_to (Some to) (Ok a) = (record { to = to; state = a }) ∷ []
message_to to r = []

-- an instruction sends the abstract state after it along its fall-through edge and along its jump edge
abbrev pub sent_with : {X : Type 0} → Ghosts X → ℕ → ℕ → Option Instruction → Option (AbsState X) → List (Message X)
sent_with domain context place (Some i) (Some a) = message_to (edge_of place i false) (transfer_in domain context a false i) ++ message_to (edge_of place i true) (transfer_in domain context a true i)
sent_with domain context place i a = []

-- the abstract state where another path comes in: the join with the one before
abbrev pub joined_into : {X : Type 0} → Ghosts X → Option (AbsState X) → AbsState X → AbsState X
joined_into domain None a = a
joined_into domain (Some before) a = joined_state domain before a

abbrev pub received_one : {X : Type 0} → Ghosts X → ℕ → Option (AbsState X) → Message X → Option (AbsState X)
received_one domain to before message = if message.to == to then Some (joined_into domain before message.state) else before

-- a slot joins what is sent to it, and nothing else
abbrev pub received : {X : Type 0} → Ghosts X → ℕ → Option (AbsState X) → List (Message X) → Option (AbsState X)
received domain to before [] = before
received domain to before (message ∷ more) = received domain to (received_one domain to before message) more

-- the abstract state before a slot, of all that the slots below `from` send; slot 0 begins with the entry state. All edges lead forward, so a slot can send once those below it have sent
unfoldable pub arriving : {X : Type 0} → Ghosts X → ℕ → List Slot → ℕ → ℕ → Option (AbsState X)
arriving domain context slots zero to = if to == 0 then Some (entry_state domain) else None
arriving domain context slots (suc from) to = received domain to (arriving domain context slots from to) (sent_with domain context from (instruction_at slots from) (arriving domain context slots from from))

-- the abstract state before a slot: the join, over all edges to it, of what is sent along them; None where no edge leads there
abbrev pub known_at : {X : Type 0} → Ghosts X → ℕ → List Slot → ℕ → Option (AbsState X)
known_at domain context slots place = arriving domain context slots place place

-- ---- the first fault

abbrev pub fault_in : {X : Type 0} → Result (AbsState X) RefusalNumber → Option RefusalNumber
fault_in (Ok a) = None
fault_in (Err number) = Some number

abbrev pub fault_with : {X : Type 0} → Ghosts X → ℕ → Option Instruction → Option (AbsState X) → Option RefusalNumber
fault_with domain context (Some i) (Some a) = fault_in (transfer_in domain context a false i)
fault_with domain context i a = None

-- the first check that the instruction at a slot fails
unfoldable pub fault_at : {X : Type 0} → Ghosts X → ℕ → List Slot → ℕ → Option RefusalNumber
fault_at domain context slots place = fault_with domain context (instruction_at slots place) (known_at domain context slots place)

-- the least slot that fails a check, of so many from a slot on
unfoldable pub fault_from : {X : Type 0} → Ghosts X → ℕ → List Slot → ℕ → ℕ → Option Fault
fault_from domain context slots place zero = None
fault_from domain context slots place (suc count) =
    option_or (option_map (λ number. record { slot = place; number = number }) (fault_at domain context slots place)) (fault_from domain context slots (suc place) count)

-- the refusal of a program by the analysis; None where the program is accepted
abbrev pub analysis_fault : {X : Type 0} → Ghosts X → ℕ → List Slot → Option Fault
analysis_fault domain context slots = fault_from domain context slots 0 (length slots)

-- a list of the abstract states before each slot
pub record AreKnown {X : Type 0} (domain : Ghosts X) (context : ℕ) (slots : List Slot) (states : List (Option (AbsState X))) : Type 0 where
  pub counted : length states ≡ length slots
  pub each : (place : ℕ) → place < length slots → slice_get states place ≡ Some (known_at domain context slots place)
