-- What is known before a slot, told by the edges that lead to it, with no order among them.
use Rattle.std.specs.Prelude.{◌≡◌, ℕ, ◌==◌, Bool, true, false, if◌then◌else◌, List, [], ◌∷◌, ◌++◌, length, flat_map, Option, Some, None, option_to_list, Result, Ok}
use Rattle.std.specs.List.{range_with_len}
use Rattle.refusals.specs.declared.RefusalNumber.{RefusalNumber}
use Rattle.abs_domain.specs.declared.domain.Domain.{Ghosts}
use Rattle.abs_states.specs.declared.state.AbsState.{AbsState}
use Rattle.abs_states.specs.States.{entry_state, joined_state}
use Rattle.abs_states.specs.Steps.{edge_of}
use Rattle.abs_states.specs.Transfers.{transfer_in}
use Rattle.bpf_profile.specs.declared.instruction.Instruction.{Instruction}
use Rattle.bpf_profile.specs.declared.slot.Slot.{Slot}
use Rattle.bpf_profile.specs.Meaning.{instruction_at}

-- ---- the states that edges send to a slot

-- the state that comes to a slot along an edge, where the edge ends there and the check that makes the state passes
abbrev pub brought_to : {X : Type 0} → ℕ → Option ℕ → Result (AbsState X) RefusalNumber → Option (AbsState X)
brought_to place (Some to) (Ok a) = if to == place then Some a else None
brought_to place edge r = None

-- what the instruction at `from` sends to a slot along its jump edge (true) or its fall-through edge (false), by the state that is known before it
abbrev pub sent_along : {X : Type 0} → Ghosts X → ℕ → ℕ → ℕ → Bool → Option Instruction → Option (AbsState X) → Option (AbsState X)
sent_along domain context place from taken (Some i) (Some a) = brought_to place (edge_of from i taken) (transfer_in domain context a taken i)
sent_along domain context place from taken i a = None

-- what one slot sends to another: at most one state for each of its two edges
abbrev pub sent_from : {X : Type 0} → Ghosts X → ℕ → List Slot → (ℕ → Option (AbsState X)) → ℕ → ℕ → List (AbsState X)
sent_from domain context slots known place from =
    option_to_list (sent_along domain context place from false (instruction_at slots from) (known from))
    ++ option_to_list (sent_along domain context place from true (instruction_at slots from) (known from))

-- slot 0 begins with the entry state, which no edge sends
abbrev pub begun_with : {X : Type 0} → Ghosts X → ℕ → List (AbsState X)
begun_with domain place = if place == 0 then entry_state domain ∷ [] else []

-- the states that are sent to a slot by all slots of the program, one for each edge that leads there, where `known` says what is known before each slot
abbrev pub sent_to : {X : Type 0} → Ghosts X → ℕ → List Slot → (ℕ → Option (AbsState X)) → ℕ → List (AbsState X)
sent_to domain context slots known place = begun_with domain place ++ flat_map (sent_from domain context slots known place) (range_with_len 0 (length slots))

-- ---- the join of a list

-- the join of one with all of a list
abbrev pub joined_with : {A : Type 0} → (A → A → A) → A → List A → A
joined_with join a [] = a
joined_with join a (b ∷ more) = join a (joined_with join b more)

-- the join of all of a list; None where the list is empty
abbrev pub join_of : {A : Type 0} → (A → A → A) → List A → Option A
join_of join [] = None
join_of join (a ∷ more) = Some (joined_with join a more)

-- before each slot the join of all that is sent there is known, and nothing where nothing is sent
abbrev pub AreJoins : {X : Type 0} → Ghosts X → ℕ → List Slot → (ℕ → Option (AbsState X)) → Type 0
AreJoins domain context slots known = (place : ℕ) → known place ≡ join_of (joined_state domain) (sent_to domain context slots known place)
