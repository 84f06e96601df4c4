-- What one pass over the slots does to its list of abstract states: each slot is sent what its predecessors send, and joins it.
use Rattle.std.specs.Prelude.{◌≡◌, ℕ, true, List, [], ◌∷◌, map, replicate, slice_set, slice_index_or, Option, Some, None, option_map, Ok, Box, box_value}
use Rattle.abs_domain.specs.declared.domain.Domain.{Ghosts}
use Rattle.abs_states.specs.declared.state.AbsState.{AbsState}
use Rattle.abs_states.specs.States.{entry_state}
use Rattle.abs_states.specs.Transfers.{transfer_in}
use Rattle.bpf_profile.specs.declared.instruction.Instruction.{Instruction}
use Rattle.verifier.specs.Analysis.{Message, joined_into}

abbrev pub state_of : {X : Type 0} → List (Option (AbsState X)) → ℕ → Option (AbsState X)
state_of states place = slice_index_or states place None

-- the states before the pass: the entry state at slot 0, none elsewhere
abbrev pub entry_states : {X : Type 0} → Ghosts X → ℕ → List (Option (AbsState X))
entry_states domain count = slice_set (replicate count None) 0 (Some (entry_state domain))

-- the states that boxes have
abbrev pub seen : {X Z : Type 0} → List (Option (Box X Z)) → List (Option X)
seen states = map (option_map box_value) states

-- the state of a slot is no longer there
abbrev pub dropped : {X : Type 0} → List (Option (AbsState X)) → ℕ → List (Option (AbsState X))
dropped states place = slice_set states place None

abbrev pub delivered : {X : Type 0} → Ghosts X → List (Option (AbsState X)) → Message X → List (Option (AbsState X))
delivered domain states message = slice_set states message.to (Some (joined_into domain (state_of states message.to) message.state))

abbrev pub delivered_all : {X : Type 0} → Ghosts X → List (Option (AbsState X)) → List (Message X) → List (Option (AbsState X))
delivered_all domain states [] = states
delivered_all domain states (message ∷ more) = delivered_all domain (delivered domain states message) more

-- the state on the jump edge of an instruction was joined into the one at a slot
abbrev pub IsJumpJoined : {X : Type 0} → Ghosts X → List (Option (AbsState X)) → ℕ → AbsState X → Instruction → List (Option (AbsState X)) → Type 0
IsJumpJoined {X} domain before target a i after = (s : AbsState X) × ((context : ℕ) → transfer_in domain context a true i ≡ Ok s) × (after ≡ delivered domain before (record { to = target; state = s }))
