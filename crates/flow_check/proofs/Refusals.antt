-- The first fault of a program, slot by slot.
use Rattle.std.proofs.Common.{◌≡◌, ℕ, suc, ◌+◌, ◌-◌, ◌<◌, ◌≤◌, Bool, true, false, List, length, get_or, Option, Some, None, sym, ap, ◌∙◌, arith}
use Rattle.std.specs.Prelude.{option_map}
use Rattle.std.specs.Option.{option_or, option_map_or}
use Rattle.std.proofs.lemmas.Bool.{cond-true, cond-false}
use Rattle.refusals.specs.declared.RefusalNumber.{RefusalNumber}
use Rattle.refusals.specs.declared.RefusalNumber.TheVariants.{Unreachable}
use Rattle.bpf_profile.specs.declared.instruction.Instruction.{Instruction}
use Rattle.bpf_profile.specs.declared.slot.Slot.{Slot}
use Rattle.bpf_profile.specs.FlowFaults.{is_entered, flow_fault_of, flow_fault_at, flow_fault_from}
use Rattle.bpf_profile.specs.Meaning.{instruction_at}
use Rattle.flow_check.specs.Passes.{AreEntered, edge_fault}

-- ---- at one slot

fault_there : (slots : List Slot) (place : ℕ) (i : Instruction) → instruction_at slots place ≡ Some i → flow_fault_at slots place ≡ flow_fault_of slots place i
unfolding flow_fault_at
fault_there slots place i at = ap (λ (o : Option Instruction). option_map_or (flow_fault_of slots place) o None) at

pub unentered : (slots : List Slot) (marks : List Bool) (place : ℕ) (i : Instruction) → AreEntered slots (length slots) marks → place < length slots → instruction_at slots place ≡ Some i
    → get_or marks place false ≡ false → flow_fault_at slots place ≡ Some Unreachable
unentered slots marks place i a h at unmarked = fault_there slots place i at ∙ cond-false (is_entered slots place) (edge_fault slots place i) (Some Unreachable) (sym (a.marked place h) ∙ unmarked)

pub entered : (slots : List Slot) (marks : List Bool) (place : ℕ) (i : Instruction) → AreEntered slots (length slots) marks → place < length slots → instruction_at slots place ≡ Some i
    → get_or marks place false ≡ true → flow_fault_at slots place ≡ edge_fault slots place i
entered slots marks place i a h at marked = fault_there slots place i at ∙ cond-true (is_entered slots place) (edge_fault slots place i) (Some Unreachable) (sym (a.marked place h) ∙ marked)

pub no_instruction : (slots : List Slot) (place : ℕ) → instruction_at slots place ≡ None → flow_fault_at slots place ≡ None
unfolding flow_fault_at
no_instruction slots place at = ap (λ (o : Option Instruction). option_map_or (flow_fault_of slots place) o None) at

-- ---- over all slots

more : (slots : List Slot) (place count : ℕ) → flow_fault_at slots place ≡ None → flow_fault_from slots place (suc count) ≡ flow_fault_from slots (suc place) count
unfolding flow_fault_from
more slots place count e = ap (λ (o : Option RefusalNumber). option_or (option_map (λ number. record { slot = place; number = number }) o) (flow_fault_from slots (suc place) count)) e

-- a slot with no fault is passed
pub passed : (slots : List Slot) (place next count : ℕ) → place < count → next ≡ place + 1 → flow_fault_at slots place ≡ None → flow_fault_from slots place (count - place) ≡ flow_fault_from slots next (count - next)
passed slots place next count h step e =
    let here : count - place ≡ suc (count - next) = omega (arith, h, step) in
    let there : suc place ≡ next = omega (arith, step) in
    ap (flow_fault_from slots place) here ∙ (more slots place (count - next) e ∙ ap (λ (n : ℕ). flow_fault_from slots n (count - next)) there)

at_fault : (slots : List Slot) (place count : ℕ) (number : RefusalNumber) → flow_fault_at slots place ≡ Some number → flow_fault_from slots place (suc count) ≡ Some (record { slot = place; number = number })
unfolding flow_fault_from
at_fault slots place count number e = ap (λ (o : Option RefusalNumber). option_or (option_map (λ number. record { slot = place; number = number }) o) (flow_fault_from slots (suc place) count)) e

-- the first slot with a fault
pub found : (slots : List Slot) (place count : ℕ) (number : RefusalNumber) → place < count → flow_fault_at slots place ≡ Some number
    → flow_fault_from slots place (count - place) ≡ Some (record { slot = place; number = number })
found slots place count number h e =
    let here : count - place ≡ suc (count - suc place) = omega (arith, h) in
    ap (flow_fault_from slots place) here ∙ at_fault slots place (count - suc place) number e

pub nothing_left : (slots : List Slot) (place count : ℕ) → count ≤ place → flow_fault_from slots place (count - place) ≡ None
unfolding flow_fault_from
nothing_left slots place count h =
    let none : count - place ≡ 0 = omega (arith, h) in
    ap (flow_fault_from slots place) none
