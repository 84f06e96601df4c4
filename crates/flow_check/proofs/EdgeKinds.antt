-- The edges of an accepted program, by their kinds.
use Rattle.std.proofs.Common.{◌≡◌, ℕ, zero, suc, ◌+◌, ◌<◌, ◌++◌, List, [], length, map, Option, Some, None, refl, sym, ap, ◌∙◌, arith}
use Rattle.std.specs.List.{range_with_len}
use Rattle.std.specs.Option.{option_map_or}
use Rattle.std.specs.Prelude.{All, option_and_then, option_map, option_to_list, slice_get}
use Rattle.bpf_profile.specs.declared.instruction.Instruction.{Instruction}
use Rattle.bpf_profile.specs.declared.slot.Slot.{Slot}
use Rattle.bpf_profile.specs.Limits.{most_slots}
use Rattle.bpf_profile.specs.Flow.{IsBudget, successors, edges_of, next_of, distance_of}
use Rattle.bpf_profile.specs.Machine.{target_of}
use Rattle.bpf_profile.specs.Meaning.{instruction_at}
use Rattle.bpf_profile.proofs.Budgets.{budget_some, budget_few}
use Rattle.flow_check.specs.declared.edges.Successors.{Successors}
use Rattle.flow_check.specs.Routes.{successor_list, successors_at, AreFew}
use Rattle.flow_check.proofs.Accepted.{IsAccepted, all_inside}

-- a list of what a function makes of places has that of each place
at_place : (f : ℕ → Successors) (start count place : ℕ) (s : Successors) → slice_get (map f (range_with_len start count)) place ≡ Some s → s ≡ f (start + place)
at_place f start zero place s e = absurd (let g : ◌≡◌ {A = Option Successors} None (Some s) = e in cc)
at_place f start (suc count) zero s e =
    let g : ◌≡◌ {A = Option Successors} (Some (f start)) (Some s) = e in
    let same : f start ≡ s = cc in
    sym same ∙ ap f (omega arith)
at_place f start (suc count) (suc place) s e = at_place f (start + 1) count place s e ∙ ap f (omega arith)

-- taken together they are the edges
list_of : (slots : List Slot) (place : ℕ) → successor_list (successors_at slots place) ≡ successors slots place
unfolding successors
list_of slots place = by_instruction (instruction_at slots place)
  where
    by_instruction : (o : Option Instruction) → option_to_list (option_and_then (next_of place) o) ++ option_to_list (option_and_then (λ i. option_map (target_of place) (distance_of i)) o) ≡ option_map_or (edges_of place) o []
    by_instruction None = refl
    by_instruction (Some i) = refl

pub are_few : (slots : List Slot) → IsAccepted slots → (kinds : List Successors) (budget : ℕ) → kinds ≡ map (successors_at slots) (range_with_len 0 (length slots)) → IsBudget slots budget → AreFew kinds budget
are_few slots a kinds budget e b = record {
  some_steps = budget_some slots budget b;
  few_steps = (let few = budget_few slots budget a.program a.faultless b in omega (arith, few, a.program.few));
  few_slots = λ place s at.
      let is : s ≡ successors_at slots place = at_place (successors_at slots) 0 (length slots) place s (sym (ap (λ (l : List Successors). slice_get l place) e) ∙ at) ∙ ap (successors_at slots) (omega arith) in
      few place (successor_list s) (ap successor_list is ∙ list_of slots place);
}
  where
    few : (place : ℕ) (edges : List ℕ) → edges ≡ successors slots place → All (λ to. to < most_slots) edges
    few place edges same = λ k d h. (let inside = all_inside slots a place edges same k d h in omega (arith, inside, a.program.few))
