-- Marks of the slots to which edges lead.
use Rattle.std.proofs.Common.{◌≡◌, ℕ, suc, ◌+◌, ◌<◌, ◌==◌, ◌||◌, inl, inr, Bool, true, false, List, [], ◌∷◌, ◌++◌, length, get_or, set, replicate, Option, Some, None, refl, sym, ap, ◌∙◌, subst, arith, add-one}
use Rattle.std.specs.Prelude.{option_map, option_to_list}
use Rattle.std.specs.List.{list_any}
use Rattle.std.specs.Option.{option_map_or}
use Rattle.std.proofs.lemmas.Bool.{cases_eq, eq-eqb, ne_eqb}
use Rattle.std.proofs.lemmas.List.{length-set, get_or-set_same, get_or-set_other, get_or-replicate, length-replicate}
use Rattle.bpf_profile.specs.declared.instruction.Instruction.{Instruction}
use Rattle.bpf_profile.specs.declared.slot.Slot.{Slot}
use Rattle.bpf_profile.specs.Flow.{successors, edges_of, next_of, distance_of}
use Rattle.bpf_profile.specs.FlowFaults.{is_entered_from}
use Rattle.bpf_profile.specs.Machine.{target_of}
use Rattle.bpf_profile.specs.Meaning.{instruction_at}
use Rattle.flow_check.specs.Passes.{AreEntered, marked_all}

-- ---- the edges of a slot

pub successors_at : (slots : List Slot) (place : ℕ) (i : Instruction) → instruction_at slots place ≡ Some i → successors slots place ≡ edges_of place i
unfolding successors
successors_at slots place i e = ap (λ (o : Option Instruction). option_map_or (edges_of place) o []) e

pub successors_none : (slots : List Slot) (place : ℕ) → instruction_at slots place ≡ None → successors slots place ≡ []
unfolding successors
successors_none slots place e = ap (λ (o : Option Instruction). option_map_or (edges_of place) o []) e

pub edges_listed : (slots : List Slot) (place : ℕ) (i : Instruction) (next target : Option ℕ) → instruction_at slots place ≡ Some i
    → next ≡ next_of place i → target ≡ option_map (target_of place) (distance_of i) → option_to_list next ++ option_to_list target ≡ successors slots place
edges_listed slots place i next target at n t =
    ap (λ (o : Option ℕ). option_to_list o ++ option_to_list target) n
    ∙ (ap (λ (o : Option ℕ). option_to_list (next_of place i) ++ option_to_list o) t ∙ sym (successors_at slots place i at))

-- ---- marks

length-marked_all : (marks : List Bool) (xs : List ℕ) → length (marked_all marks xs) ≡ length marks
length-marked_all marks [] = refl
length-marked_all marks (x ∷ xs) = length-marked_all (set marks x true) xs ∙ length-set marks x true

marked_all-append : (marks : List Bool) (xs ys : List ℕ) → marked_all marks (xs ++ ys) ≡ marked_all (marked_all marks xs) ys
marked_all-append marks [] ys = refl
marked_all-append marks (x ∷ xs) ys = marked_all-append (set marks x true) xs ys

mid_or : (a b c : Bool) → (a || (b || c)) ≡ ((b || a) || c)
mid_or true true c = refl
mid_or true false c = refl
mid_or false true c = refl
mid_or false false c = refl

swap_or : (a b c : Bool) → (a || (b || c)) ≡ (b || (a || c))
swap_or true true c = refl
swap_or true false c = refl
swap_or false true c = refl
swap_or false false c = refl

marked_one : (marks : List Bool) (x k : ℕ) → k < length marks → get_or (set marks x true) k false ≡ ((x == k) || get_or marks k false)
marked_one marks x k h =
    elim (cases_eq x k) [
      | inl e ↦
          let yes : (x == k) ≡ true = eq-eqb x k e in
          rw yes (subst (λ (n : ℕ). get_or (set marks n true) k false ≡ true) (sym e) (get_or-set_same marks k true false h))
      | inr n ↦
          let no : (x == k) ≡ false = ne_eqb x k n in
          rw no (get_or-set_other marks x k true false (λ e. n (sym e)))
    ]

marked_at : (marks : List Bool) (xs : List ℕ) (k : ℕ) → k < length marks → get_or (marked_all marks xs) k false ≡ (list_any (λ to. to == k) xs || get_or marks k false)
marked_at marks [] k h = refl
marked_at marks (x ∷ xs) k h =
    let within : k < length (set marks x true) = omega (arith, length-set marks x true) in
    marked_at (set marks x true) xs k within
    ∙ (ap (λ (b : Bool). list_any (λ to. to == k) xs || b) (marked_one marks x k h) ∙ mid_or (list_any (λ to. to == k) xs) (x == k) (get_or marks k false))

-- what marking both edges of an instruction gives
pub marked_edges : (slots : List Slot) (place : ℕ) (i : Instruction) (marks first second : List Bool) (next target : Option ℕ) → instruction_at slots place ≡ Some i
    → next ≡ next_of place i → target ≡ option_map (target_of place) (distance_of i)
    → first ≡ marked_all marks (option_to_list next) → second ≡ marked_all first (option_to_list target) → second ≡ marked_all marks (successors slots place)
marked_edges slots place i marks first second next target at n t f s =
    let both : second ≡ marked_all (marked_all marks (option_to_list next)) (option_to_list target) = s ∙ ap (λ (m : List Bool). marked_all m (option_to_list target)) f in
    both ∙ (sym (marked_all-append marks (option_to_list next) (option_to_list target)) ∙ ap (marked_all marks) (edges_listed slots place i next target at n t))

pub marked_none : (slots : List Slot) (place : ℕ) (marks : List Bool) → instruction_at slots place ≡ None → marks ≡ marked_all marks (successors slots place)
marked_none slots place marks at = sym (ap (marked_all marks) (successors_none slots place at))

-- ---- which slots are entered

zero_first : (k : ℕ) → (0 == k) ≡ (k == 0)
zero_first k = elim (cases_eq 0 k) [ inl e ↦ eq-eqb 0 k e ∙ sym (eq-eqb k 0 (sym e)) | inr n ↦ ne_eqb 0 k n ∙ sym (ne_eqb k 0 (λ e. n (sym e))) ]

pub entered_start : (slots : List Slot) (n : ℕ) (fresh marks : List Bool) → n ≡ length slots → fresh ≡ replicate n false → marks ≡ marked_all fresh (0 ∷ []) → AreEntered slots 0 marks
entered_start slots n fresh marks size e m = record {
  sized = ap length m ∙ (length-marked_all fresh (0 ∷ []) ∙ sizes);
  marked = λ k h. ap (λ (l : List Bool). get_or l k false) m ∙ (marked_at fresh (0 ∷ []) k (omega (arith, sizes, h)) ∙ here k (omega (arith, size, h)));
}
  where
    sizes : length fresh ≡ length slots
    sizes = ap length e ∙ (length-replicate n false ∙ size)

    plain : (a b : Bool) → a ≡ b → ((a || false) || false) ≡ (b || false)
    plain true b p = ap (λ (x : Bool). x || false) p
    plain false b p = ap (λ (x : Bool). x || false) p

    here : (k : ℕ) → k < n → (list_any (λ to. to == k) (0 ∷ []) || get_or fresh k false) ≡ ((k == 0) || false)
    here k h =
        let none : get_or fresh k false ≡ false = ap (λ (l : List Bool). get_or l k false) e ∙ get_or-replicate n k false false h in
        ap (λ (b : Bool). list_any (λ to. to == k) (0 ∷ []) || b) none ∙ plain (0 == k) (k == 0) (zero_first k)

pub entered_step : (slots : List Slot) (n m : ℕ) (marks more : List Bool) → m ≡ n + 1 → AreEntered slots n marks → more ≡ marked_all marks (successors slots n) → AreEntered slots m more
entered_step slots n m marks more next a e = subst (λ (k : ℕ). AreEntered slots k more) (sym (next ∙ add-one n)) step
  where
    step : AreEntered slots (suc n) more
    step = record {
      sized = ap length e ∙ (length-marked_all marks (successors slots n) ∙ a.sized);
      marked = λ k h.
          ap (λ (l : List Bool). get_or l k false) e
          ∙ (marked_at marks (successors slots n) k (omega (arith, a.sized, h))
          ∙ (ap (λ (b : Bool). list_any (λ to. to == k) (successors slots n) || b) (a.marked k h)
          ∙ swap_or (list_any (λ to. to == k) (successors slots n)) (k == 0) (is_entered_from slots k n)));
    }
