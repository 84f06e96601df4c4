-- What an accepted flow says of a program's edges.
use Rattle.std.proofs.Common.{◌≡◌, ℕ, zero, suc, ◌+◌, ◌<◌, ◌==◌, ◌⊎◌, inl, inr, Bool, true, false, cond, List, [], ◌∷◌, ◌++◌, length, get_or, Option, Some, None, refl, subst, arith}
use Rattle.std.specs.Prelude.{option_map, option_and_then, option_to_list, slice_get, Contains, All, IfSome, IsSome}
use Rattle.std.specs.List.{list_any}
use Rattle.std.specs.Option.{option_or, option_map_or}
use Rattle.std.specs.Result.{result_ok}
use Rattle.std.proofs.lemmas.Bool.{cases_lt, or_cases, eqb-true}
use Rattle.std.proofs.lemmas.Option.{slice_get_past}
use Rattle.refusals.specs.declared.RefusalNumber.{RefusalNumber}
use Rattle.refusals.specs.declared.RefusalNumber.TheVariants.{Unreachable}
use Rattle.bpf_profile.specs.declared.instruction.Instruction.{Instruction}
use Rattle.bpf_profile.specs.declared.slot.Slot.{Slot}
use Rattle.bpf_profile.specs.Limits.{most_slots}
use Rattle.bpf_profile.specs.Flow.{Edge, successors, edges_of}
use Rattle.bpf_profile.specs.FlowFaults.{is_entered, is_entered_from, flow_fault, flow_fault_at, flow_fault_of, flow_fault_from}
use Rattle.bpf_profile.specs.Meaning.{instruction_at}
use Rattle.bpf_profile.specs.Slots.{instruction_of}
use Rattle.bpf_profile.specs.Spelling.{IsProgram}
use Rattle.bpf_profile.proofs.Edges.{edges_forward}
use Rattle.flow_check.specs.Passes.{edge_fault}

-- a program whose flow is accepted
pub record IsAccepted (slots : List Slot) : Type 0 where
  pub program : IsProgram slots
  pub faultless : flow_fault slots ≡ None

-- ---- where edges lead

instruction_within : (slots : List Slot) (place : ℕ) → IsSome (instruction_at slots place) → place < length slots
instruction_within slots place h =
    elim (cases_lt place (length slots)) [
      | inl lt ↦ lt
      | inr le ↦ absurd (none (subst (λ (o : Option Slot). IsSome (option_and_then (λ slot. result_ok (instruction_of slot (slice_get slots (suc place)))) o)) (slice_get_past slots place le) h))
    ]
  where
    none : ◌≡◌ {A = Bool} false true → ⊥
    none e = cc

-- an edge leads forward, to an instruction
pub forward : (slots : List Slot) → IsAccepted slots → (from to : ℕ) → Edge slots from to → (from < to) × (to < length slots)
forward slots a from to edge = let f = edges_forward slots a.program a.faultless from to edge in (f.0, instruction_within slots to f.1)

-- an edge leads from an instruction
pub comes : (slots : List Slot) (from to : ℕ) → Edge slots from to → IsSome (instruction_at slots from)
unfolding successors
comes slots from to edge = there (instruction_at slots from) edge
  where
    there : (o : Option Instruction) → Contains (option_map_or (edges_of from) o []) to → IsSome o
    there None (k, h, e) = absurd (omega arith)
    there (Some i) edge = refl

pub all_inside : (slots : List Slot) → IsAccepted slots → (from : ℕ) (edges : List ℕ) → edges ≡ successors slots from → All (λ to. to < length slots) edges
all_inside slots a from edges e k d h =
    let edge : Contains (successors slots from) (get_or edges k d) = subst (λ (l : List ℕ). Contains l (get_or edges k d)) e (k, h, same edges k d h) in
    (forward slots a from (get_or edges k d) edge).1
  where
    same : (l : List ℕ) (k d : ℕ) → k < length l → get_or l k (get_or l k d) ≡ get_or l k d
    same [] k d h = absurd (omega arith)
    same (x ∷ l) zero d h = refl
    same (x ∷ l) (suc k) d h = same l k d (omega arith)

first_of_two : (P : ℕ → Type 0) (a b : Option ℕ) → All P (option_to_list a ++ option_to_list b) → IfSome a P
first_of_two P None b h = tt
first_of_two P (Some x) None h = h 0 0 (omega arith)
first_of_two P (Some x) (Some y) h = h 0 0 (omega arith)

second_of_two : (P : ℕ → Type 0) (a b : Option ℕ) → All P (option_to_list a ++ option_to_list b) → IfSome b P
second_of_two P a None h = tt
second_of_two P None (Some y) h = h 0 0 (omega arith)
second_of_two P (Some x) (Some y) h = h 1 0 (omega arith)

-- ---- each instruction is entered

or_none : {A : Type 0} (a b : Option A) → option_or a b ≡ None → a ≡ None
or_none None b e = refl
or_none {A} (Some x) b e = absurd (let f : ◌≡◌ {A = Option A} (Some x) None = e in cc)

or_none_last : {A : Type 0} (a b : Option A) → option_or a b ≡ None → b ≡ None
or_none_last None b e = e
or_none_last {A} (Some x) b e = absurd (let f : ◌≡◌ {A = Option A} (Some x) None = e in cc)

map_none : {A B : Type 0} (f : A → B) (o : Option A) → option_map f o ≡ None → o ≡ None
map_none f None e = refl
map_none {A} {B} f (Some x) e = absurd (let g : ◌≡◌ {A = Option B} (Some (f x)) None = e in cc)

no_fault_at : (slots : List Slot) (place count k : ℕ) → flow_fault_from slots place count ≡ None → k < count → flow_fault_at slots (place + k) ≡ None
unfolding flow_fault_from
no_fault_at slots place zero k e h = absurd (omega arith)
no_fault_at slots place (suc count) zero e h =
    subst (λ (n : ℕ). flow_fault_at slots n ≡ None) (omega arith) (map_none _ (flow_fault_at slots place) (or_none _ _ e))
no_fault_at slots place (suc count) (suc k) e h =
    subst (λ (n : ℕ). flow_fault_at slots n ≡ None) (omega arith) (no_fault_at slots (suc place) count k (or_none_last _ _ e) (omega arith))

is_then : (test : Bool) (o : Option RefusalNumber) → cond test o (Some Unreachable) ≡ None → test ≡ true
is_then true o e = refl
is_then false o e = absurd (let f : ◌≡◌ {A = Option RefusalNumber} (Some Unreachable) None = e in cc)

entered_where : (slots : List Slot) (place : ℕ) (o : Option Instruction) → IsSome o → option_map_or (flow_fault_of slots place) o None ≡ None → is_entered slots place ≡ true
entered_where slots place None h e = absurd (let f : ◌≡◌ {A = Bool} false true = h in cc)
entered_where slots place (Some i) h e = is_then (is_entered slots place) (edge_fault slots place i) e

pub is_entered_at : (slots : List Slot) → IsAccepted slots → (place : ℕ) → IsSome (instruction_at slots place) → is_entered slots place ≡ true
unfolding flow_fault_at
is_entered_at slots a place there =
    let none : flow_fault_at slots place ≡ None = subst (λ (n : ℕ). flow_fault_at slots n ≡ None) (omega arith) (no_fault_at slots 0 (length slots) place a.faultless (instruction_within slots place there)) in
    entered_where slots place (instruction_at slots place) there none

any_contains : (xs : List ℕ) (place : ℕ) → list_any (λ to. to == place) xs ≡ true → Contains xs place
any_contains [] place h = absurd (let f : ◌≡◌ {A = Bool} false true = h in cc)
any_contains (x ∷ xs) place h =
    elim (or_cases (x == place) (list_any (λ to. to == place) xs) h) [
      | inl e ↦ (0, omega arith, eqb-true x place e)
      | inr e ↦ let c = any_contains xs place e in (suc c.0, omega (arith, c.1), c.2)
    ]

entered_by : (slots : List Slot) (place count : ℕ) → is_entered_from slots place count ≡ true → (from : ℕ) × Edge slots from place
entered_by slots place zero h = absurd (let f : ◌≡◌ {A = Bool} false true = h in cc)
entered_by slots place (suc count) h =
    elim (or_cases (list_any (λ to. to == place) (successors slots count)) (is_entered_from slots place count) h) [
      | inl e ↦ (count, any_contains (successors slots count) place e)
      | inr e ↦ entered_by slots place count e
    ]

-- an instruction stands at slot 0, or an edge leads to it
pub entered_from : (slots : List Slot) → IsAccepted slots → (place : ℕ) → IsSome (instruction_at slots place) → (place ≡ 0) ⊎ ((from : ℕ) × Edge slots from place)
entered_from slots a place there =
    elim (or_cases (place == 0) (is_entered_from slots place (length slots)) (is_entered_at slots a place there)) [
      | inl e ↦ inl (eqb-true place 0 e)
      | inr e ↦ inr (entered_by slots place (length slots) e)
    ]

-- the two edges of a slot are within the first 4,096
pub both_few : (slots : List Slot) → IsAccepted slots → (from : ℕ) (next target : Option ℕ) → option_to_list next ++ option_to_list target ≡ successors slots from
    → IfSome next (λ n. n < most_slots) × IfSome target (λ n. n < most_slots)
both_few slots a from next target e =
    let inside = all_inside slots a from (option_to_list next ++ option_to_list target) e in
    let few : All (λ n. n < most_slots) (option_to_list next ++ option_to_list target) = λ k d h. let at = inside k d h in omega (arith, at, a.program.few) in
    (first_of_two (λ n. n < most_slots) next target few, second_of_two (λ n. n < most_slots) next target few)
