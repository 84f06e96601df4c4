-- Marks that are counted from a place on.
use Rattle.std.proofs.Common.{◌≡◌, ℕ, zero, suc, ◌+◌, ◌-◌, ◌<◌, ◌≤◌, ◌||◌, ◌⊎◌, inl, inr, Bool, true, false, cond, List, [], ◌∷◌, ◌++◌, length, drop, get_or, max, Option, Some, None, refl, sym, ap, ◌∙◌, subst, arith}
use Rattle.std.proofs.lemmas.Bool.{ne_eqb, cases_lt}
use Rattle.std.proofs.lemmas.List.{length-drop}
use Rattle.std.proofs.lemmas.List.Sums.{sum_by-set, sum_by-cons, sum_by-drop_more}
use Rattle.std.specs.List.{count_by, range_with_len}
use Rattle.std.specs.Option.{option_map_or}
use Rattle.std.specs.Prelude.{IsSome, IfSome, Contains, replicate, slice_set, option_to_list}
use Rattle.std.proofs.lemmas.List.Elements.{Contains-append_left, Contains-append_right}
use Rattle.bpf_profile.specs.declared.slot.Slot.{Slot}
use Rattle.bpf_profile.specs.Flow.{successors}
use Rattle.bpf_profile.specs.FlowFaults.{is_entered_from, flow_fault}
use Rattle.bpf_profile.specs.Meaning.{instruction_at}
use Rattle.bpf_profile.specs.Spelling.{IsProgram}
use Rattle.flow_check.specs.Passes.{AreEntered}
use Rattle.verifier.proofs.Edges.{forward, to_instruction, within}
use Rattle.verifier.proofs.Sound.{starts}
use Rattle.bpf_profile.specs.declared.instruction.Instruction.{Instruction}
use Rattle.verifier.specs.Width.{awaited_after, count_from, IsWidth}

-- ---- one mark more

one_more : (m : Bool) (a b : ℕ) → b + cond m 1 0 ≡ a + 1 → b ≡ a + cond m 0 1
one_more true a b e = omega (arith, e)
one_more false a b e = omega (arith, e)

pub count_set : (marks : List Bool) (from k : ℕ) → from ≤ k → k < length marks → count_from from (slice_set marks k true) ≡ count_from from marks + cond (get_or marks k false) 0 1
count_set marks zero k le h = one_more (get_or marks k false) (count_by (λ m. m) marks) (count_by (λ m. m) (slice_set marks k true)) (sum_by-set (λ m. cond m 1 0) marks k true false h)
count_set [] (suc from) k le h = absurd (omega arith)
count_set (m ∷ marks) (suc from) zero le h = absurd (omega arith)
count_set (m ∷ marks) (suc from) (suc k) le h = count_set marks from k (omega arith) (omega arith)

pub new_mark : (marks : List Bool) (from k : ℕ) (is_marked : Bool) → from ≤ k → k < length marks → get_or marks k false ≡ is_marked → count_from from (slice_set marks k true) ≡ count_from from marks + cond is_marked 0 1
new_mark marks from k is_marked le h e = count_set marks from k le h ∙ ap (λ (b : Bool). count_from from marks + cond b 0 1) e

-- ---- the mark at a place

count_on : (marks : List Bool) (place : ℕ) (m : Bool) → place < length marks → get_or marks place false ≡ m → count_from place marks ≡ cond m 1 0 + count_from (place + 1) marks
count_on marks place m h e = sum_by-drop_more (λ m. cond m 1 0) marks place false h ∙ ap (λ (b : Bool). cond b 1 0 + count_from (place + 1) marks) e

pub count_yes : (marks : List Bool) (place : ℕ) → place < length marks → get_or marks place false ≡ true → count_from place marks ≡ 1 + count_from (place + 1) marks
count_yes marks place h e = count_on marks place true h e

pub count_no : (marks : List Bool) (place : ℕ) → place < length marks → get_or marks place false ≡ false → count_from place marks ≡ count_from (place + 1) marks
count_no marks place h e = let c = count_on marks place false h e in omega (arith, c)

pub count_none : (n : ℕ) (marks : List Bool) → marks ≡ replicate n false → count_from 0 marks ≡ 0
count_none n marks e = ap (count_by (λ m. m)) e ∙ none n
  where
    none : (n : ℕ) → count_by (λ m. m) (replicate n false) ≡ 0
    none zero = refl
    none (suc n) = sum_by-cons (λ m. cond m 1 0) false (replicate n false) ∙ (let rest = none n in omega (arith, rest))

-- ---- both edges of a slot

-- where the edges of a slot of an accepted program lead to
next_ahead : (slots : List Slot) (place : ℕ) (next target : Option ℕ) → IsProgram slots → flow_fault slots ≡ None → (option_to_list next ++ option_to_list target) ≡ successors slots place → IfSome next (λ slot. place + 1 ≤ slot)
next_ahead slots place None target program accepted e = tt
next_ahead slots place (Some n) target program accepted e =
    let f = (forward slots program accepted place n (subst (λ (to : List ℕ). Contains to n) e (Contains-append_left (n ∷ []) (option_to_list target) n (0, omega arith, refl)))).0 in omega (arith, f)

target_ahead : (slots : List Slot) (place : ℕ) (next target : Option ℕ) → IsProgram slots → flow_fault slots ≡ None → (option_to_list next ++ option_to_list target) ≡ successors slots place → IfSome target (λ slot. place + 1 ≤ slot)
target_ahead slots place next None program accepted e = tt
target_ahead slots place next (Some n) program accepted e =
    let f = (forward slots program accepted place n (subst (λ (to : List ℕ). Contains to n) e (Contains-append_right (option_to_list next) (n ∷ []) n (0, omega arith, refl)))).0 in omega (arith, f)

-- the count behind a slot once its edges are marked
pub count_passed : (slots : List Slot) (place awaited others one two : ℕ) (next target : Option ℕ) (marks first second : List Bool) → IsProgram slots → flow_fault slots ≡ None → (option_to_list next ++ option_to_list target) ≡ successors slots place
    → others ≡ count_from (place + 1) marks
    → ((from : ℕ) → IfSome next (λ slot. from ≤ slot) → count_from from first ≡ count_from from marks + one)
    → ((from : ℕ) → IfSome target (λ slot. from ≤ slot) → count_from from second ≡ count_from from first + two)
    → others + one + two ≡ count_from (place + 1) second
count_passed slots place awaited others one two next target marks first second program accepted e o f s =
    let a = f (place + 1) (next_ahead slots place next target program accepted e) in
    let b = s (place + 1) (target_ahead slots place next target program accepted e) in
    omega (arith, o, a, b)

-- ---- marks and definition

counted_range : (marks : List Bool) (p : ℕ → Bool) (start : ℕ) → ((j : ℕ) → j < length marks → get_or marks j false ≡ p (start + j)) → count_by (λ m. m) marks ≡ count_by p (range_with_len start (length marks))
counted_range [] p start h = refl
counted_range (m ∷ marks) p start h =
    let here : m ≡ p start = h 0 (omega arith) ∙ ap p (omega arith) in
    let rest = counted_range marks p (start + 1) (λ j lt. h (suc j) (omega arith) ∙ ap p (omega arith)) in
    sum_by-cons (λ b. cond b 1 0) m marks
    ∙ (ap (λ (b : Bool). cond b 1 0 + count_by (λ b. b) marks) here
    ∙ (ap (λ (n : ℕ). cond (p start) 1 0 + n) rest
    ∙ sym (sum_by-cons (λ n. cond (p n) 1 0) start (range_with_len (start + 1) (length marks)))))

get_drop : (marks : List Bool) (n j : ℕ) → get_or (drop n marks) j false ≡ get_or marks (n + j) false
get_drop marks zero j = ap (λ (k : ℕ). get_or marks k false) (omega arith)
get_drop [] (suc n) j = refl
get_drop (m ∷ marks) (suc n) j = get_drop marks n j ∙ ap (λ (k : ℕ). get_or (m ∷ marks) k false) (let s : suc (n + j) ≡ suc n + j = omega arith in s)

pub count_is : (slots : List Slot) (place : ℕ) (marks : List Bool) → place < length slots → AreEntered slots (place + 1) marks → count_from (place + 1) marks ≡ awaited_after slots place
count_is slots place marks h p =
    let long : length (drop (place + 1) marks) ≡ length slots - suc place = (let l = length-drop (place + 1) marks in let s = p.sized in omega (arith, l, s)) in
    let next : place + 1 ≡ suc place = omega arith in
    counted_range (drop (place + 1) marks) (λ to. is_entered_from slots to (suc place)) (suc place)
    (λ j lt. get_drop marks (place + 1) j
    ∙ (p.marked (place + 1 + j) (omega (arith, long, lt))
    ∙ (ap (λ (b : Bool). b || is_entered_from slots (place + 1 + j) (place + 1)) (ne_eqb (place + 1 + j) 0 (omega arith))
    ∙ (ap (λ (n : ℕ). is_entered_from slots (n + j) n) next))))
    ∙ ap (λ (n : ℕ). count_by (λ to. is_entered_from slots to (suc place)) (range_with_len (suc place) n)) long

-- ---- the greatest count

-- after an instruction so many are awaited
pub record Reaches (slots : List Slot) (width : ℕ) : Type 0 where
  pub widest : ℕ
  pub instruction : IsSome (instruction_at slots widest)
  pub reached : awaited_after slots widest ≡ width

-- after none of the first so many instructions are more awaited
pub record IsWidest (slots : List Slot) (place width : ℕ) : Type 0 where
  pub most : (i : ℕ) → i < place → IsSome (instruction_at slots i) → awaited_after slots i ≤ width
  pub reached : ((place ≡ 0) × (width ≡ 0)) ⊎ Reaches slots width

pub widest_none : (slots : List Slot) → IsWidest slots 0 0
widest_none slots = record { most = λ i h some. absurd (omega arith); reached = inl (refl, refl) }

pub if_some_at : (P : ℕ → Type 0) (o : Option ℕ) (n : ℕ) → o ≡ Some n → IfSome o P → P n
if_some_at P o n e h = subst (λ (k : Option ℕ). IfSome k P) e h

-- one slot more
pub widest_more : (slots : List Slot) (place width held : ℕ) → IsSome (instruction_at slots place) → held ≡ awaited_after slots place → IsWidest slots place width → IsWidest slots (place + 1) (max held width)
widest_more slots place width held some e p = record {
  most = λ i h here. elim (cases_lt i place) [
    | inl before ↦ (let m = p.most i before here in omega (arith, m))
    | inr after ↦ (let same : i ≡ place = omega (arith, h, after) in let there = ap (awaited_after slots) same in omega (arith, there, e))
  ];
  reached = elim (cases_lt held width) [
    | inl less ↦ (let m : max held width ≡ width = omega (arith, less) in elim p.reached [
      | inl none ↦ absurd (let w = none.1 in omega (arith, w, less))
      | inr r ↦ inr (subst (Reaches slots) (sym m) r)
    ])
    | inr more ↦ (let m : max held width ≡ held = omega (arith, more) in inr (record { widest = place; instruction = some; reached = sym e ∙ sym m }))
  ];
}

-- a tail more
pub widest_tail : (slots : List Slot) (place width : ℕ) → IsProgram slots → instruction_at slots place ≡ None → IsWidest slots place width → IsWidest slots (place + 1) width
widest_tail slots place width program none p = record {
  most = λ i h here. elim (cases_lt i place) [
    | inl before ↦ p.most i before here
    | inr after ↦ (let same : i ≡ place = omega (arith, h, after) in absurd (not_there (instruction_at slots place) none (subst (λ (n : ℕ). IsSome (instruction_at slots n)) same here)))
  ];
  reached = elim p.reached [
    | inl none_yet ↦ absurd (not_there (instruction_at slots place) none (subst (λ (n : ℕ). IsSome (instruction_at slots n)) (sym none_yet.0) (starts slots program)))
    | inr r ↦ inr r
  ];
}
  where
    not_there : (o : Option Instruction) → o ≡ None → IsSome o → ⊥
    not_there None e h = (let g : false ≡ true = h in cc)
    not_there (Some i) e h = (let g : ◌≡◌ {A = Option Instruction} (Some i) None = e in cc)

pub is_width : (slots : List Slot) (place width : ℕ) → 0 < length slots → length slots ≤ place → ((i : ℕ) → IsSome (instruction_at slots i) → i < length slots) → IsWidest slots place width → IsWidth slots width
is_width slots place width some all inside p = elim p.reached [
  | inl none ↦ absurd (let n = none.0 in omega (arith, n, some, all))
  | inr r ↦ record { most = λ i here. p.most i (let w = inside i here in omega (arith, w, all)) here; widest = r.widest; instruction = r.instruction; reached = r.reached }
]

pub instructions_inside : (slots : List Slot) (i : ℕ) → IsSome (instruction_at slots i) → i < length slots
instructions_inside slots i h = let there = to_instruction slots i h in within slots i there.0 there.1

pub widest_turn : (slots : List Slot) (place width held after : ℕ) → IsProgram slots → held ≡ awaited_after slots place → IsWidest slots place width → after ≡ option_map_or (λ i. max held width) (instruction_at slots place) width → IsWidest slots (place + 1) after
widest_turn slots place width held after program e p is = by_option (instruction_at slots place) refl is
  where
    by_option : (o : Option Instruction) → instruction_at slots place ≡ o → after ≡ option_map_or (λ i. max held width) o width → IsWidest slots (place + 1) after
    by_option None at is = subst (IsWidest slots (place + 1)) (sym is) (widest_tail slots place width program at p)
    by_option (Some i) at is = subst (IsWidest slots (place + 1)) (sym is) (widest_more slots place width held (subst IsSome (sym at) refl) e p)
