-- The first fault that a fold over the slots finds is that of the least slot with one.
use Rattle.std.proofs.Common.{◌≡◌, ℕ, zero, suc, ◌+◌, ◌<◌, ◌≤◌, inl, inr, Bool, true, false, List, [], ◌∷◌, length, Option, Some, None, Result, Ok, Err, refl, sym, ap, ◌∙◌, subst, arith}
use Rattle.std.specs.Option.{option_or, option_map_or}
use Rattle.std.specs.Prelude.{◌↔◌, ◌/◌, drop, slice_get, option_map, option_and_then}
use Rattle.std.specs.Result.{result_err}
use Rattle.std.proofs.lemmas.Bool.{cases_eq, cases_lt, cond-true, cond-false}
use Rattle.refusals.specs.declared.RefusalNumber.{RefusalNumber}
use Rattle.refusals.specs.declared.RefusalNumber.TheVariants.{Length}
use Rattle.bpf_profile.specs.declared.instruction.Instruction.{Instruction}
use Rattle.bpf_profile.specs.declared.slot.Slot.{Slot}
use Rattle.bpf_profile.specs.declared.slot.Slot.TheVariants.{Tail}
use Rattle.bpf_profile.specs.Faults.{IsLeastFault, IsFaultless, follows_wide, decoding_fault_at, slots_of}
use Rattle.bpf_profile.specs.FlowFaults.{flow_fault, flow_fault_from, flow_fault_at}
use Rattle.bpf_profile.specs.Slots.{instruction_of}
use Rattle.bpf_profile.specs.Spelling.{is_wide}
use Rattle.bpf_profile.specs.SpellingFaults.{Fault, is_bad_length, first_fault, fault_or, fault_from, slots_at}
use Rattle.bpf_profile.proofs.Edges.{wide_is}

-- ---- a fold over any places

abbrev fault_there : ℕ → RefusalNumber → Fault
fault_there place number = record { slot = place; number = number }

-- the least of the places from one on, so many, that has a fault
unfoldable pub least_from : (ℕ → Option RefusalNumber) → ℕ → ℕ → Option Fault
least_from f place zero = None
least_from f place (suc count) = option_or (option_map (fault_there place) (f place)) (least_from f (suc place) count)

-- what the fold finds from a place on
record Found (f : ℕ → Option RefusalNumber) (from count : ℕ) (fault : Fault) : Type 0 where
  low : from ≤ fault.slot
  high : fault.slot < from + count
  here : f fault.slot ≡ Some fault.number
  before : (place : ℕ) → from ≤ place → place < fault.slot → f place ≡ None

found_here : (f : ℕ → Option RefusalNumber) (from count : ℕ) (number : RefusalNumber) → f from ≡ Some number → Found f from (suc count) (fault_there from number)
found_here f from count number e = record {
  low = omega arith;
  high = omega arith;
  here = e;
  before = λ place low high. absurd (omega (arith, low, high));
}

found_later : (f : ℕ → Option RefusalNumber) (from count : ℕ) (fault : Fault) → f from ≡ None → Found f (suc from) count fault → Found f from (suc count) fault
found_later f from count fault none later = record {
  low = omega (arith, later.low);
  high = omega (arith, later.high);
  here = later.here;
  before = λ place low high.
      elim (cases_eq place from) [
        | inl same ↦ ap f same ∙ none
        | inr other ↦ later.before place (omega (arith, low, other)) high
      ];
}

found_in : (f : ℕ → Option RefusalNumber) (from count : ℕ) (fault : Fault) → least_from f from count ≡ Some fault → Found f from count fault
unfolding least_from
found_in f from zero fault e = absurd (let g : ◌≡◌ {A = Option Fault} None (Some fault) = e in cc)
found_in f from (suc count) fault e = by_option (f from) refl e (found_in f (suc from) count fault)
  where
    by_option : (o : Option RefusalNumber) → f from ≡ o → option_or (option_map (fault_there from) o) (least_from f (suc from) count) ≡ Some fault
        → (least_from f (suc from) count ≡ Some fault → Found f (suc from) count fault) → Found f from (suc count) fault
    by_option None is e later = found_later f from count fault is (later e)
    by_option (Some number) is e later =
        let same : fault_there from number ≡ fault = (let g : ◌≡◌ {A = Option Fault} (Some (fault_there from number)) (Some fault) = e in cc) in
        subst (λ (x : Fault). Found f from (suc count) x) same (found_here f from count number is)

-- where it finds nothing there is nothing
nothing_in : (f : ℕ → Option RefusalNumber) (from count place : ℕ) → least_from f from count ≡ None → from ≤ place → place < from + count → f place ≡ None
unfolding least_from
nothing_in f from zero place e low high = absurd (omega (arith, low, high))
nothing_in f from (suc count) place e low high = by_option (f from) refl e (nothing_in f (suc from) count place)
  where
    by_option : (o : Option RefusalNumber) → f from ≡ o → option_or (option_map (fault_there from) o) (least_from f (suc from) count) ≡ None
        → (least_from f (suc from) count ≡ None → suc from ≤ place → place < suc from + count → f place ≡ None) → f place ≡ None
    by_option (Some number) is e later = absurd (let g : ◌≡◌ {A = Option Fault} (Some (fault_there from number)) None = e in cc)
    by_option None is e later =
        elim (cases_eq place from) [
          | inl same ↦ ap f same ∙ is
          | inr other ↦ later e (omega (arith, low, other)) (omega (arith, high))
        ]

nothing_from : (f : ℕ → Option RefusalNumber) (from count : ℕ) → ((place : ℕ) → from ≤ place → place < from + count → f place ≡ None) → least_from f from count ≡ None
unfolding least_from
nothing_from f from zero none = refl
nothing_from f from (suc count) none =
    ap (λ (o : Option RefusalNumber). option_or (option_map (fault_there from) o) (least_from f (suc from) count)) (none from (omega arith) (omega arith))
    ∙ nothing_from f (suc from) count (λ place low high. none place (omega (arith, low)) (omega (arith, high)))

-- ---- as the laws say it

pub least_is : (f : ℕ → Option RefusalNumber) (count : ℕ) (fault : Fault) → least_from f 0 count ≡ Some fault → IsLeastFault f count fault
least_is f count fault e =
    let found = found_in f 0 count fault e in
    record {
      within = omega (arith, found.high);
      here = found.here;
      before = λ place h. found.before place (omega arith) h;
    }

none_and_some : {A : Type 0} {o : Option A} {x : A} → o ≡ None → o ≡ Some x → ⊥
none_and_some {A} {o} {x} none some = let g : ◌≡◌ {A = Option A} None (Some x) = sym none ∙ some in cc

-- there is one least fault
one_least : (f : ℕ → Option RefusalNumber) (count : ℕ) (a b : Fault) → IsLeastFault f count a → IsLeastFault f count b → a ≡ b
one_least f count a b p q =
    elim (cases_eq a.slot b.slot) [
      | inl same ↦ alike same
      | inr other ↦
          elim (cases_lt a.slot b.slot) [
            | inl less ↦ absurd (none_and_some (q.before a.slot less) p.here)
            | inr more ↦ absurd (none_and_some (p.before b.slot (omega (arith, more, other))) q.here)
          ]
    ]
  where
    alike : a.slot ≡ b.slot → a ≡ b
    alike same =
        let number : a.number ≡ b.number = (let g : ◌≡◌ {A = Option RefusalNumber} (Some a.number) (Some b.number) = sym p.here ∙ (ap f same ∙ q.here) in cc) in
        λ i. record { slot = same i; number = number i }

pub is_least : (f : ℕ → Option RefusalNumber) (count : ℕ) (fault : Fault) → IsLeastFault f count fault → least_from f 0 count ≡ Some fault
is_least f count fault p = by_option (least_from f 0 count) refl
  where
    by_option : (o : Option Fault) → least_from f 0 count ≡ o → least_from f 0 count ≡ Some fault
    by_option None is = absurd (none_and_some (nothing_in f 0 count fault.slot is (omega arith) (omega (arith, p.within))) p.here)
    by_option (Some other) is = is ∙ ap Some (one_least f count other fault (least_is f count other is) p)

pub none_is : (f : ℕ → Option RefusalNumber) (count : ℕ) → least_from f 0 count ≡ None → IsFaultless f count
none_is f count e = λ place h. nothing_in f 0 count place e (omega arith) (omega (arith, h))

pub is_none : (f : ℕ → Option RefusalNumber) (count : ℕ) → IsFaultless f count → least_from f 0 count ≡ None
is_none f count none = nothing_from f 0 count (λ place low high. none place (omega (arith, high)))

-- ---- of flow

pub flow_is : (slots : List Slot) (from count : ℕ) → flow_fault_from slots from count ≡ least_from (flow_fault_at slots) from count
unfolding flow_fault_from least_from
flow_is slots from zero = refl
flow_is slots from (suc count) = ap (option_or (option_map (fault_there from) (flow_fault_at slots from))) (flow_is slots (suc from) count)

-- ---- of decoding

-- a tail begins no wide immediate
not_wide : (slots : List Slot) (place high : ℕ) → slice_get slots place ≡ Some (Tail high) → follows_wide slots (suc place) ≡ false
not_wide slots place high at = ap (λ (o : Option Slot). option_map_or is_wide o false) at

-- where a wide immediate begins and has no fault, its tail comes next
abbrev Follows : Bool → List Slot → Type 0
Follows true slots = (high : ℕ) × (slice_get slots 0 ≡ Some (Tail high))
Follows false slots = Unit {0}

follows_after : (slot : Slot) (rest : List Slot) (i : Instruction) → instruction_of slot (slice_get rest 0) ≡ Ok i → Follows (is_wide slot) rest
follows_after slot rest i e = by_test (is_wide slot) refl
  where
    by_test : (t : Bool) → is_wide slot ≡ t → Follows t rest
    by_test true is = let w = wide_is slot (slice_get rest 0) i is e in (w.2, w.4)
    by_test false is = tt

-- one slot, whose fault comes before those of the slots behind it
one_slot : (place : ℕ) (r : Result Instruction RefusalNumber) (found : Option RefusalNumber) (later rest : Option Fault) → found ≡ result_err r → ((i : Instruction) → r ≡ Ok i → later ≡ rest)
    → fault_or place r later ≡ option_or (option_map (fault_there place) found) rest
one_slot place (Ok i) found later rest e same = same i refl ∙ sym (ap (λ (o : Option RefusalNumber). option_or (option_map (fault_there place) o) rest) e)
one_slot place (Err number) found later rest e same = sym (ap (λ (o : Option RefusalNumber). option_or (option_map (fault_there place) o) rest) e)

here_first : (slots rest : List Slot) (place : ℕ) → ((k : ℕ) → slice_get slots (place + k) ≡ slice_get rest k) → slice_get slots place ≡ slice_get rest 0
here_first slots rest place same = ap (slice_get slots) (omega arith) ∙ same 0

fault_is : (slots : List Slot) (place : ℕ) (slot : Slot) (next : Option Slot) → follows_wide slots place ≡ false → slice_get slots place ≡ Some slot → slice_get slots (suc place) ≡ next
    → decoding_fault_at slots place ≡ result_err (instruction_of slot next)
fault_is slots place slot next flag at next_at =
    cond-false (follows_wide slots place) None (option_and_then (λ s. result_err (instruction_of s (slice_get slots (suc place)))) (slice_get slots place)) flag
    ∙ (ap (option_and_then (λ (s : Slot). result_err (instruction_of s (slice_get slots (suc place))))) at
    ∙ ap (λ (o : Option Slot). result_err (instruction_of slot o)) next_at)

-- the fold over what is left of the slots from a place on
decoding_from : (slots rest : List Slot) (place : ℕ) (tail : Bool) → ((k : ℕ) → slice_get slots (place + k) ≡ slice_get rest k) → follows_wide slots place ≡ tail → Follows tail rest
    → fault_from place tail rest ≡ least_from (decoding_fault_at slots) place (length rest)
unfolding fault_from least_from
decoding_from slots [] place tail same flag follows = refl
decoding_from slots (slot ∷ rest) place true same flag follows =
    let at : slice_get slots place ≡ Some (Tail follows.0) = here_first slots (slot ∷ rest) place same ∙ follows.1 in
    let none : decoding_fault_at slots place ≡ None = cond-true (follows_wide slots place) None (option_and_then (λ s. result_err (instruction_of s (slice_get slots (suc place)))) (slice_get slots place)) flag in
    decoding_from slots rest (suc place) false (λ k. ap (slice_get slots) (omega arith) ∙ same (suc k)) (not_wide slots place follows.0 at) tt
    ∙ sym (ap (λ (o : Option RefusalNumber). option_or (option_map (fault_there place) o) (least_from (decoding_fault_at slots) (suc place) (length rest))) none)
decoding_from slots (slot ∷ rest) place false same flag follows =
    let at : slice_get slots place ≡ Some slot = here_first slots (slot ∷ rest) place same in
    let next_at : slice_get slots (suc place) ≡ slice_get rest 0 = ap (slice_get slots) (omega arith) ∙ same 1 in
    one_slot place (instruction_of slot (slice_get rest 0)) (decoding_fault_at slots place) (fault_from (suc place) (is_wide slot) rest) (least_from (decoding_fault_at slots) (suc place) (length rest))
    (fault_is slots place slot (slice_get rest 0) flag at next_at)
    (λ i is.
    decoding_from slots rest (suc place) (is_wide slot) (λ k. ap (slice_get slots) (omega arith) ∙ same (suc k)) (ap (λ (o : Option Slot). option_map_or is_wide o false) at) (follows_after slot rest i is))

pub decoding_is : (slots : List Slot) → fault_from 0 false slots ≡ least_from (decoding_fault_at slots) 0 (length slots)
decoding_is slots = decoding_from slots slots 0 false (λ k. ap (slice_get slots) (omega arith)) refl tt

-- ---- the laws

pub flow_law : (slots : List Slot) (fault : Fault) → (flow_fault slots ≡ Some fault) ↔ IsLeastFault (flow_fault_at slots) (length slots) fault
flow_law slots fault = (
  λ e. least_is (flow_fault_at slots) (length slots) fault (sym (flow_is slots 0 (length slots)) ∙ e),
  λ p. flow_is slots 0 (length slots) ∙ is_least (flow_fault_at slots) (length slots) fault p,
)

pub flow_none_law : (slots : List Slot) → (flow_fault slots ≡ None) ↔ IsFaultless (flow_fault_at slots) (length slots)
flow_none_law slots = (
  λ e. none_is (flow_fault_at slots) (length slots) (sym (flow_is slots 0 (length slots)) ∙ e),
  λ p. flow_is slots 0 (length slots) ∙ is_none (flow_fault_at slots) (length slots) p,
)

length_slots : (count : ℕ) (bytes : List ℕ) → length (slots_at count bytes) ≡ count
unfolding slots_at
length_slots zero bytes = refl
length_slots (suc count) bytes = ap suc (length_slots count (drop 8 bytes))

-- bytes with a good length have the first fault of their slots
slots_decide : (bytes : List ℕ) → is_bad_length (length bytes) ≡ false → first_fault bytes ≡ least_from (decoding_fault_at (slots_of bytes)) 0 (length bytes / 8)
slots_decide bytes good =
    cond-false (is_bad_length (length bytes)) _ _ good
    ∙ (decoding_is (slots_of bytes) ∙ ap (least_from (decoding_fault_at (slots_of bytes)) 0) (length_slots (length bytes / 8) bytes))

pub length_law : (bytes : List ℕ) → is_bad_length (length bytes) ≡ true → first_fault bytes ≡ Some (record { slot = 0; number = Length })
length_law bytes bad = cond-true (is_bad_length (length bytes)) _ _ bad

pub decoding_law : (bytes : List ℕ) (fault : Fault) → is_bad_length (length bytes) ≡ false → (first_fault bytes ≡ Some fault) ↔ IsLeastFault (decoding_fault_at (slots_of bytes)) (length bytes / 8) fault
decoding_law bytes fault good = (
  λ e. least_is (decoding_fault_at (slots_of bytes)) (length bytes / 8) fault (sym (slots_decide bytes good) ∙ e),
  λ p. slots_decide bytes good ∙ is_least (decoding_fault_at (slots_of bytes)) (length bytes / 8) fault p,
)

pub decoding_none_law : (bytes : List ℕ) → is_bad_length (length bytes) ≡ false → (first_fault bytes ≡ None) ↔ IsFaultless (decoding_fault_at (slots_of bytes)) (length bytes / 8)
decoding_none_law bytes good = (
  λ e. none_is (decoding_fault_at (slots_of bytes)) (length bytes / 8) (sym (slots_decide bytes good) ∙ e),
  λ p. slots_decide bytes good ∙ is_none (decoding_fault_at (slots_of bytes)) (length bytes / 8) p,
)
