-- Reading the lines one after another ends with the first fault of the text.
use Rattle.std.proofs.Common.{◌≡◌, refl, sym, ap, ◌∙◌, subst, ℕ, zero, suc, ◌+◌, ◌<◌, ◌≤◌, ◌⊎◌, inl, inr, Bool, true, false, cond, ltb, List, [], ◌∷◌, ◌++◌, length, take, Option, Some, Result, Ok, Err, append_assoc, arith}
use Rattle.std.specs.Prelude.{IsOk, slice_get}
use Rattle.std.specs.List.{flat_map}
use Rattle.std.proofs.lemmas.List.{append-nil}
use Rattle.std.proofs.lemmas.Bool.{ltb-false, ltb-true, cases_order}
use Rattle.refusals.specs.declared.RefusalNumber.{RefusalNumber}
use Rattle.refusals.specs.declared.RefusalNumber.TheVariants.{BadTextLength}
use Rattle.bpf_profile.specs.declared.instruction.Instruction.{Instruction}
use Rattle.bpf_profile.specs.declared.slot.Slot.{Slot}
use Rattle.bpf_asm.specs.declared.error.AsmError.{AsmError}
use Rattle.bpf_asm.specs.Assembly.{statement_on, slots_of, with_line, with_lines, within, at_line, then_lines, fault, assembly_of, not_empty}
use Rattle.bpf_asm.specs.Faults.{lines_in, slots_read, slots_on, HasFault, unread, too_long, IsFaultless, IsFirstFault}
use Rattle.bpf_asm.specs.Reading.{◌>>=◌}
use Rattle.bpf_profile.specs.Limits.{most_slots}

-- a line's fault behind slots that are there already
data FaultBehind (slots : List Slot) (lines : List (List ℕ)) (place : ℕ) (kind : RefusalNumber) : Type 0 where
  unread_behind : (line : List ℕ) → slice_get lines place ≡ Some line → statement_on line ≡ Err kind → FaultBehind slots lines place kind
  long_behind : (line : List ℕ) (statement : Option Instruction) → slice_get lines place ≡ Some line → statement_on line ≡ Ok statement → kind ≡ BadTextLength
      → most_slots < length (slots ++ flat_map slots_on (take (suc place) lines)) → FaultBehind slots lines place kind

to_behind : (lines : List (List ℕ)) (place : ℕ) (kind : RefusalNumber) → HasFault lines place kind → FaultBehind [] lines place kind
to_behind lines place kind (unread line at e) = unread_behind line at e
to_behind lines place kind (too_long line statement at e is h) = long_behind line statement at e is h

from_behind : (lines : List (List ℕ)) (place : ℕ) (kind : RefusalNumber) → FaultBehind [] lines place kind → HasFault lines place kind
from_behind lines place kind (unread_behind line at e) = unread line at e
from_behind lines place kind (long_behind line statement at e is h) = too_long line statement at e is h

-- a line has one fault at most
read_once : {A E : Type 0} (r : Result A E) (e f : E) → r ≡ Err e → r ≡ Err f → e ≡ f
read_once r e f p q = cc

read_apart : {A E : Type 0} (r : Result A E) (a : A) (e : E) → r ≡ Ok a → r ≡ Err e → ⊥
read_apart r a e p q = cc

one_line : (o : Option (List ℕ)) (line other : List ℕ) → o ≡ Some line → o ≡ Some other → line ≡ other
one_line o line other p q = cc

one_kind : (lines : List (List ℕ)) (place : ℕ) (a b : RefusalNumber) → HasFault lines place a → HasFault lines place b → a ≡ b
one_kind lines place a b (unread x p e) (unread y q f) = read_once (statement_on x) a b e (ap statement_on (one_line (slice_get lines place) x y p q) ∙ f)
one_kind lines place a b (unread x p e) (too_long y statement q f is h) = absurd (read_apart (statement_on x) statement a (ap statement_on (one_line (slice_get lines place) x y p q) ∙ f) e)
one_kind lines place a b (too_long x statement p e is h) (unread y q f) = absurd (read_apart (statement_on x) statement b e (ap statement_on (one_line (slice_get lines place) x y p q) ∙ f))
one_kind lines place a b (too_long x s p e is h) (too_long y t q f js k) = is ∙ sym js

-- ---- one line more in front

slots_in_front : (slots rest : List Slot) (line : List ℕ) (s : Option Instruction) → statement_on line ≡ Ok s → slots ++ (slots_on line ++ rest) ≡ (slots ++ slots_of s) ++ rest
slots_in_front slots rest line s is = ap (λ (r : Result (Option Instruction) RefusalNumber). slots ++ (slots_read r ++ rest)) is ∙ sym (append_assoc slots (slots_of s) rest)

later : (slots : List Slot) (line : List ℕ) (lines : List (List ℕ)) (s : Option Instruction) (place : ℕ) (kind : RefusalNumber) → statement_on line ≡ Ok s
    → FaultBehind (slots ++ slots_of s) lines place kind → FaultBehind slots (line ∷ lines) (suc place) kind
later slots line lines s place kind is (unread_behind x at e) = unread_behind x at e
later slots line lines s place kind is (long_behind x statement at e same h) =
    long_behind x statement at e same (subst (λ (xs : List Slot). most_slots < length xs) (sym (slots_in_front slots (flat_map slots_on (take (suc place) lines)) line s is)) h)

sooner : (slots : List Slot) (line : List ℕ) (lines : List (List ℕ)) (s : Option Instruction) (place : ℕ) (kind : RefusalNumber) → statement_on line ≡ Ok s
    → FaultBehind slots (line ∷ lines) (suc place) kind → FaultBehind (slots ++ slots_of s) lines place kind
sooner slots line lines s place kind is (unread_behind x at e) = unread_behind x at e
sooner slots line lines s place kind is (long_behind x statement at e same h) =
    long_behind x statement at e same (subst (λ (xs : List Slot). most_slots < length xs) (slots_in_front slots (flat_map slots_on (take (suc place) lines)) line s is) h)

-- a line that is read, and leaves the slots few, has no fault
no_fault_here : (slots : List Slot) (line : List ℕ) (lines : List (List ℕ)) (s : Option Instruction) (kind : RefusalNumber) → statement_on line ≡ Ok s → length (slots ++ slots_of s) ≤ most_slots
    → FaultBehind slots (line ∷ lines) 0 kind → ⊥
no_fault_here slots line lines s kind is few (unread_behind x at e) = read_apart (statement_on line) s kind is (ap statement_on (one_line (Some line) line x refl at) ∙ e)
no_fault_here slots line lines s kind is few (long_behind x statement at e same h) =
    let all : slots ++ (slots_on line ++ []) ≡ slots ++ slots_of s = slots_in_front slots [] line s is ∙ append-nil (slots ++ slots_of s) in
    let long : most_slots < length (slots ++ slots_of s) = subst (λ (xs : List Slot). most_slots < length xs) all h in
    omega arith

-- ---- what reading ends with

record Failing (number : ℕ) (slots : List Slot) (lines : List (List ℕ)) (e : AsmError) : Type 0 where
  place : ℕ
  kind : RefusalNumber
  is : e ≡ fault (number + place) kind
  here : FaultBehind slots lines place kind
  none_before : (earlier : ℕ) (other : RefusalNumber) → earlier < place → FaultBehind slots lines earlier other → ⊥

error_same : {A E : Type 0} (a b : E) → ◌≡◌ {A = Result A E} (Err a) (Err b) → a ≡ b
error_same {A} {E} a b e = let g : ◌≡◌ {A = Result A E} (Err a) (Err b) = e in cc

not_ok : {A E : Type 0} (a : A) (e : E) → ◌≡◌ {A = Result A E} (Ok a) (Err e) → ⊥
not_ok {A} {E} a e h = let g : ◌≡◌ {A = Result A E} (Ok a) (Err e) = h in cc

at_first : (number : ℕ) (kind : RefusalNumber) (e : AsmError) → ◌≡◌ {A = Result (List Slot) AsmError} (Err (fault number kind)) (Err e) → e ≡ fault (number + 0) kind
at_first number kind e h = let same : number ≡ number + 0 = omega arith in sym (error_same (fault number kind) e h) ∙ ap (λ (n : ℕ). fault n kind) same

at_next : (number place : ℕ) (kind : RefusalNumber) (e : AsmError) → e ≡ fault (number + 1 + place) kind → e ≡ fault (number + suc place) kind
at_next number place kind e h = let same : number + 1 + place ≡ number + suc place = omega arith in h ∙ ap (λ (n : ℕ). fault n kind) same

none_before_next : (slots : List Slot) (line : List ℕ) (lines : List (List ℕ)) (s : Option Instruction) (place : ℕ) → statement_on line ≡ Ok s → length (slots ++ slots_of s) ≤ most_slots
    → ((earlier : ℕ) (other : RefusalNumber) → earlier < place → FaultBehind (slots ++ slots_of s) lines earlier other → ⊥)
    → (earlier : ℕ) (other : RefusalNumber) → earlier < suc place → FaultBehind slots (line ∷ lines) earlier other → ⊥
none_before_next slots line lines s place is few none zero other h f = no_fault_here slots line lines s other is few f
none_before_next slots line lines s place is few none (suc earlier) other h f = none earlier other (omega arith) (sooner slots line lines s earlier other is f)

fails_fitting : (number : ℕ) (slots : List Slot) (line : List ℕ) (lines : List (List ℕ)) (e : AsmError) (s : Option Instruction) → statement_on line ≡ Ok s
    → ((longer : List Slot) → with_lines (number + 1) longer lines ≡ Err e → Failing (number + 1) longer lines e)
    → (long : Bool) → ltb most_slots (length (slots ++ slots_of s)) ≡ long
    → then_lines (at_line number (cond long (Err BadTextLength) (Ok (slots ++ slots_of s)))) (λ longer. with_lines (number + 1) longer lines) ≡ Err e
    → Failing number slots (line ∷ lines) e
fails_fitting number slots line lines e s is rest true long h = record {
  place = 0;
  kind = BadTextLength;
  is = at_first number BadTextLength e h;
  here = long_behind line s refl is refl (subst (λ (xs : List Slot). most_slots < length xs) (sym (slots_in_front slots [] line s is ∙ append-nil (slots ++ slots_of s))) (ltb-true _ _ long));
  none_before = λ earlier other l f. omega arith;
}
fails_fitting number slots line lines e s is rest false long h =
    let next = rest (slots ++ slots_of s) h in
    record {
      place = suc next.place;
      kind = next.kind;
      is = at_next number next.place next.kind e next.is;
      here = later slots line lines s next.place next.kind is next.here;
      none_before = none_before_next slots line lines s next.place is (ltb-false _ _ long) next.none_before;
    }

fails_on : (number : ℕ) (slots : List Slot) (line : List ℕ) (lines : List (List ℕ)) (e : AsmError) (r : Result (Option Instruction) RefusalNumber) → statement_on line ≡ r
    → ((longer : List Slot) → with_lines (number + 1) longer lines ≡ Err e → Failing (number + 1) longer lines e)
    → then_lines (at_line number (r >>= (λ s. within (slots ++ slots_of s)))) (λ longer. with_lines (number + 1) longer lines) ≡ Err e
    → Failing number slots (line ∷ lines) e
fails_on number slots line lines e (Err kind) is rest h = record {
  place = 0;
  kind = kind;
  is = at_first number kind e h;
  here = unread_behind line refl is;
  none_before = λ earlier other l f. omega arith;
}
fails_on number slots line lines e (Ok s) is rest h = fails_fitting number slots line lines e s is rest (ltb most_slots (length (slots ++ slots_of s))) refl h

fails : (number : ℕ) (slots : List Slot) (lines : List (List ℕ)) (e : AsmError) → with_lines number slots lines ≡ Err e → Failing number slots lines e
unfolding with_lines with_line
fails number slots [] e h = absurd (not_ok slots e h)
fails number slots (line ∷ lines) e h = fails_on number slots line lines e (statement_on line) refl (λ longer g. fails (number + 1) longer lines e g) h

record Passing (slots : List Slot) (lines : List (List ℕ)) (all : List Slot) : Type 0 where
  whole : all ≡ slots ++ flat_map slots_on lines
  none : (place : ℕ) (kind : RefusalNumber) → FaultBehind slots lines place kind → ⊥

none_in_no_line : (slots : List Slot) (place : ℕ) (kind : RefusalNumber) → FaultBehind slots [] place kind → ⊥
none_in_no_line slots place kind (unread_behind line at e) = cc
none_in_no_line slots place kind (long_behind line statement at e is h) = cc

none_in_next : (slots : List Slot) (line : List ℕ) (lines : List (List ℕ)) (s : Option Instruction) → statement_on line ≡ Ok s → length (slots ++ slots_of s) ≤ most_slots
    → ((place : ℕ) (kind : RefusalNumber) → FaultBehind (slots ++ slots_of s) lines place kind → ⊥)
    → (place : ℕ) (kind : RefusalNumber) → FaultBehind slots (line ∷ lines) place kind → ⊥
none_in_next slots line lines s is few none zero kind f = no_fault_here slots line lines s kind is few f
none_in_next slots line lines s is few none (suc place) kind f = none place kind (sooner slots line lines s place kind is f)

passes_fitting : (number : ℕ) (slots all : List Slot) (line : List ℕ) (lines : List (List ℕ)) (s : Option Instruction) → statement_on line ≡ Ok s
    → ((longer : List Slot) → with_lines (number + 1) longer lines ≡ Ok all → Passing longer lines all)
    → (long : Bool) → ltb most_slots (length (slots ++ slots_of s)) ≡ long
    → then_lines (at_line number (cond long (Err BadTextLength) (Ok (slots ++ slots_of s)))) (λ longer. with_lines (number + 1) longer lines) ≡ Ok all
    → Passing slots (line ∷ lines) all
passes_fitting number slots all line lines s is rest true long h = absurd (not_ok all (fault number BadTextLength) (sym h))
passes_fitting number slots all line lines s is rest false long h =
    let next = rest (slots ++ slots_of s) h in
    record {
      whole = next.whole ∙ sym (slots_in_front slots (flat_map slots_on lines) line s is);
      none = none_in_next slots line lines s is (ltb-false _ _ long) next.none;
    }

passes_on : (number : ℕ) (slots all : List Slot) (line : List ℕ) (lines : List (List ℕ)) (r : Result (Option Instruction) RefusalNumber) → statement_on line ≡ r
    → ((longer : List Slot) → with_lines (number + 1) longer lines ≡ Ok all → Passing longer lines all)
    → then_lines (at_line number (r >>= (λ s. within (slots ++ slots_of s)))) (λ longer. with_lines (number + 1) longer lines) ≡ Ok all
    → Passing slots (line ∷ lines) all
passes_on number slots all line lines (Err kind) is rest h = absurd (not_ok all (fault number kind) (sym h))
passes_on number slots all line lines (Ok s) is rest h = passes_fitting number slots all line lines s is rest (ltb most_slots (length (slots ++ slots_of s))) refl h

passes : (number : ℕ) (slots all : List Slot) (lines : List (List ℕ)) → with_lines number slots lines ≡ Ok all → Passing slots lines all
unfolding with_lines with_line
passes number slots all [] h =
    let same : slots ≡ all = cc in
    record { whole = sym same ∙ sym (append-nil slots); none = none_in_no_line slots }
passes number slots all (line ∷ lines) h = passes_on number slots all line lines (statement_on line) refl (λ longer g. passes (number + 1) longer all lines g) h

-- ---- whole texts

-- how a text ends: at its first fault, or read to its end
data Ending (text : List ℕ) : Type 0 where
  stopped : (place : ℕ) (kind : RefusalNumber) → IsFirstFault (lines_in text) place kind → assembly_of text ≡ Err (fault (place + 1) kind) → Ending text
  ended : (slots : List Slot) → slots ≡ flat_map slots_on (lines_in text) → IsFaultless (lines_in text) → assembly_of text ≡ not_empty slots → Ending text

ending_by : (text : List ℕ) (r : Result (List Slot) AsmError) → with_lines 1 [] (lines_in text) ≡ r → Ending text
ending_by text (Err e) h =
    let found = fails 1 [] (lines_in text) e h in
    let same : 1 + found.place ≡ found.place + 1 = omega arith in
    stopped found.place found.kind
    (record { here = from_behind (lines_in text) found.place found.kind found.here; none_before = λ earlier other l f. found.none_before earlier other l (to_behind (lines_in text) earlier other f) })
    (ap (λ (r : Result (List Slot) AsmError). then_lines r not_empty) h ∙ ap Err (found.is ∙ ap (λ (n : ℕ). fault n found.kind) same))
ending_by text (Ok slots) h =
    let found = passes 1 [] slots (lines_in text) h in
    ended slots found.whole (λ place kind f. found.none place kind (to_behind (lines_in text) place kind f)) (ap (λ (r : Result (List Slot) AsmError). then_lines r not_empty) h)

ending : (text : List ℕ) → Ending text
ending text = ending_by text (with_lines 1 [] (lines_in text)) refl

no_line : (slots : List Slot) (place : ℕ) (kind : RefusalNumber) → not_empty slots ≡ Err (fault (place + 1) kind) → ⊥
no_line [] place kind h = let same : 0 ≡ place + 1 = ap (λ (e : AsmError). e.line) (error_same (fault 0 BadTextLength) (fault (place + 1) kind) h) in omega arith
no_line (slot ∷ slots) place kind h = not_ok (slot ∷ slots) (fault (place + 1) kind) h

same_place : (a b : ℕ) (x y : RefusalNumber) → ◌≡◌ {A = Result (List Slot) AsmError} (Err (fault (a + 1) x)) (Err (fault (b + 1) y)) → (a ≡ b) × (x ≡ y)
same_place a b x y h =
    let same = error_same (fault (a + 1) x) (fault (b + 1) y) h in
    let lines : a + 1 ≡ b + 1 = ap (λ (e : AsmError). e.line) same in
    (omega arith, ap (λ (e : AsmError). e.kind) same)

pub first_from_error : (text : List ℕ) (place : ℕ) (kind : RefusalNumber) → assembly_of text ≡ Err (fault (place + 1) kind) → IsFirstFault (lines_in text) place kind
first_from_error text place kind h = by (ending text)
  where
    by : Ending text → IsFirstFault (lines_in text) place kind
    by (stopped at of first is) =
        let same = same_place at place of kind (sym is ∙ h) in
        subst (λ (p : ℕ). IsFirstFault (lines_in text) p kind) same.0 (subst (λ (k : RefusalNumber). IsFirstFault (lines_in text) at k) same.1 first)
    by (ended slots whole none is) = absurd (no_line slots place kind (sym is ∙ h))

-- the first fault of a text is one
first_place : (lines : List (List ℕ)) (a b : ℕ) (x y : RefusalNumber) → IsFirstFault lines a x → IsFirstFault lines b y → (a ≡ b) ⊎ ((a < b) ⊎ (b < a)) → a ≡ b
first_place lines a b x y f g (inl same) = same
first_place lines a b x y f g (inr (inl before)) = absurd (g.none_before a x before f.here)
first_place lines a b x y f g (inr (inr behind)) = absurd (f.none_before b y behind g.here)

first_kind : (lines : List (List ℕ)) (a b : ℕ) (x y : RefusalNumber) → IsFirstFault lines a x → IsFirstFault lines b y → a ≡ b → x ≡ y
first_kind lines a b x y f g same = one_kind lines b x y (subst (λ (p : ℕ). HasFault lines p x) same f.here) g.here

pub error_from_first : (text : List ℕ) (place : ℕ) (kind : RefusalNumber) → IsFirstFault (lines_in text) place kind → assembly_of text ≡ Err (fault (place + 1) kind)
error_from_first text place kind first = by (ending text)
  where
    by : Ending text → assembly_of text ≡ Err (fault (place + 1) kind)
    by (stopped at of found is) =
        let same = first_place (lines_in text) at place of kind found first (cases_order at place) in
        is ∙ ap (λ (n : ℕ). Err (fault (n + 1) of)) same ∙ ap (λ (k : RefusalNumber). Err (fault (place + 1) k)) (first_kind (lines_in text) at place of kind found first same)
    by (ended slots whole none is) = absurd (none place kind first.here)

-- ---- texts without a line with a fault

empty_from : (slots : List Slot) (kind : RefusalNumber) → not_empty slots ≡ Err (fault 0 kind) → (kind ≡ BadTextLength) × (slots ≡ [])
empty_from [] kind h = (sym (ap (λ (e : AsmError). e.kind) (error_same (fault 0 BadTextLength) (fault 0 kind) h)), refl)
empty_from (slot ∷ slots) kind h = absurd (not_ok (slot ∷ slots) (fault 0 kind) h)

no_line_is_0 : (place : ℕ) (of kind : RefusalNumber) → ◌≡◌ {A = Result (List Slot) AsmError} (Err (fault (place + 1) of)) (Err (fault 0 kind)) → ⊥
no_line_is_0 place of kind h = let same : place + 1 ≡ 0 = ap (λ (e : AsmError). e.line) (error_same (fault (place + 1) of) (fault 0 kind) h) in omega arith

pub empty_from_error : (text : List ℕ) (kind : RefusalNumber) → assembly_of text ≡ Err (fault 0 kind) → (kind ≡ BadTextLength) × IsFaultless (lines_in text) × (flat_map slots_on (lines_in text) ≡ [])
empty_from_error text kind h = by (ending text)
  where
    by : Ending text → (kind ≡ BadTextLength) × IsFaultless (lines_in text) × (flat_map slots_on (lines_in text) ≡ [])
    by (stopped at of found is) = absurd (no_line_is_0 at of kind (sym is ∙ h))
    by (ended slots whole none is) = let found = empty_from slots kind (sym is ∙ h) in (found.0, none, sym whole ∙ found.1)

pub error_from_empty : (text : List ℕ) (kind : RefusalNumber) → (kind ≡ BadTextLength) × IsFaultless (lines_in text) × (flat_map slots_on (lines_in text) ≡ []) → assembly_of text ≡ Err (fault 0 kind)
error_from_empty text kind (same, faultless, empty) = by (ending text)
  where
    by : Ending text → assembly_of text ≡ Err (fault 0 kind)
    by (stopped at of found is) = absurd (faultless at of found.here)
    by (ended slots whole none is) = is ∙ ap not_empty (whole ∙ empty) ∙ ap (λ (k : RefusalNumber). Err (fault 0 k)) (sym same)

some_from_ok : (slots : List Slot) → IsOk (not_empty slots) → slots ≡ [] → ⊥
some_from_ok [] h e = cc
some_from_ok (slot ∷ slots) h e = cc

ok_from_some : (slots : List Slot) → (slots ≡ [] → ⊥) → IsOk (not_empty slots)
ok_from_some [] h = absurd (h refl)
ok_from_some (slot ∷ slots) h = refl

error_is_not_ok : (e : AsmError) → IsOk {T = List Slot} (Err e) → ⊥
error_is_not_ok e h = cc

pub faultless_from_ok : (text : List ℕ) → IsOk (assembly_of text) → IsFaultless (lines_in text) × (flat_map slots_on (lines_in text) ≡ [] → ⊥)
faultless_from_ok text h = by (ending text)
  where
    by : Ending text → IsFaultless (lines_in text) × (flat_map slots_on (lines_in text) ≡ [] → ⊥)
    by (stopped at of found is) = absurd (error_is_not_ok (fault (at + 1) of) (subst (λ (r : Result (List Slot) AsmError). IsOk r) is h))
    by (ended slots whole none is) = (none, λ empty. some_from_ok slots (subst (λ (r : Result (List Slot) AsmError). IsOk r) is h) (whole ∙ empty))

pub ok_from_faultless : (text : List ℕ) → IsFaultless (lines_in text) × (flat_map slots_on (lines_in text) ≡ [] → ⊥) → IsOk (assembly_of text)
ok_from_faultless text (faultless, some) = by (ending text)
  where
    by : Ending text → IsOk (assembly_of text)
    by (stopped at of found is) = absurd (faultless at of found.here)
    by (ended slots whole none is) = subst (λ (r : Result (List Slot) AsmError). IsOk r) (sym is) (ok_from_some slots (λ e. some (sym whole ∙ e)))
