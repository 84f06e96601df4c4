-- What places leave behind, where a view changes.
use Rattle.std.proofs.Common.{◌≡◌, ◌≢◌, ◌⊎◌, ℕ, zero, suc, ◌+◌, ◌-◌, ◌≤◌, ◌==◌, ◌&&◌, List, [], ◌∷◌, ◌++◌, length, length-append, append-nil, append_assoc, set, Bool, true, false, refl, sym, ap, ◌∙◌, subst, ⊎_elim, inl, inr, arith, Option, Some}
use Rattle.std.specs.Prelude.{if◌then◌else◌}
use Rattle.std.proofs.lemmas.Bool.{eq-eqb, ne_eqb, eqb-true, eqb-false}
use mathlib.Core.Option.{some, some-injective, some-ne-none}
use lib.ListN.{get_elem?}
use Rattle.atomic_table.proofs.Lists.{set_else, at_set}
use Rattle.service_profile.specs.Answers.{with_line}
use Rattle.service_profile.specs.Events.{Opening, History}
use Rattle.service_profile.specs.Seats.{lines_of}
use Rattle.book.proofs.Openings.{next_line_is}
use Rattle.book.specs.Reopened.{IsOpeningAfter}
use Rattle.book_slot.specs.declared.view.Trace.{Trace}
use Rattle.book_slot.specs.declared.view.View.{View}
use Rattle.book_slot.specs.Rules.{trace_of, traces_by, traces_in, traces_of, putting, dealt_to, Each, parts_of, Grows, same, hands_out, entry, opens}
use Rattle.book_slot.specs.Views.{is_same, entries_since, cuts_since}
use Rattle.book_slot.specs.Trying.{taking, spent}
use Rattle.book_slot.specs.Left.{Has, Among, total, entries_of, cuts_of, next_number, HasLeft, HasSeen, HasMade, IsLeftBy, AreMadeBy}
use Rattle.book_slot.proofs.Histories.{period_of, renewed, renewed_last, renewed_other}
use Rattle.book_slot.proofs.Lines.{other_line}
use Rattle.book_slot.proofs.Views.{never, set_same, same_at, parts_within}

-- ---- lists

has_more : (x : History) (ys : List History) (y : History) → Has x ys → Has x (ys ++ y ∷ [])
has_more x [] y h = absurd h
has_more x (z ∷ zs) y (inl e) = inl e
has_more x (z ∷ zs) y (inr h) = inr (has_more x zs y h)

has_last : (ys : List History) (y : History) → Has y (ys ++ y ∷ [])
has_last [] y = inl refl
has_last (z ∷ zs) y = inr (has_last zs y)

-- what was put back, where one more was
has_kept : (b : Bool) (x : History) (ys : List History) (y : History) → Has x ys → Has x (if b then ys else ys ++ y ∷ [])
has_kept true x ys y h = h
has_kept false x ys y h = has_more x ys y h

has_end : (b : Bool) (ys : List History) (y : History) → b ≡ false → Has y (if b then ys else ys ++ y ∷ [])
has_end true ys y is = absurd (never (sym is))
has_end false ys y is = has_last ys y

has_was : (x : History) (ys : List History) (y : History) → Has x (ys ++ y ∷ []) → Has x ys ⊎ (y ≡ x)
has_was x [] y (inl e) = inr e
has_was x [] y (inr h) = absurd h
has_was x (z ∷ zs) y (inl e) = inl (inl e)
has_was x (z ∷ zs) y (inr h) = ⊎_elim (λ (k : Has x zs). inl (inr k)) (λ (e : y ≡ x). inr e) (has_was x zs y h)

among_left : (P : Trace → Type 0) (ts us : List Trace) → Among P ts → Among P (ts ++ us)
among_left P [] us h = absurd h
among_left P (t ∷ ts) us (inl p) = inl p
among_left P (t ∷ ts) us (inr h) = inr (among_left P ts us h)

among_right : (P : Trace → Type 0) (ts us : List Trace) → Among P us → Among P (ts ++ us)
among_right P [] us h = h
among_right P (t ∷ ts) us h = inr (among_right P ts us h)

among_split : (P : Trace → Type 0) (ts us : List Trace) → Among P (ts ++ us) → Among P ts ⊎ Among P us
among_split P [] us h = inr h
among_split P (t ∷ ts) us (inl p) = inl (inl p)
among_split P (t ∷ ts) us (inr h) = ⊎_elim (λ (a : Among P ts). inl (inr a)) (λ (b : Among P us). inr b) (among_split P ts us h)

among_map : (P Q : Trace → Type 0) (ts : List Trace) → ((t : Trace) → P t → Q t) → Among P ts → Among Q ts
among_map P Q [] all h = absurd h
among_map P Q (t ∷ ts) all (inl p) = inl (all t p)
among_map P Q (t ∷ ts) all (inr h) = inr (among_map P Q ts all h)

total_append : (f : Trace → ℕ) (ts us : List Trace) → total f (ts ++ us) ≡ total f ts + total f us
total_append f [] us = omega arith
total_append f (t ∷ ts) us = let i = total_append f ts us in omega (arith, i)

-- ---- what one view has

by_own : (P : Trace → Type 0) (b : Bool) (t : Trace) (ks : List Trace) → b ≡ true → P t → Among P (traces_by b t ks)
by_own P true t ks is p = inl p
by_own P false t ks is p = absurd (never is)

by_map : (P Q : Trace → Type 0) (b : Bool) (t t' : Trace) (ks : List Trace) → (P t → Q t') → ((k : Trace) → P k → Q k) → Among P (traces_by b t ks) → Among Q (traces_by b t' ks)
by_map P Q true t t' ks own all (inl p) = inl (own p)
by_map P Q true t t' ks own all (inr h) = absurd h
by_map P Q false t t' ks own all h = among_map P Q ks all h

by_back : (P : Trace → Type 0) (R : Type 0) (b : Bool) (t t' : Trace) (ks : List Trace) → (P t' → P t ⊎ R) → Among P (traces_by b t' ks) → Among P (traces_by b t ks) ⊎ R
by_back P R true t t' ks own (inl p) = ⊎_elim (λ (q : P t). inl (inl q)) (λ (r : R). inr r) (own p)
by_back P R true t t' ks own (inr h) = absurd h
by_back P R false t t' ks own h = inl h

by_total : (f : Trace → ℕ) (b : Bool) (t t' : Trace) (ks : List Trace) → f t' ≡ f t → total f (traces_by b t' ks) ≡ total f (traces_by b t ks)
by_total f true t t' ks is = ap (λ n. n + 0) is
by_total f false t t' ks is = refl

own_total : (f : Trace → ℕ) (b : Bool) (t : Trace) (ks : List Trace) → b ≡ true → total f (traces_by b t ks) ≡ f t
own_total f true t ks is = omega arith
own_total f false t ks is = absurd (never is)

-- ---- where a trace is

abbrev At : (Trace → Type 0) → List View → Type 0
At P views = (j : ℕ) × (v : View) × (get_elem? views j ≡ some v) × Among P (traces_in v)

among_at : (P : Trace → Type 0) (views : List View) → Among P (traces_of views) → At P views
among_at P [] h = absurd h
among_at P (v ∷ vs) h =
    ⊎_elim
    (λ (a : Among P (traces_in v)). (0, v, refl, a))
    (λ (b : Among P (traces_of vs)). let r = among_at P vs b in (suc r.0, r.1, r.2, r.3))
    (among_split P (traces_in v) (traces_of vs) h)

at_among : (P : Trace → Type 0) (views : List View) (j : ℕ) (v : View) → get_elem? views j ≡ some v → Among P (traces_in v) → Among P (traces_of views)
at_among P [] j v e a = absurd (some-ne-none v (sym e))
at_among P (x ∷ xs) zero v e a = among_left P (traces_in x) (traces_of xs) (subst (λ (u : View). Among P (traces_in u)) (sym (some-injective x v e)) a)
at_among P (x ∷ xs) (suc j) v e a = among_right P (traces_in x) (traces_of xs) (at_among P xs j v e a)

-- ---- one view changes

module _ (views : List View) (at : ℕ) (v w : View) (here : get_elem? views at ≡ some v) where
  set_at : (P Q : Trace → Type 0) → ((t : Trace) → P t → Q t) → (Among P (traces_in v) → Among Q (traces_in w)) → (f : At P views) → (b : Bool) → (f.0 == at) ≡ b → Among Q (traces_of (set views at w))
  set_at P Q all one f true e =
      let is : v ≡ f.1 = same_at views at v f.1 here (subst (λ k. get_elem? views k ≡ some f.1) (eqb-true f.0 at e) f.2) in
      at_among Q (set views at w) at w (set_same views at v w here) (one (subst (λ (u : View). Among P (traces_in u)) (sym is) f.3))
  set_at P Q all one f false e = at_among Q (set views at w) f.0 f.1 (set_else views at f.0 w (eqb-false f.0 at e) ∙ f.2) (among_map P Q (traces_in f.1) all f.3)

  among_set : (P Q : Trace → Type 0) → ((t : Trace) → P t → Q t) → (Among P (traces_in v) → Among Q (traces_in w)) → Among P (traces_of views) → Among Q (traces_of (set views at w))
  among_set P Q all one h = let f = among_at P views h in set_at P Q all one f (f.0 == at) refl

  among_was : (P : Trace → Type 0) (R : Type 0) → (Among P (traces_in w) → Among P (traces_in v) ⊎ R) → Among P (traces_of (set views at w)) → Among P (traces_of views) ⊎ R
  among_was P R back h =
      let f = among_at P (set views at w) h in
      ⊎_elim
      (λ (x : (f.0 ≡ at) × (w ≡ f.1)). ⊎_elim (λ (a : Among P (traces_in v)). inl (at_among P views at v here a)) (λ (r : R). inr r) (back (subst (λ (u : View). Among P (traces_in u)) (sym x.1) f.3)))
      (λ (x : (f.0 ≢ at) × (get_elem? views f.0 ≡ some f.1)). inl (at_among P views f.0 f.1 x.1 f.3))
      (at_set views at f.0 w f.1 f.2)

-- the totals after a change of one view
pub total_set : (f : Trace → ℕ) (views : List View) (at : ℕ) (v w : View) → get_elem? views at ≡ some v → total f (traces_of (set views at w)) + total f (traces_in v) ≡ total f (traces_of views) + total f (traces_in w)
total_set f [] at v w e = absurd (some-ne-none v (sym e))
total_set f (x ∷ xs) zero v w e =
    let s : total f (traces_in x) ≡ total f (traces_in v) = ap (λ (z : View). total f (traces_in z)) (some-injective x v e) in
    omega (arith, s, total_append f (traces_in w) (traces_of xs), total_append f (traces_in x) (traces_of xs))
total_set f (x ∷ xs) (suc at) v w e =
    let i = total_set f xs at v w e in
    omega (arith, i, total_append f (traces_in x) (traces_of xs), total_append f (traces_in x) (traces_of (set xs at w)))

pub traces_same : (views : List View) (at : ℕ) (v w : View) → get_elem? views at ≡ some v → traces_in w ≡ traces_in v → traces_of (set views at w) ≡ traces_of views
traces_same [] at v w e is = refl
traces_same (x ∷ xs) zero v w e is = ap (λ ts. ts ++ traces_of xs) (is ∙ ap traces_in (sym (some-injective x v e)))
traces_same (x ∷ xs) (suc at) v w e is = ap (λ ts. traces_in x ++ ts) (traces_same xs at v w e is)

pub traces_more : (views : List View) (w : View) → traces_of (views ++ w ∷ []) ≡ traces_of views ++ traces_in w
traces_more [] w = append-nil (traces_in w)
traces_more (x ∷ xs) w = ap (λ ts. traces_in x ++ ts) (traces_more xs w) ∙ sym (append_assoc (traces_in x) (traces_of xs) (traces_in w))

-- who has all parts has all traces
none_left : (views : List View) → Each (λ u. u.parts ≡ 0 → traces_in u ≡ []) views → parts_of views ≡ 0 → traces_of views ≡ []
none_left [] bare none_ = refl
none_left (x ∷ xs) bare none_ = ap (λ ts. ts ++ traces_of xs) (bare 0 x refl (omega (arith, none_))) ∙ none_left xs (λ j u e. bare (suc j) u e) (omega (arith, none_))

pub traces_all : (views : List View) (id : ℕ) (v : View) → get_elem? views id ≡ some v → Each (λ u. u.parts ≡ 0 → traces_in u ≡ []) views → parts_of views ≡ v.parts → traces_of views ≡ traces_in v
traces_all [] id v e bare full = absurd (some-ne-none v (sym e))
traces_all (x ∷ xs) zero v e bare full =
    let is : x ≡ v = some-injective x v e in
    let s : x.parts ≡ v.parts = ap (λ (z : View). z.parts) is in
    ap (λ ts. traces_in x ++ ts) (none_left xs (λ j u f. bare (suc j) u f) (omega (arith, s, full))) ∙ (append-nil (traces_in x) ∙ ap traces_in is)
traces_all (x ∷ xs) (suc id) v e bare full =
    let within = parts_within xs id v e in
    let rest : parts_of xs ≡ v.parts = omega (arith, within, full) in
    ap (λ ts. ts ++ traces_of xs) (bare 0 x refl (omega (arith, within, full))) ∙ traces_all xs id v e (λ j u f. bare (suc j) u f) rest

-- ---- what was done

left_on : (ts us : List Trace) (first x : History) → (Among (HasLeft x) ts → Among (HasLeft x) us) → IsLeftBy ts first x → IsLeftBy us first x
left_on ts us first x on l = ⊎_elim (λ (e : x ≡ first). inl e) (λ (a : Among (HasLeft x) ts). inr (on a)) l

-- the same places, in another order
made_moved : {origin : Option History} (past : ℕ → History) (now : History) (ts us : List Trace) → ((P : Trace → Type 0) → Among P ts → Among P us) → ((P : Trace → Type 0) → Among P us → Among P ts) → ((f : Trace → ℕ) → total f us ≡ total f ts)
    → AreMadeBy origin past now ts → AreMadeBy origin past now us
made_moved past now ts us on back even m = record {
  first = m.first;
  is_first = m.is_first;
  left = λ period. left_on ts us m.first (past period) (on (HasLeft (past period))) (m.left period);
  found = λ x h. left_on ts us m.first x (on (HasLeft x)) (m.found x (back (HasSeen x) h));
  made = λ period number. ⊎_elim (λ (e : lines_of number (past period).lines ≡ []). inl e) (λ (a : Among (HasMade (past period) number) ts). inr (on (HasMade (past period) number) a)) (m.made period number);
  entries = m.entries ∙ ap (λ n. next_number m.first + n) (sym (even (λ t. t.entries)));
  cuts = subst (λ n. IsOpeningAfter m.first.opening n now.opening) (sym (even (λ t. t.cuts))) m.cuts;
}

-- a new place has done nothing
pub made_dealt : {origin : Option History} (past : ℕ → History) (now : History) (ts : List Trace) (v : View) → AreMadeBy origin past now ts → AreMadeBy origin past now (ts ++ traces_in (dealt_to v))
made_dealt past now ts v m =
    let new = traces_in (dealt_to v) in
    let entries = total_append (λ t. t.entries) ts new in
    let cuts = total_append (λ t. t.cuts) ts new in
    record {
      first = m.first;
      is_first = m.is_first;
      left = λ period. left_on ts (ts ++ new) m.first (past period) (among_left (HasLeft (past period)) ts new) (m.left period);
      found = λ x h.
          ⊎_elim
          (λ (a : Among (HasSeen x) ts). left_on ts (ts ++ new) m.first x (among_left (HasLeft x) ts new) (m.found x a))
          (λ (b : Among (HasSeen x) new). absurd (⊎_elim (λ (f : ⊥). f) (λ (f : ⊥). f) b))
          (among_split (HasSeen x) ts new h);
      made = λ period number. ⊎_elim (λ (e : lines_of number (past period).lines ≡ []). inl e) (λ (a : Among (HasMade (past period) number) ts). inr (among_left (HasMade (past period) number) ts new a)) (m.made period number);
      entries = omega (arith, m.entries, entries);
      cuts = subst (λ n. IsOpeningAfter m.first.opening n now.opening) (let e : cuts_of ts ≡ cuts_of (ts ++ new) = omega (arith, cuts) in e) m.cuts;
    }

-- a place finds the last history
pub made_taken : {origin : Option History} (past : ℕ → History) (now : History) (views : List View) (id : ℕ) (v : View) → get_elem? views id ≡ some v → past (period_of now) ≡ now → AreMadeBy origin past now (traces_of views) → AreMadeBy origin past now (traces_of (set views id (taking v now)))
made_taken past now views id v here current m =
    let w = taking v now in
    let us = traces_of (set views id w) in
    let on : (P : Trace → Type 0) → (P (trace_of v) → P (trace_of w)) → Among P (traces_of views) → Among P us = λ P own. among_set views id v w here P P (λ t p. p) (by_map P P v.sits (trace_of v) (trace_of w) v.known own (λ t p. p)) in
    let even : (f : Trace → ℕ) → f (trace_of w) ≡ f (trace_of v) → total f us ≡ total f (traces_of views) = λ f is. let s = total_set f views id v w here in let b = by_total f v.sits (trace_of v) (trace_of w) v.known is in omega (arith, s, b) in
    record {
      first = m.first;
      is_first = m.is_first;
      left = λ period. left_on (traces_of views) us m.first (past period) (on (HasLeft (past period)) (λ h. h)) (m.left period);
      found = λ x h.
          left_on (traces_of views) us m.first x (on (HasLeft x) (λ k. k))
          (⊎_elim
          (λ (a : Among (HasSeen x) (traces_of views)). m.found x a)
          (λ (e : now ≡ x). subst (IsLeftBy (traces_of views) m.first) (current ∙ e) (m.left (period_of now)))
          (among_was views id v w here (HasSeen x) (now ≡ x) (by_back (HasSeen x) (now ≡ x) v.sits (trace_of v) (trace_of w) v.known (has_was x v.all_seen now)) h));
      made = λ period number. ⊎_elim (λ (e : lines_of number (past period).lines ≡ []). inl e) (λ (a : Among (HasMade (past period) number) (traces_of views)). inr (on (HasMade (past period) number) (λ h. h) a)) (m.made period number);
      entries = m.entries ∙ ap (λ n. next_number m.first + n) (sym (even (λ t. t.entries) refl));
      cuts = subst (λ n. IsOpeningAfter m.first.opening n now.opening) (sym (even (λ t. t.cuts) refl)) m.cuts;
    }

-- ---- a place puts a history back

pub next_behind : (h : History) → next_number h ≡ h.opening.line + length h.lines
next_behind h = sym (next_line_is h.opening h.lines h.rolled)

grows_next : (number : ℕ) (now y : History) → Grows number now y → next_number now ≤ next_number y
grows_next number now y (same is) = let e : next_number y ≡ next_number now = ap next_number is in omega (arith, e)
grows_next number now y (hands_out o l) =
    let a : y.opening.line ≡ now.opening.line = ap (λ (z : Opening). z.line) o in
    let b : length y.lines ≡ length now.lines = ap length l in
    omega (arith, a, b, next_behind now, next_behind y)
grows_next number now y (entry l own is) =
    let e : next_number y ≡ next_number (with_line now l) = ap next_number is in
    omega (arith, e, next_behind now, next_behind (with_line now l), length-append now.lines (l ∷ []))
grows_next number now y (opens empty up good is goes) = omega (arith, goes)

cuts_still : (first : Opening) (n : ℕ) (now y : History) → y.opening ≡ now.opening → IsOpeningAfter first n now.opening → IsOpeningAfter first (n + cuts_since (Some now) y) y.opening
cuts_still first n now y o is =
    let none_more : cuts_since (Some now) y ≡ 0 = ap (λ (b : Bool). if b then 0 else 1) (eq-eqb (period_of y) (period_of now) (ap (λ (z : Opening). z.period) o)) in
    let count : n ≡ n + cuts_since (Some now) y = omega (arith, none_more) in
    subst (λ (x : ℕ × Opening). IsOpeningAfter first x.0 x.1) (λ i. (count i, sym o i)) is

grows_cuts : (first : Opening) (n number : ℕ) (now y : History) → Grows number now y → IsOpeningAfter first n now.opening → IsOpeningAfter first (n + cuts_since (Some now) y) y.opening
grows_cuts first n number now y (same e) is = cuts_still first n now y (ap (λ (h : History). h.opening) e) is
grows_cuts first n number now y (hands_out o l) is = cuts_still first n now y o is
grows_cuts first n number now y (entry l own e) is = cuts_still first n now y (ap (λ (h : History). h.opening) e) is
grows_cuts first n number now y (opens empty up good leads goes) is =
    let apart : period_of y ≢ period_of now = λ e. absurd (omega (arith, e, up)) in
    let one_more : cuts_since (Some now) y ≡ 1 = ap (λ (b : Bool). if b then 0 else 1) (ne_eqb (period_of y) (period_of now) apart) in
    let count : suc n ≡ n + cuts_since (Some now) y = omega (arith, one_more) in
    subst (λ k. IsOpeningAfter first k y.opening) count (now, is, good, leads)

all_true : (a b c d : Bool) → ((a && b) && (c && d)) ≡ true → (a ≡ true) × (b ≡ true) × (c ≡ true) × (d ≡ true)
all_true true true true true is = (refl, refl, refl, refl)
all_true false b c d is = absurd (never is)
all_true true false c d is = absurd (never is)
all_true true true false d is = absurd (never is)
all_true true true true false is = absurd (never is)

-- what looks as what was seen has the same period, next number, and lines and programs that were rolled
alike : (now y : History) → is_same (Some now) y ≡ true → (period_of now ≡ period_of y) × (next_number now ≡ next_number y) × (now.rolled.lines ≡ y.rolled.lines) × (now.rolled.programs ≡ y.rolled.programs)
alike now y is =
    let parts = all_true (period_of now == period_of y) (next_number now == next_number y) (now.rolled.lines == y.rolled.lines) (now.rolled.programs == y.rolled.programs) is in (
      eqb-true (period_of now) (period_of y) parts.0,
      eqb-true (next_number now) (next_number y) parts.1,
      eqb-true now.rolled.lines y.rolled.lines parts.2,
      eqb-true now.rolled.programs y.rolled.programs parts.3,
    )

-- what is put back is what was taken, where it looks the same
grows_same : (number : ℕ) (now y : History) → Grows number now y → is_same (Some now) y ≡ true → y ≡ now
grows_same number now y (same e) is = e
grows_same number now y (hands_out o l) is =
    let lines : y.rolled.lines ≡ now.rolled.lines = sym (alike now y is).2 in
    let programs : y.rolled.programs ≡ now.rolled.programs = sym (alike now y is).3 in
    λ i. record { opening = o i; lines = l i; rolled = record { lines = lines i; programs = programs i } }
grows_same number now y (entry l own e) is =
    let next : next_number now ≡ next_number y = (alike now y is).1 in
    let longer : next_number y ≡ next_number (with_line now l) = ap next_number e in
    absurd (omega (arith, next, longer, next_behind now, next_behind (with_line now l), length-append now.lines (l ∷ [])))
grows_same number now y (opens empty up good leads goes) is =
    let period : period_of now ≡ period_of y = (alike now y is).0 in
    absurd (omega (arith, period, up))

module _ {origin : Option History} (past : ℕ → History) (now y : History) (views : List View) (id : ℕ) (v : View) (here : get_elem? views id ≡ some v) (sits : v.sits ≡ true) (seen : v.seen ≡ Some now) (current : past (period_of now) ≡ now) (grows : Grows v.number now y) (m : AreMadeBy origin past now (traces_of views)) where
  put_on : (P Q : Trace → Type 0) → (P (trace_of v) → Q (trace_of (putting v y))) → ((t : Trace) → P t → Q t) → Among P (traces_of views) → Among Q (traces_of (set views id (putting v y)))
  put_on P Q own all = among_set views id v (putting v y) here P Q all (by_map P Q v.sits (trace_of v) (trace_of (putting v y)) v.known own all)

  put_own : (P : Trace → Type 0) → P (trace_of (putting v y)) → Among P (traces_of (set views id (putting v y)))
  put_own P p = at_among P (set views id (putting v y)) id (putting v y) (set_same views id v (putting v y) here) (by_own P v.sits (trace_of (putting v y)) v.known sits p)

  put_left : (x : History) → IsLeftBy (traces_of views) m.first x → IsLeftBy (traces_of (set views id (putting v y))) m.first x
  put_left x l = left_on (traces_of views) (traces_of (set views id (putting v y))) m.first x (put_on (HasLeft x) (HasLeft x) (has_kept (is_same v.seen y) x v.left y) (λ t p. p)) l

  -- what looks as what was seen is the last history
  still : is_same v.seen y ≡ true → now ≡ y
  still is = sym (grows_same v.number now y grows (ap (λ s. is_same s y) (sym seen) ∙ is))

  last_at : (b : Bool) → is_same v.seen y ≡ b → IsLeftBy (traces_of (set views id (putting v y))) m.first y
  last_at true is = put_left y (subst (IsLeftBy (traces_of views) m.first) (current ∙ still is) (m.left (period_of now)))
  last_at false is = inr (put_own (HasLeft y) (has_end (is_same v.seen y) v.left y is))

  put_last : IsLeftBy (traces_of (set views id (putting v y))) m.first y
  put_last = last_at (is_same v.seen y) refl

  left_at : (period : ℕ) (b : Bool) → (period == period_of y) ≡ b → IsLeftBy (traces_of (set views id (putting v y))) m.first (renewed past y period)
  left_at period true e = subst (IsLeftBy (traces_of (set views id (putting v y))) m.first) (sym (renewed_last past y period (eqb-true period (period_of y) e))) put_last
  left_at period false e = subst (IsLeftBy (traces_of (set views id (putting v y))) m.first) (sym (renewed_other past y period (eqb-false period (period_of y) e))) (put_left (past period) (m.left period))

  abbrev IsMade : ℕ → History → Type 0
  IsMade number h = (lines_of number h.lines ≡ []) ⊎ Among (HasMade h number) (traces_of (set views id (putting v y)))

  -- the entries of a number in one history are those of it in another of the same opening
  made_as : (number : ℕ) (h k : History) → k.opening ≡ h.opening → lines_of number k.lines ≡ lines_of number h.lines → (lines_of number h.lines ≡ []) ⊎ Among (HasMade h number) (traces_of views) → IsMade number k
  made_as number h k o l was =
      ⊎_elim
      (λ (e : lines_of number h.lines ≡ []). inl (l ∙ e))
      (λ (a : Among (HasMade h number) (traces_of views)). inr (put_on (HasMade h number) (HasMade k number)
      (λ p. (p.0, (p.1.0, has_kept (is_same v.seen y) p.1.0 v.left y p.1.1, p.1.2 ∙ sym o, p.1.3 ∙ sym l)))
      (λ t p. (p.0, (p.1.0, p.1.1, p.1.2 ∙ sym o, p.1.3 ∙ sym l))) a))
      was

  was_now : (number : ℕ) → (lines_of number now.lines ≡ []) ⊎ Among (HasMade now number) (traces_of views)
  was_now number = subst (λ (h : History). (lines_of number h.lines ≡ []) ⊎ Among (HasMade h number) (traces_of views)) current (m.made (period_of now) number)

  made_other : (number : ℕ) → v.number ≢ number → Grows v.number now y → IsMade number y
  made_other number ne (same is) = made_as number now y (ap (λ (h : History). h.opening) is) (ap (λ (h : History). lines_of number h.lines) is) (was_now number)
  made_other number ne (hands_out o l) = made_as number now y o (ap (lines_of number) l) (was_now number)
  made_other number ne (entry l own is) =
      made_as number now y (ap (λ (h : History). h.opening) is)
      (ap (λ (h : History). lines_of number h.lines) is ∙ other_line number now.lines l (ne_eqb l.seat number (λ o. ne (sym own ∙ o)))) (was_now number)
  made_other number ne (opens empty up good is goes) = inl (ap (lines_of number) empty)

  made_own : (number : ℕ) → v.number ≡ number → (b : Bool) → is_same v.seen y ≡ b → IsMade number y
  made_own number own true is = made_as number now y (ap (λ (h : History). h.opening) (sym (still is))) (ap (λ (h : History). lines_of number h.lines) (sym (still is))) (was_now number)
  made_own number own false is = inr (put_own (HasMade y number) (own, (y, has_end (is_same v.seen y) v.left y is, refl, refl)))

  made_now : (number : ℕ) (b : Bool) → (v.number == number) ≡ b → IsMade number y
  made_now number true e = made_own number (eqb-true v.number number e) (is_same v.seen y) refl
  made_now number false e = made_other number (eqb-false v.number number e) grows

  made_at : (period number : ℕ) (b : Bool) → (period == period_of y) ≡ b → IsMade number (renewed past y period)
  made_at period number true e = subst (IsMade number) (sym (renewed_last past y period (eqb-true period (period_of y) e))) (made_now number (v.number == number) refl)
  made_at period number false e = subst (IsMade number) (sym (renewed_other past y period (eqb-false period (period_of y) e))) (made_as number (past period) (past period) refl refl (m.made period number))

  put_total : (f : Trace → ℕ) → total f (traces_of (set views id (putting v y))) + f (trace_of v) ≡ total f (traces_of views) + f (trace_of (putting v y))
  put_total f =
      let s = total_set f views id v (putting v y) here in
      let a = own_total f v.sits (trace_of v) v.known sits in
      let b = own_total f v.sits (trace_of (putting v y)) v.known sits in
      omega (arith, s, a, b)

  pub made_put : AreMadeBy origin (renewed past y) y (traces_of (set views id (putting v y)))
  made_put =
      let more : entries_since v.seen y ≡ next_number y - next_number now = ap (λ s. entries_since s y) seen in
      let entries : next_number y ≡ next_number m.first + entries_of (traces_of (set views id (putting v y))) = let t = put_total (λ u. u.entries) in let n = grows_next v.number now y grows in omega (arith, t, n, more, m.entries) in
      let again : cuts_since v.seen y ≡ cuts_since (Some now) y = ap (λ s. cuts_since s y) seen in
      let cuts : cuts_of (traces_of views) + cuts_since (Some now) y ≡ cuts_of (traces_of (set views id (putting v y))) = let t = put_total (λ u. u.cuts) in omega (arith, t, again) in
      record {
        first = m.first;
        is_first = m.is_first;
        left = λ period. left_at period (period == period_of y) refl;
        found = λ x h.
            ⊎_elim
            (λ (a : Among (HasSeen x) (traces_of views)). put_left x (m.found x a))
            (λ (e : y ≡ x). subst (IsLeftBy (traces_of (set views id (putting v y))) m.first) e put_last)
            (among_was views id v (putting v y) here (HasSeen x) (y ≡ x) (by_back (HasSeen x) (y ≡ x) v.sits (trace_of v) (trace_of (putting v y)) v.known (has_was x v.all_seen y)) h);
        made = λ period number. made_at period number (period == period_of y) refl;
        entries = entries;
        cuts = subst (λ n. IsOpeningAfter m.first.opening n y.opening) cuts (grows_cuts m.first.opening (cuts_of (traces_of views)) v.number now y grows m.cuts);
      }

-- ---- one view takes another's in

module _ (views : List View) (id : ℕ) (v : View) (other : ℕ) (w both : View) (here : get_elem? views id ≡ some v) (was : get_elem? views other ≡ some w) (apart : other ≢ id) (sum : traces_in both ≡ traces_in v ++ traces_in w) where
  join_there : get_elem? (set (set views id both) other spent) id ≡ some both
  join_there = set_else (set views id both) other id spent (λ e. apart (sym e)) ∙ set_same views id v both here

  join_else : (P : Trace → Type 0) (f : At P views) → f.0 ≢ id → (b : Bool) → (f.0 == other) ≡ b → Among P (traces_of (set (set views id both) other spent))
  join_else P f ne true e =
      let is : w ≡ f.1 = same_at views other w f.1 was (subst (λ k. get_elem? views k ≡ some f.1) (eqb-true f.0 other e) f.2) in
      at_among P (set (set views id both) other spent) id both join_there (subst (Among P) (sym sum) (among_right P (traces_in v) (traces_in w) (subst (λ (u : View). Among P (traces_in u)) (sym is) f.3)))
  join_else P f ne false e =
      at_among P (set (set views id both) other spent) f.0 f.1 (set_else (set views id both) other f.0 spent (eqb-false f.0 other e) ∙ (set_else views id f.0 both ne ∙ f.2)) f.3

  join_at : (P : Trace → Type 0) (f : At P views) (b : Bool) → (f.0 == id) ≡ b → Among P (traces_of (set (set views id both) other spent))
  join_at P f true e =
      let is : v ≡ f.1 = same_at views id v f.1 here (subst (λ k. get_elem? views k ≡ some f.1) (eqb-true f.0 id e) f.2) in
      at_among P (set (set views id both) other spent) id both join_there (subst (Among P) (sym sum) (among_left P (traces_in v) (traces_in w) (subst (λ (u : View). Among P (traces_in u)) (sym is) f.3)))
  join_at P f false e = join_else P f (eqb-false f.0 id e) (f.0 == other) refl

  joined : (P : Trace → Type 0) → Among P (traces_of views) → Among P (traces_of (set (set views id both) other spent))
  joined P h = let f = among_at P views h in join_at P f (f.0 == id) refl

  parted_both : (P : Trace → Type 0) → Among P (traces_in both) → Among P (traces_of views)
  parted_both P a =
      ⊎_elim
      (λ (l : Among P (traces_in v)). at_among P views id v here l)
      (λ (r : Among P (traces_in w)). at_among P views other w was r)
      (among_split P (traces_in v) (traces_in w) (subst (Among P) sum a))

  parted_at : (P : Trace → Type 0) (f : At P (set views id both)) → Among P (traces_of views)
  parted_at P f =
      ⊎_elim
      (λ (x : (f.0 ≡ id) × (both ≡ f.1)). parted_both P (subst (λ (u : View). Among P (traces_in u)) (sym x.1) f.3))
      (λ (x : (f.0 ≢ id) × (get_elem? views f.0 ≡ some f.1)). at_among P views f.0 f.1 x.1 f.3)
      (at_set views id f.0 both f.1 f.2)

  parted : (P : Trace → Type 0) → Among P (traces_of (set (set views id both) other spent)) → Among P (traces_of views)
  parted P h =
      let f = among_at P (set (set views id both) other spent) h in
      ⊎_elim
      (λ (x : (f.0 ≡ other) × (spent ≡ f.1)). absurd (subst (λ (u : View). Among P (traces_in u)) (sym x.1) f.3))
      (λ (x : (f.0 ≢ other) × (get_elem? (set views id both) f.0 ≡ some f.1)). parted_at P (f.0, f.1, x.1, f.3))
      (at_set (set views id both) other f.0 spent f.1 f.2)

  even : (f : Trace → ℕ) → total f (traces_of (set (set views id both) other spent)) ≡ total f (traces_of views)
  even f =
      let one = total_set f views id v both here in
      let two = total_set f (set views id both) other w spent (set_else views id other both apart ∙ was) in
      let all : total f (traces_in both) ≡ total f (traces_in v) + total f (traces_in w) = ap (total f) sum ∙ total_append f (traces_in v) (traces_in w) in
      omega (arith, one, two, all)

  pub made_joined : {origin : Option History} (past : ℕ → History) (now : History) → AreMadeBy origin past now (traces_of views) → AreMadeBy origin past now (traces_of (set (set views id both) other spent))
  made_joined past now m = made_moved past now (traces_of views) (traces_of (set (set views id both) other spent)) joined parted even m
