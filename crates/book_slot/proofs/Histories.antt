-- What was seen, when the last history grows or a new opening begins.
use Rattle.std.proofs.Common.{◌≡◌, ◌≢◌, ℕ, ◌<◌, ◌==◌, Bool, true, false, List, [], ◌∷◌, ◌++◌, refl, sym, ap, ◌∙◌, subst, arith, Option, Some, None}
use Rattle.std.specs.Prelude.{if◌then◌else◌}
use Rattle.std.proofs.lemmas.Bool.{eq-eqb, ne_eqb, eqb-true, eqb-false}
use Rattle.service_profile.specs.Events.{EntryData, History}
use Rattle.service_profile.specs.Answers.{with_line}
use Rattle.book.specs.Good.{IsGood}
use Rattle.service_profile.specs.Seats.{lines_of}
use Rattle.book_slot.proofs.Lines.{other_line, begins_with_itself, begins_with_more}
use Rattle.book_slot.specs.declared.view.Trace.{Trace}
use Rattle.book_slot.specs.Rules.{Grows, same, hands_out, entry, opens}
use Rattle.book_slot.specs.Seen.{at_first, goes_on, later}
use Rattle.book_slot.specs.Courses.{AreOfOne}
use Rattle.book_slot.specs.Seen.{Begins, FoundAfter, IsPast, AllPast, ArePast}

abbrev pub period_of : History → ℕ
period_of history = history.opening.period

pub begins_itself : (history : History) → Begins history history
begins_itself history = (refl, begins_with_itself history.lines)

begins_more : (history x : History) (l : EntryData) → Begins history x → Begins (with_line history l) x
begins_more history x l b = (b.0, begins_with_more history.lines x.lines l b.1)

-- ---- what another seat finds

found_line : (seen : Option History) (number : ℕ) (mine : List EntryData) (now : History) (l : EntryData) → l.seat ≢ number → FoundAfter seen number mine now → FoundAfter seen number mine (with_line now l)
found_line seen number mine now l ne (at_first s e) = at_first s (other_line number now.lines l (ne_eqb l.seat number ne) ∙ e)
found_line seen number mine now l ne (goes_on x s b e) = goes_on x s (begins_more now x l b) (other_line number now.lines l (ne_eqb l.seat number ne) ∙ e)
found_line seen number mine now l ne (later x s less e) = later x s less (other_line number now.lines l (ne_eqb l.seat number ne) ∙ e)

found_opening : (seen : Option History) (number : ℕ) (mine : List EntryData) (now y : History) → y.lines ≡ [] → period_of now < period_of y → FoundAfter seen number mine now → FoundAfter seen number mine y
found_opening seen number mine now y empty up (at_first s e) = at_first s (ap (lines_of number) empty)
found_opening seen number mine now y empty up (goes_on x s b e) = let p : period_of x ≡ period_of now = ap (λ o. o.period) b.0 in later x s (omega (arith, p, up)) (ap (lines_of number) empty)
found_opening seen number mine now y empty up (later x s less e) = later x s (omega (arith, less, up)) (ap (lines_of number) empty)

found_rolled : (seen : Option History) (number : ℕ) (mine : List EntryData) (now y : History) → y.opening ≡ now.opening → y.lines ≡ now.lines → FoundAfter seen number mine now → FoundAfter seen number mine y
found_rolled seen number mine now y o l (at_first s e) = at_first s (ap (lines_of number) l ∙ e)
found_rolled seen number mine now y o l (goes_on x s b e) = goes_on x s (b.0 ∙ sym o, (b.1.0, l ∙ b.1.1)) (ap (lines_of number) l ∙ e)
found_rolled seen number mine now y o l (later x s less e) = later x s (omega (arith, less, ap (λ z. z.period) o)) (ap (lines_of number) l ∙ e)

pub found_grown : (seen : Option History) (number : ℕ) (mine : List EntryData) (by : ℕ) (now y : History) → by ≢ number → Grows by now y → FoundAfter seen number mine now → FoundAfter seen number mine y
found_grown seen number mine by now y ne (same is) f = subst (FoundAfter seen number mine) (sym is) f
found_grown seen number mine by now y ne (hands_out o l) f = found_rolled seen number mine now y o l f
found_grown seen number mine by now y ne (entry l own is) f = subst (FoundAfter seen number mine) (sym is) (found_line seen number mine now l (λ e. ne (sym own ∙ e)) f)
found_grown seen number mine by now y ne (opens empty up good is goes) f = found_opening seen number mine now y empty up f

-- no entries of a number that nobody has yet
pub none_grown : (number by : ℕ) (now y : History) → by ≢ number → Grows by now y → lines_of number now.lines ≡ [] → lines_of number y.lines ≡ []
none_grown number by now y ne (same is) e = ap (λ (h : History). lines_of number h.lines) is ∙ e
none_grown number by now y ne (hands_out o l) e = ap (lines_of number) l ∙ e
none_grown number by now y ne (entry l own is) e = ap (λ (h : History). lines_of number h.lines) is ∙ (other_line number now.lines l (ne_eqb l.seat number (λ o. ne (sym own ∙ o))) ∙ e)
none_grown number by now y ne (opens empty up good is goes) e = ap (lines_of number) empty

-- ---- the histories of all openings

-- the last one is as it is put
abbrev pub renewed : (ℕ → History) → History → ℕ → History
renewed past y period = if period == period_of y then y else past period

pub renewed_last : (past : ℕ → History) (y : History) (period : ℕ) → period ≡ period_of y → renewed past y period ≡ y
renewed_last past y period is = ap (λ (b : Bool). if b then y else past period) (eq-eqb period (period_of y) is)

pub renewed_other : (past : ℕ → History) (y : History) (period : ℕ) → period ≢ period_of y → renewed past y period ≡ past period
renewed_other past y period ne = ap (λ (b : Bool). if b then y else past period) (ne_eqb period (period_of y) ne)

pub renewed_good : (P : History → Type 0) (past : ℕ → History) (y : History) → P y → ((period : ℕ) → P (past period)) → (period : ℕ) → P (renewed past y period)
renewed_good P past y good all period = pick (period == period_of y)
  where
    pick : (b : Bool) → P (if b then y else past period)
    pick true = good
    pick false = all period

-- what was seen of the last opening begins the history that is put, too
abbrev pub Onward : History → History → Type 0
Onward now y = (period_of y ≡ period_of now) × ((x : History) → Begins now x → Begins y x)

past_on : (past : ℕ → History) (now y x : History) → past (period_of now) ≡ now → Onward now y → IsPast past now (Some x) → IsPast (renewed past y) y (Some x)
past_on past now y x current on is = (omega (arith, is.0, on.0), pick (period_of x == period_of y) refl)
  where
    pick : (b : Bool) → (period_of x == period_of y) ≡ b → Begins (renewed past y (period_of x)) x
    pick true e =
        let here : period_of x ≡ period_of y = eqb-true (period_of x) (period_of y) e in
        let last : past (period_of x) ≡ now = ap past (here ∙ on.0) ∙ current in
        subst (λ (h : History). Begins h x) (sym (renewed_last past y (period_of x) here)) (on.1 x (subst (λ (h : History). Begins h x) last is.1))
    pick false e = subst (λ (h : History). Begins h x) (sym (renewed_other past y (period_of x) (eqb-false (period_of x) (period_of y) e))) is.1

past_opening : (past : ℕ → History) (now y x : History) → period_of now < period_of y → IsPast past now (Some x) → IsPast (renewed past y) y (Some x)
past_opening past now y x up is =
    let apart : period_of x ≢ period_of y = λ e. absurd (omega (arith, e, up, is.0)) in
    (omega (arith, is.0, up), subst (λ (h : History). Begins h x) (sym (renewed_other past y (period_of x) apart)) is.1)

pub past_grown : (past : ℕ → History) (by : ℕ) (now y : History) → past (period_of now) ≡ now → Grows by now y → (seen : Option History) → IsPast past now seen → IsPast (renewed past y) y seen
past_grown past by now y current grows None is = tt
past_grown past by now y current (same e) (Some x) is = past_on past now y x current (ap period_of e, λ z b. subst (λ (h : History). Begins h z) (sym e) b) is
past_grown past by now y current (hands_out o l) (Some x) is = past_on past now y x current (ap (λ z. z.period) o, λ z b. (b.0 ∙ sym o, (b.1.0, l ∙ b.1.1))) is
past_grown past by now y current (entry l own e) (Some x) is = past_on past now y x current (ap period_of e, λ z b. subst (λ (h : History). Begins h z) (sym e) (begins_more now z l b)) is
past_grown past by now y current (opens empty up good cut goes) (Some x) is = past_opening past now y x up is

pub seen_grown : (past : ℕ → History) (by : ℕ) (now y : History) → past (period_of now) ≡ now → Grows by now y → (seen : List History) → AllPast past now seen → AllPast (renewed past y) y seen
seen_grown past by now y current grows [] is = tt
seen_grown past by now y current grows (x ∷ xs) is = (past_grown past by now y current grows (Some x) is.0, seen_grown past by now y current grows xs is.1)

pub all_grown : (past : ℕ → History) (by : ℕ) (now y : History) → past (period_of now) ≡ now → Grows by now y → (known : List Trace) → ArePast past now known → ArePast (renewed past y) y known
all_grown past by now y current grows [] is = tt
all_grown past by now y current grows (t ∷ others) is = (seen_grown past by now y current grows t.seen is.0, all_grown past by now y current grows others is.1)

pub past_itself : (past : ℕ → History) (now : History) → past (period_of now) ≡ now → IsPast past now (Some now)
past_itself past now current = (omega arith, subst (λ (h : History). Begins h now) (sym current) (begins_itself now))

pub seen_snoc : (past : ℕ → History) (now : History) (seen : List History) (x : History) → AllPast past now seen → IsPast past now (Some x) → AllPast past now (seen ++ x ∷ [])
seen_snoc past now [] x all is = (is, tt)
seen_snoc past now (y ∷ ys) x all is = (all.0, seen_snoc past now ys x all.1 is)

pub past_snoc : (past : ℕ → History) (now : History) (known : List Trace) (t : Trace) → ArePast past now known → AllPast past now t.seen → ArePast past now (known ++ t ∷ [])
past_snoc past now [] t all is = (is, tt)
past_snoc past now (u ∷ others) t all is = (all.0, past_snoc past now others t all.1 is)

-- what was seen first, of what was seen
pub seen_before : (past : ℕ → History) (now : History) (first more : List History) → AllPast past now (first ++ more) → AllPast past now first
seen_before past now [] more all = tt
seen_before past now (x ∷ xs) more all = (all.0, seen_before past now xs more all.1)

-- ---- what two have seen

pub begin_one : (past : ℕ → History) (now : History) (one other : Option History) → ((period : ℕ) → IsGood (past period)) → IsPast past now one → IsPast past now other → AreOfOne one other
begin_one past now None other good a b = tt
begin_one past now (Some x) None good a b = tt
begin_one past now (Some x) (Some y) good a b = λ e. (past (period_of x), good (period_of x), a.1, subst (λ (n : ℕ). Begins (past n) y) (sym e) b.1)
