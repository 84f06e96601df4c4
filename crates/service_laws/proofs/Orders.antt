-- The order of moments, and of numbers over all openings.
use Rattle.std.proofs.Common.{◌≡◌, ℕ, zero, suc, ◌+◌, ◌≤◌, ◌⊎◌, inl, inr, Bool, if◌then◌else◌, List, [], ◌∷◌, ◌++◌, length, slice_get, Option, Some, None, Result, Ok, Err, arith, ap, rules}
use Rattle.refusals.specs.declared.RefusalNumber.{RefusalNumber}
use Rattle.refusals.specs.declared.RefusalNumber.TheVariants as refusal
use Rattle.service_profile.specs.Answers.{cut}
use Rattle.service_profile.specs.Events.{EntryData, Opening, History}
use Rattle.service_profile.specs.Histories.{Past, opened, passed, past_of, machine, greatest, AreLegal, IsLegal}
use Rattle.service_laws.specs.Promises.{AreCutInTurn, lines_of_all}
use Rattle.book.proofs.Applying.{same_opening, stage_count}
use Rattle.book.proofs.Lawful.{numbers_kept}
use Rattle.book.proofs.Passing.{greatest_step}

-- ---- moments

greatest_passed : (past : Past) (l : EntryData) → greatest past ≤ l.moment → greatest (passed past l) ≡ l.moment
greatest_passed past l le = greatest_step past.opening.moment past.stages (record { line = l; before = past.standing; after = (machine past l.moment l.event).next }) le

same_line : (a b : EntryData) → ◌≡◌ {A = Option EntryData} (Some a) (Some b) → a ≡ b
same_line a b e = cc

no_line : {A : Type 0} (l : EntryData) → ◌≡◌ {A = Option EntryData} None (Some l) → A
no_line l e = cc

not_before : (past : Past) (lines : List EntryData) (place : ℕ) (l : EntryData) → AreLegal past lines → slice_get lines place ≡ Some l → greatest past ≤ l.moment
not_before past [] place l legal e = no_line l e
not_before past (m ∷ lines) zero l legal e = let same = same_line m l e in omega (arith, legal.0.raises, ap (λ (x : EntryData). x.moment) same)
not_before past (m ∷ lines) (suc place) l legal e =
    omega (arith, legal.0.raises, greatest_passed past m legal.0.raises, not_before (passed past m) lines place l legal.1 e)

in_order_from : (past : Past) (lines : List EntryData) (earlier later : ℕ) (first second : EntryData) → AreLegal past lines → slice_get lines earlier ≡ Some first → slice_get lines later ≡ Some second → earlier ≤ later → first.moment ≤ second.moment
in_order_from past [] earlier later first second legal e f le = no_line first e
in_order_from past (m ∷ lines) zero zero first second legal e f le = omega (arith, ap (λ (x : EntryData). x.moment) (same_line m first e), ap (λ (x : EntryData). x.moment) (same_line m second f))
in_order_from past (m ∷ lines) zero (suc later) first second legal e f le =
    omega (arith, ap (λ (x : EntryData). x.moment) (same_line m first e), greatest_passed past m legal.0.raises, not_before (passed past m) lines later second legal.1 f)
in_order_from past (m ∷ lines) (suc earlier) zero first second legal e f le = absurd (omega (arith, le))
in_order_from past (m ∷ lines) (suc earlier) (suc later) first second legal e f le = in_order_from (passed past m) lines earlier later first second legal.1 e f (omega (arith, le))

pub in_order : (history : History) (earlier later : ℕ) (first second : EntryData) → IsLegal history → slice_get history.lines earlier ≡ Some first → slice_get history.lines later ≡ Some second → earlier ≤ later → first.moment ≤ second.moment
unfolding IsLegal
in_order history earlier later first second legal e f le = in_order_from (opened history.rolled history.opening) history.lines earlier later first second legal e f le

pub not_before_opening : (history : History) (place : ℕ) (line : EntryData) → IsLegal history → slice_get history.lines place ≡ Some line → history.opening.moment ≤ line.moment
unfolding IsLegal
not_before_opening history place line legal e = not_before (opened history.rolled history.opening) history.lines place line legal e

-- ---- numbers

either_part : (xs ys : List EntryData) (place : ℕ) (l : EntryData) → slice_get (xs ++ ys) place ≡ Some l → (slice_get xs place ≡ Some l) ⊎ ((later : ℕ) × (place ≡ length xs + later) × (slice_get ys later ≡ Some l))
either_part [] ys place l e = inr (place, omega arith, e)
either_part (x ∷ xs) ys zero l e = inl e
either_part (x ∷ xs) ys (suc place) l e = one_more (either_part xs ys place l e)
  where
    one_more : (slice_get xs place ≡ Some l) ⊎ ((later : ℕ) × (place ≡ length xs + later) × (slice_get ys later ≡ Some l)) → (slice_get xs place ≡ Some l) ⊎ ((later : ℕ) × (suc place ≡ length (x ∷ xs) + later) × (slice_get ys later ≡ Some l))
    one_more (inl here) = inl here
    one_more (inr there) = inr (there.0, omega (arith, there.1), there.2)

pub reopened_is : (worn held : Bool) (o next : Opening) → ◌≡◌ {A = Result Opening RefusalNumber} (if worn then Err refusal.JournalFull else (if held then Err refusal.TicketsOpen else Ok o)) (Ok next) → o ≡ next
reopened_is worn held o next e = search rules

-- the line number of the next opening
next_number : (before next : History) → cut (past_of before) ≡ Ok next.opening → next.opening.line ≡ before.opening.line + length before.lines
next_number before next e = search (rules, reopened_is, same_opening, stage_count)

-- a line is one of this history, or one of the lines behind them
numbered_by : (history : History) (behind : List EntryData) (place : ℕ) (l : EntryData) → IsLegal history
    → ((later : ℕ) → slice_get behind later ≡ Some l → l.number ≡ history.opening.line + length history.lines + later)
    → (slice_get history.lines place ≡ Some l) ⊎ ((later : ℕ) × (place ≡ length history.lines + later) × (slice_get behind later ≡ Some l)) → l.number ≡ history.opening.line + place
numbered_by history behind place l legal on a = search (rules, numbers_kept)

numbered_after : (history : History) (further : List History) (place : ℕ) (l : EntryData) → IsLegal history → AreCutInTurn history further → slice_get (lines_of_all (history ∷ further)) place ≡ Some l → l.number ≡ history.opening.line + place
numbered_after history [] place l legal cuts e = numbered_by history [] place l legal (λ later none. no_line l none) (either_part history.lines [] place l e)
numbered_after history (next ∷ further) place l legal cuts e =
    numbered_by history (lines_of_all (next ∷ further)) place l legal (λ later there. omega (arith, numbered_after next further later l cuts.1.0 cuts.1.1 there, next_number history next cuts.0)) (either_part history.lines (lines_of_all (next ∷ further)) place l e)

pub numbered : (first : History) (further : List History) (place : ℕ) (line : EntryData) → first.opening.line ≡ 1 → IsLegal first → AreCutInTurn first further → slice_get (lines_of_all (first ∷ further)) place ≡ Some line → line.number ≡ suc place
numbered first further place line one legal cuts e = omega (arith, one, numbered_after first further place line legal cuts e)
