-- A call between its take and its put.
use Rattle.std.proofs.Common.{◌≡◌, ℕ, ◌+◌, ◌<◌, ◌≤◌, ◌==◌, List, [], ◌∷◌, append_assoc, Bool, true, false, refl, sym, ap, ◌∙◌, subst, arith, Result, Ok, Err, Option, suc}
use Rattle.std.specs.Prelude.{if◌then◌else◌, MatchBool}
use Rattle.std.specs.List.{fold}
use Rattle.std.proofs.lemmas.Bool.{eqb-true, eqb-false}
use Rattle.atomic_table.specs.Table.{Me, Step, rest}
use Rattle.refusals.specs.declared.RefusalNumber.{RefusalNumber}
use Rattle.refusals.specs.declared.RefusalNumber.TheVariants as refusal
use Rattle.service_profile.specs.declared.replies.Reply.{Reply}
use Rattle.service_profile.specs.Calls.{CallData, CallAnswer, applies, looks, reads, pages, cuts, rolls, replies, finds, shows, hands, IsCalled}
use Rattle.service_profile.specs.Events.{EventData, EntryData, Opening, History}
use Rattle.service_profile.specs.Histories.{Past, opened, passed, past_of, situation_of}
use Rattle.service_profile.specs.Machine.{is_entered}
use Rattle.service_profile.specs.Answers.{IsApplied, as_documented, out_of_memory, IsCut, IsRolled, with_line, line_of, answer, reopened, cut, after_cut, after_roll, lines_up_to, is_worn_out, is_some_open}
use Rattle.service_profile.specs.Answers as answers
use Rattle.book.proofs.Counting.{cuts_go_on}
use Rattle.book.proofs.Deciding.{decision_near}
use Rattle.book.specs.Good.{IsGood}
use Rattle.book_slot.specs.Origins.{IsOf}
use Rattle.book.specs.Reopened.{IsOpeningAfter}
use Rattle.book_slot.specs.declared.view.View.{View}
use Rattle.book_slot.specs.Rules.{putting, Grows, same, hands_out, entry, opens, MayPut, Took}
use Rattle.book_slot.specs.Views.{missed}
use Rattle.book_slot.specs.Trying.{taking, missing}
use Rattle.book_slot.specs.Left.{next_number}
use Rattle.book_slot.specs.Calls.{HoldsOne, Holds, Does}
use Rattle.book_slot.specs.Called.{Called, CalledAfterTries}
use Rattle.book_slot.specs.Places.{PlaceData, place_of}
use Rattle.atomic_table.specs.Seated.{TableId}
use Rattle.book_slot.proofs.Keeps.{held_of}

-- ---- what the book's calls leave

-- periods never fall
standing_rises : (past : Past) (lines : List EntryData) → past.standing.period ≤ (fold passed past lines).standing.period
standing_rises past [] = omega arith
standing_rises past (l ∷ lines) =
    let near = decision_near (situation_of past) l.moment l.event in
    let first : past.standing.period ≤ (passed past l).standing.period = near.least in
    let later = standing_rises (passed past l) lines in
    omega (arith, first, later)

period_rises : (history : History) → history.opening.period ≤ (past_of history).standing.period
period_rises history = standing_rises (opened history.rolled history.opening) history.lines

applied_grows : (history : History) (seat moment : ℕ) (event : EventData) (b : Bool) → Grows seat history (if b then with_line history (line_of history seat moment event) else history)
applied_grows history seat moment event true = entry (line_of history seat moment event) refl refl
applied_grows history seat moment event false = same refl

apply_grows : (history : History) (seat moment : ℕ) (event : EventData) (r : Reply) (after : History) → IsApplied history seat moment event r after → Grows seat history after
apply_grows history seat moment event r after (as_documented replied is) = subst (Grows seat history) (sym is) (applied_grows history seat moment event (is_entered (answer history moment event).reply))
apply_grows history seat moment event r after (out_of_memory replied entered is) = same is

-- a cut raises the period
cut_rises : (history : History) (opening : Opening) (worn some : Bool) → (if worn then Err refusal.JournalFull else (if some then Err refusal.TicketsOpen else Ok (reopened (past_of history)))) ≡ Ok opening → history.opening.period < opening.period
cut_rises history opening true some is = let e : ◌≡◌ {A = Result Opening RefusalNumber} (Err refusal.JournalFull) (Ok opening) = is in absurd cc
cut_rises history opening false true is = let e : ◌≡◌ {A = Result Opening RefusalNumber} (Err refusal.TicketsOpen) (Ok opening) = is in absurd cc
cut_rises history opening false false is =
    let e : ◌≡◌ {A = Result Opening RefusalNumber} (Ok (reopened (past_of history))) (Ok opening) = is in
    let same : reopened (past_of history) ≡ opening = cc in
    let rises = period_rises history in
    subst (λ (o : Opening). history.opening.period < o.period) same (omega (arith, rises))

cut_grows_at : (history : History) (seat : ℕ) (opened : Result Opening RefusalNumber) (after : History) → cut (past_of history) ≡ opened → after ≡ after_cut history opened → IsGood history → next_number after ≡ next_number history → Grows seat history after
cut_grows_at history seat (Ok opening) after is leads good goes =
    let there : after.opening ≡ opening = ap (λ (h : History). h.opening) leads in
    opens (ap (λ (h : History). h.lines) leads)
    (subst (λ (o : Opening). history.opening.period < o.period) (sym there) (cut_rises history opening (is_worn_out (past_of history)) (is_some_open (situation_of (past_of history)).open_tickets) is))
    good (is ∙ ap (λ (o : Opening). Ok o) (sym there)) goes
cut_grows_at history seat (Err refused) after is leads good goes = same leads

cut_grows : (history : History) (seat : ℕ) (found : Result (List EntryData) RefusalNumber) (after : History) → IsGood history → IsCut history found after → Grows seat history after
cut_grows history seat found after good (answers.cuts handed is) = cut_grows_at history seat (cut (past_of history)) after refl is good (cuts_go_on history found after (answers.cuts handed is))
cut_grows history seat found after good (answers.no_room opening there refused is) = same is

roll_grows_by : (history : History) (seat last : ℕ) (worn : Bool) → Grows seat history (after_roll history last (if worn then Err refusal.JournalFull else Ok (lines_up_to history last)))
roll_grows_by history seat last true = same refl
roll_grows_by history seat last false = hands_out refl refl

roll_grows : (history : History) (seat last : ℕ) (found : Result (List EntryData) RefusalNumber) (after : History) → IsRolled history last found after → Grows seat history after
roll_grows history seat last found after (answers.rolls handed is) = subst (Grows seat history) (sym is) (roll_grows_by history seat last (is_worn_out (past_of history)))
roll_grows history seat last found after (answers.no_room lines there less refused is) = same is

-- whatever is called, and whatever is answered
pub called_grows : (number : ℕ) (before : History) (call : CallData) (given : CallAnswer) (after : History) → IsGood before → IsCalled number before call given after → Grows number before after
called_grows number before (applies moment event) (replies r) after good did = apply_grows before number moment event r after did
called_grows number before (looks ticket) (finds found) after good did = same did.1
called_grows number before (reads moment) (shows shown) after good did = same did.1
called_grows number before (pages from) (hands found) after good did = same did.1
called_grows number before cuts (hands found) after good did = cut_grows before number found after good did
called_grows number before (rolls last) (hands found) after good did = roll_grows before number last found after did
called_grows number before call given after good did = absurd did

-- ---- of which book it is

of_same : (origin : Option History) (before after : History) → after.opening ≡ before.opening → IsGood after → IsOf origin before → IsOf origin after
of_same origin before after alike good of_ = record {
  good = good;
  cuts = of_.cuts;
  first = of_.first;
  is_first = of_.is_first;
  after_cuts = subst (λ (o : Opening). IsOpeningAfter of_.first.opening of_.cuts o) (sym alike) of_.after_cuts;
}

entered_opening : (h : History) (l : EntryData) (b : Bool) → (if b then with_line h l else h).opening ≡ h.opening
entered_opening h l true = refl
entered_opening h l false = refl

applied_opening : (h : History) (seat moment : ℕ) (event : EventData) (r : Reply) (after : History) → IsApplied h seat moment event r after → after.opening ≡ h.opening
applied_opening h seat moment event r after (as_documented is leads) = rw leads (entered_opening h (line_of h seat moment event) (is_entered (answer h moment event).reply))
applied_opening h seat moment event r after (out_of_memory is entered stays) = rw stays refl

rolled_by : (h : History) (last : ℕ) (worn : Bool) → (after_roll h last (if worn then Err refusal.JournalFull else Ok (lines_up_to h last))).opening ≡ h.opening
rolled_by h last true = refl
rolled_by h last false = refl

rolled_opening : (h : History) (last : ℕ) (found : Result (List EntryData) RefusalNumber) (after : History) → IsRolled h last found after → after.opening ≡ h.opening
rolled_opening h last found after (answers.rolls is leads) = rw leads (rolled_by h last (is_worn_out (past_of h)))
rolled_opening h last found after (answers.no_room lines is less r stays) = rw stays refl

of_cut : (origin : Option History) (before after : History) (opened : Result Opening RefusalNumber) → cut (past_of before) ≡ opened → after ≡ after_cut before opened → IsGood after → IsOf origin before → IsOf origin after
of_cut origin before after (Ok opening) is leads good of_ = record {
  good = good;
  cuts = suc of_.cuts;
  first = of_.first;
  is_first = of_.is_first;
  after_cuts = (before, of_.after_cuts, of_.good, subst (λ (o : Opening). cut (past_of before) ≡ Ok o) (sym (ap (λ (h : History). h.opening) leads)) is);
}
of_cut origin before after (Err refused) is leads good of_ = of_same origin before after (ap (λ (h : History). h.opening) leads) good of_

cut_of : (origin : Option History) (before : History) (found : Result (List EntryData) RefusalNumber) (after : History) → IsCut before found after → IsGood after → IsOf origin before → IsOf origin after
cut_of origin before found after (answers.cuts handed is) good of_ = of_cut origin before after (cut (past_of before)) refl is good of_
cut_of origin before found after (answers.no_room opening there refused is) good of_ = of_same origin before after (ap (λ (h : History). h.opening) is) good of_

-- whatever is called, and whatever is answered
called_of : (origin : Option History) (number : ℕ) (before : History) (call : CallData) (given : CallAnswer) (after : History) → IsCalled number before call given after → IsGood after → IsOf origin before → IsOf origin after
called_of origin number before (applies moment event) (replies r) after did good of_ = of_same origin before after (applied_opening before number moment event r after did) good of_
called_of origin number before (looks ticket) (finds found) after did good of_ = of_same origin before after (ap (λ (h : History). h.opening) did.1) good of_
called_of origin number before (reads moment) (shows shown) after did good of_ = of_same origin before after (ap (λ (h : History). h.opening) did.1) good of_
called_of origin number before (pages from) (hands found) after did good of_ = of_same origin before after (ap (λ (h : History). h.opening) did.1) good of_
called_of origin number before cuts (hands found) after did good of_ = cut_of origin before found after did good of_
called_of origin number before (rolls last) (hands found) after did good of_ = of_same origin before after (rolled_opening before last found after did) good of_
called_of origin number before call given after did good of_ = absurd did

-- ---- the take

pub taken : (st : Step History) (m m' : Me History View) (found : ℕ) → m.1 ≡ [] → Took st m found m' → (b : Bool) → (found == 1) ≡ b → MatchBool b (Holds m m') ((m'.0 ≡ missing m.0) × (m'.1 ≡ []))
taken st m m' found none_held took true e = let t = took.0 (eqb-true found 1 e) in (t.0, t.4, (t.1, t.2, t.3))
taken st m m' found none_held took false e = let t = took.1 (eqb-false found 1 e) in (t.0, t.1 ∙ none_held)

pub holds_after : (tries : ℕ) (v : View) (m m' : Me History View) → m.0 ≡ missed tries v → m.1 ≡ [] → Holds m m' → Holds (missed tries v, []) m'
holds_after tries v m m' view none_held h = subst (λ (z : Me History View). Holds z m') (λ i. (view i, none_held i)) h

pub missed_more : (n : ℕ) (u v : View) → u ≡ missed n v → missing u ≡ missed (n + 1) v
missed_more n u v is = ap missing is ∙ ap (λ k. record v { misses = k }) (omega arith)

-- ---- a call

module _ (Did : History → History → Type 0) where
  pub does_held : (m : Me History View) (h before after : History) → m.1 ≡ (0, h) ∷ [] → m.1 ≡ (0, before) ∷ rest m.1 → Did before after → IsGood after → Does Did m (m.0, (0, after) ∷ rest m.1)
  does_held m h before after is value did good =
      let alone : rest m.1 ≡ [] = ap rest is in
      record { before = before; after = after; held = value ∙ ap (λ (l : List (ℕ × History)). (0, before) ∷ l) alone; holds = ap (λ (l : List (ℕ × History)). (m.0, (0, after) ∷ l)) alone; did = did; good = good }

  -- the same where the book was held as a take left it
  does_from : (v : View) (history : History) (m m' : Me History View) → m ≡ (taking v history, (0, history) ∷ []) → Does Did m m' → (after : History) × (m' ≡ (taking v history, (0, after) ∷ [])) × Did history after × IsGood after
  does_from v history m m' is d =
      let e : history ≡ d.before = ap (λ (z : Me History View). held_of history z.1) (sym is) ∙ ap (held_of history) d.held in
      let view : m.0 ≡ taking v history = ap (λ (z : Me History View). z.0) is in
      (d.after, d.holds ∙ ap (λ (u : View). (u, (0, d.after) ∷ [])) view, subst (λ (h : History). Did h d.after) (sym e) d.did, d.good)

abbrev with_seen : View → List History → View
with_seen v seen = record v { all_seen = seen }

module _ (call : CallData) (given : CallAnswer) (number : ℕ) where
  pub is_called : (v u : View) (held : List (ℕ × History)) (m' : Me History View) (w : View) → Holds (v, []) (u, held)
      → Does (λ before after. IsCalled number before call given after) (u, held) m' → HoldsOne m' (λ after. w ≡ putting m'.0 after) → Called (λ before after. IsCalled number before call given after) v w
  is_called v u held m' w h d put =
      let from = does_from (λ before after. IsCalled number before call given after) v h.0 (u, held) m' (λ i. (h.2.2 i, h.1 i)) d in
      let after : put.0 ≡ from.0 = ap (held_of from.0) (sym put.1 ∙ ap (λ (z : Me History View). z.1) from.1) in
      record {
        before = h.0;
        after = from.0;
        of_before = h.2.0;
        finds = h.2.1;
        did = from.2;
        of_after = called_of v.origin number h.0 call given from.0 from.2 from.3 h.2.0;
        view = put.2 ∙ (ap (λ (y : History). putting m'.0 y) after ∙ (ap (λ (z : Me History View). putting z.0 from.0) from.1 ∙ ap (with_seen (putting (taking v h.0) from.0)) (append_assoc v.all_seen (h.0 ∷ []) (from.0 ∷ []))));
      }

  -- what the book's call left may be put back
  pub may_put : (v u : View) (held : List (ℕ × History)) (m' : Me History View) → v.number ≡ number → Holds (v, []) (u, held)
      → Does (λ before after. IsCalled number before call given after) (u, held) m' → HoldsOne m' (MayPut m'.0)
  may_put v u held m' own h d =
      let from = does_from (λ before after. IsCalled number before call given after) v h.0 (u, held) m' (λ i. (h.2.2 i, h.1 i)) d in
      let of_after = called_of v.origin number h.0 call given from.0 from.2 from.3 h.2.0 in
      subst (λ (m : Me History View). HoldsOne m (MayPut m.0)) (sym from.1) (from.0, refl, (of_after, (h.0, refl, subst (λ (n : ℕ). Grows n h.0 from.0) (sym own) (called_grows number h.0 call given from.0 h.2.0.good from.2))))

-- the same of a place, which contracts see as one value
module _ (call : CallData) (given : CallAnswer) (number : ℕ) (table : TableId) (v w : View) (p : PlaceData) (is : place_of number table v ≡ p) where
  pub called_by : CalledAfterTries (λ before after. IsCalled number before call given after) v w → CalledAfterTries (λ before after. IsCalled p.number before call given after) p.view w
  called_by called = subst (λ (q : PlaceData). CalledAfterTries (λ before after. IsCalled q.number before call given after) q.view w) is called

  pub tried_by : Called (λ before after. IsCalled number before call given after) v w → Called (λ before after. IsCalled p.number before call given after) p.view w
  tried_by called = subst (λ (q : PlaceData). Called (λ before after. IsCalled q.number before call given after) q.view w) is called
