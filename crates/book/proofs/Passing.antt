-- What one line more changes in what a history says.
use Rattle.std.proofs.Common.{◌≡◌, ℕ, ◌+◌, ◌≤◌, ◌<◌, ◌==◌, max, ◌&&◌, not, Bool, false, if◌then◌else◌, List, [], ◌∷◌, ◌++◌, map, length, Option, Some, None, option_to_list, refl, ap, sym, ◌∙◌, length-append, append-nil, rules}
use Rattle.std.specs.List.{filter, filter_map, fold, AllByRecursion}
use Rattle.std.proofs.lemmas.Bool.Decides.{Decides-eqb, not_from_Decides}
use Rattle.std.proofs.Math.Arith.{lt_of_le-ne}
use Rattle.std.proofs.lemmas.List.{map-append}
use Rattle.std.proofs.lemmas.List.Elements.{filter-append}
use Rattle.std.proofs.lemmas.List.Folds.{list_any-append}
use Rattle.std.proofs.lemmas.List.Sums.{fold-append}
use Rattle.service_profile.specs.declared.configuration.ConfigParts.{ConfigParts}
use Rattle.service_profile.specs.declared.tickets.OpenTicket.{OpenTicket}
use Rattle.service_profile.specs.Machine.{is_refused_call}
use Rattle.book.specs.Following.{notes_after, is_number, tickets_after, one_where_some, refused_after}
use Rattle.service_profile.specs.Histories.{Stage, note_at, taken_in, issue_at, end_at, issued, ended, is_listed, open_of, refused_in}
use Rattle.book.proofs.Lists.{none_kept, kept_again, same_kept, map_with}

-- no stage was taken in a later period than this, nor led to one
abbrev pub AreBefore : ℕ → List Stage → Type 0
AreBefore period stages = AllByRecursion (λ stage. (stage.before.period ≤ period) × (stage.after.period ≤ period)) stages

pub eqb_false : (a b : ℕ) → a < b → (a == b) ≡ false
eqb_false a b h = search rules

pub eqb_false_after : (a b : ℕ) → b < a → (a == b) ≡ false
eqb_false_after a b h = search rules

pub strictly : (a b : ℕ) → a ≤ b → (b == a) ≡ false → a < b
strictly a b h t = lt_of_le-ne h (λ e. not_from_Decides (b == a) (Decides-eqb b a) t (sym e))

-- ---- notes

notes_by : (test : Bool) (config : ConfigParts) (stages : List Stage) (stage : Stage) → AreBefore stage.before.period stages → stage.before.period ≤ stage.after.period → (stage.after.period == stage.before.period) ≡ test
    → filter_map (note_at config) (taken_in stage.after.period (stages ++ stage ∷ []))
    ≡ (if test then filter_map (note_at config) (taken_in stage.before.period stages) ++ option_to_list (note_at config stage) else [])
notes_by test config stages stage before le e = search (rules, filter-append, map_with, none_kept)

pub notes_step : (config : ConfigParts) (stages : List Stage) (stage : Stage) → AreBefore stage.before.period stages → stage.before.period ≤ stage.after.period
    → filter_map (note_at config) (taken_in stage.after.period (stages ++ stage ∷ []))
    ≡ notes_after stage.before stage.after (filter_map (note_at config) (taken_in stage.before.period stages)) (note_at config stage)
notes_step config stages stage before le = notes_by (stage.after.period == stage.before.period) config stages stage before le refl

-- ---- refused calls

abbrev refused_at : ℕ → Stage → Bool
refused_at period stage = (stage.after.period == period) && is_refused_call stage.line.reply

last_refused : (stage : Stage) → length (filter (refused_at stage.after.period) (stage ∷ [])) ≡ (if is_refused_call stage.line.reply then 1 else 0)
last_refused stage = search rules

refused_by : (test : Bool) (stages : List Stage) (stage : Stage) → AreBefore stage.before.period stages → stage.before.period ≤ stage.after.period → (stage.after.period == stage.before.period) ≡ test
    → refused_in stage.after.period (stages ++ stage ∷ []) ≡ (if test then refused_in stage.before.period stages else 0) + (if is_refused_call stage.line.reply then 1 else 0)
refused_by test stages stage before le e = search (rules, filter-append, length-append, last_refused, none_kept, eqb_false)

pub refused_step : (stages : List Stage) (stage : Stage) → AreBefore stage.before.period stages → stage.before.period ≤ stage.after.period
    → refused_in stage.after.period (stages ++ stage ∷ []) ≡ refused_after stage.before stage.after (refused_in stage.before.period stages) (is_refused_call stage.line.reply)
refused_step stages stage before le = refused_by (stage.after.period == stage.before.period) stages stage before le refl

-- ---- tickets

listed_step : (numbers : List ℕ) (o : Option ℕ) (number : ℕ) → not (is_listed (numbers ++ option_to_list o) number) ≡ (not (is_listed numbers number) && not (is_number o number))
listed_step numbers o number = search (rules, list_any-append)

pub unlisted : (bound : ℕ) (numbers : List ℕ) → AllByRecursion (λ number. number < bound) numbers → is_listed numbers bound ≡ false
unlisted bound [] h = refl
unlisted bound (n ∷ numbers) h = search (rules, unlisted bound numbers h.1)

-- the ticket that a line issues is new, and no line issues one and ends one
pub record IsFresh (next : ℕ) (end_ : Option ℕ) (issue : Option OpenTicket) : Type 0 where
  pub number : (ticket : OpenTicket) → issue ≡ Some ticket → (ticket.number ≡ next) × (end_ ≡ None)

fresh_kept : (numbers : List ℕ) (next : ℕ) (end_ : Option ℕ) (issue : Option OpenTicket) → AllByRecursion (λ number. number < next) numbers → IsFresh next end_ issue
    → filter (λ (ticket : OpenTicket). not (is_listed (numbers ++ option_to_list end_) ticket.number)) (option_to_list issue) ≡ option_to_list issue
fresh_kept numbers next end_ issue h fresh = search (rules, append-nil, unlisted)

pub open_step : (stages : List Stage) (stage : Stage) (next : ℕ) → AllByRecursion (λ number. number < next) (ended stages) → IsFresh next (end_at stage) (issue_at stage)
    → open_of (stages ++ stage ∷ []) ≡ tickets_after (open_of stages) (end_at stage) (issue_at stage)
open_step stages stage next h fresh =
    let test : List ℕ → OpenTicket → Bool = λ numbers ticket. not (is_listed numbers ticket.number) in
    let ends : ended (stages ++ stage ∷ []) ≡ ended stages ++ option_to_list (end_at stage) = map_with end_at stages stage in
    let issues : issued (stages ++ stage ∷ []) ≡ issued stages ++ option_to_list (issue_at stage) = map_with issue_at stages stage in
    let now : List ℕ = ended stages ++ option_to_list (end_at stage) in
    ap (λ (numbers : List ℕ). filter (test numbers) (issued (stages ++ stage ∷ []))) ends
    ∙ ap (filter (test now)) issues
    ∙ filter-append (test now) (issued stages) (option_to_list (issue_at stage))
    ∙ ap (λ (xs : List OpenTicket). filter (test now) (issued stages) ++ xs) (fresh_kept (ended stages) next (end_at stage) (issue_at stage) h fresh)
    ∙ ap (λ (xs : List OpenTicket). xs ++ option_to_list (issue_at stage))
    (same_kept (test now) (λ (t : OpenTicket). not (is_listed (ended stages) t.number) && not (is_number (end_at stage) t.number)) (λ t. listed_step (ended stages) (end_at stage) t.number) (issued stages)
    ∙ kept_again (λ (t : OpenTicket). not (is_listed (ended stages) t.number)) (λ (t : OpenTicket). not (is_number (end_at stage) t.number)) (issued stages))

pub issued_step : (stages : List Stage) (stage : Stage) → length (issued (stages ++ stage ∷ [])) ≡ length (issued stages) + one_where_some (issue_at stage)
issued_step stages stage = search (rules, map_with, length-append)

-- ---- moments

pub greatest_step : (first : ℕ) (stages : List Stage) (stage : Stage) → fold max first (map (λ s. s.line.moment) stages) ≤ stage.line.moment
    → fold max first (map (λ s. s.line.moment) (stages ++ stage ∷ [])) ≡ stage.line.moment
greatest_step first stages stage le = search (rules, map-append, fold-append)
