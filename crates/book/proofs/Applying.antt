-- A book with one line more.
use Rattle.std.proofs.Common.{◌≡◌, ℕ, suc, ◌+◌, ◌-◌, ◌^◌, ◌≤◌, ◌<◌, max, Bool, true, false, if◌then◌else◌, List, [], ◌∷◌, ◌++◌, length, Option, Result, arith, refl, ap, sym, ◌∙◌, subst, length-append, rules}
use Rattle.std.specs.Result.{is_err, OnOk, OnErr}
use Rattle.std.specs.List.{filter_map, cons_option, fold}
use Rattle.std.proofs.Math.Nat.{le-max_right}
use Rattle.std.proofs.lemmas.List.Sums.{fold-append}
use Rattle.service_profile.specs.declared.standings.Standing.{Standing}
use Rattle.service_profile.specs.declared.configuration.ConfigParts.{ConfigParts}
use Rattle.book.specs.declared.events.Event.{Event}
use Rattle.service_profile.specs.declared.decisions.Decision.{Decision}
use Rattle.book.specs.declared.parts.Parts.{Parts}
use Rattle.refusals.specs.declared.RefusalNumber.TheVariants as refusal
use Rattle.service_profile.specs.declared.replies.Reply.TheVariants as reply
use Rattle.service_profile.specs.Limits.{most_entries}
use Rattle.service_profile.specs.Answers.{answer, line_of, with_line, IsApplied, as_documented}
use Rattle.service_profile.specs.Events.{EventData, EntryData, Rolled, Opening, line}
use Rattle.book.specs.Books.{IsBook, opening_of, journal, rolled_of}
use Rattle.service_profile.specs.Machine.{is_refused_call, Situation, decision, is_entered}
use Rattle.book.specs.Following.{followed, refused_after, situation_after}
use Rattle.service_profile.specs.Histories.{Stage, Past, install_by, situation_of, machine, opened, passed, past_of, greatest, raised, next_line, refused_of, Follows, AreLegal, IsLegal}
use Rattle.book.specs.Accepted.{IsSafeProgram, IsEvent, seen}
use Rattle.book.specs.declared.books.Start.{Start}
use Rattle.book.specs.declared.plans.Effects.{Effects}
use Rattle.book.specs.declared.plans.Plan.{Plan}
use Rattle.book.specs.Effects.{effects_of, is_some, planned}
use Rattle.book.specs.Situations.{AreEffects, CanFollow, HasSituation, IsOrderly, StandsFor}
use Rattle.book.specs.Sound.{IsSound}
use Rattle.book.specs.Room.{LeavesRoom}
use Rattle.book.proofs.Accepting.{themselves}
use Rattle.book.proofs.Deciding.{decision_near}
use Rattle.book.proofs.Effected.{before_then, effects_there, few_there, notes_before}
use Rattle.windows.specs.Notes.{AreNotAfter}
use Rattle.book.proofs.Keeping.{situated_step, sound_step, room_step}
use Rattle.book.proofs.Lists.{length_filter_le}
use Rattle.book.proofs.Versions.{dropped_told}
use Rattle.book.proofs.Passing.{refused_step, greatest_step}

-- ---- lines and stages

stages_of : (past : Past) (lines : List EntryData) → length (fold passed past lines).stages ≡ length past.stages + length lines
stages_of past [] = omega arith
stages_of past (l ∷ lines) = let rest = stages_of (passed past l) lines in let here : length (passed past l).stages ≡ length past.stages + 1 = length-append past.stages (record { line = l; before = past.standing; after = (machine past l.moment l.event).next } ∷ []) in omega (arith, rest, here)

pub opening_kept : (past : Past) (lines : List EntryData) → (fold passed past lines).opening ≡ past.opening
opening_kept past [] = refl
opening_kept past (l ∷ lines) = opening_kept (passed past l) lines

pub stage_count : (opening : Opening) (lines : List EntryData) (rolled : Rolled) → length (past_of (journal opening lines rolled)).stages ≡ length lines
stage_count opening lines rolled = let all = stages_of (opened rolled opening) lines in omega (arith, all)

pub same_opening : (opening : Opening) (lines : List EntryData) (rolled : Rolled) → (past_of (journal opening lines rolled)).opening ≡ opening
same_opening opening lines rolled = opening_kept (opened rolled opening) lines

rolled_kept : (past : Past) (lines : List EntryData) → (fold passed past lines).rolled ≡ past.rolled
rolled_kept past [] = refl
rolled_kept past (l ∷ lines) = rolled_kept (passed past l) lines

pub same_rolled : (opening : Opening) (lines : List EntryData) (rolled : Rolled) → (past_of (journal opening lines rolled)).rolled ≡ rolled
same_rolled opening lines rolled = rolled_kept (opened rolled opening) lines

pub same_lines : (opening : Opening) (lines : List EntryData) (rolled : Rolled) → (past_of (journal opening lines rolled)).rolled.lines ≡ rolled.lines
same_lines opening lines rolled = ap (λ (r : Rolled). r.lines) (same_rolled opening lines rolled)

pub past_with : (opening : Opening) (lines : List EntryData) (rolled : Rolled) (l : EntryData) → past_of (journal opening (lines ++ l ∷ []) rolled) ≡ passed (past_of (journal opening lines rolled)) l
past_with opening lines rolled l = fold-append passed (opened rolled opening) lines (l ∷ [])

legal_with : (past : Past) (lines : List EntryData) (l : EntryData) → AreLegal past lines → Follows (fold passed past lines) l → AreLegal past (lines ++ l ∷ [])
legal_with past [] l legal follows = (follows, tt)
legal_with past (m ∷ lines) l legal follows = (legal.0, legal_with (passed past m) lines l legal.1 follows)

pub legal_step : (opening : Opening) (lines : List EntryData) (rolled : Rolled) (l : EntryData) → IsLegal (journal opening lines rolled) → Follows (past_of (journal opening lines rolled)) l → IsLegal (journal opening (lines ++ l ∷ []) rolled)
unfolding IsLegal
legal_step opening lines rolled l legal follows = legal_with (opened rolled opening) lines l legal follows

fewer_head : {B : Type 0} (o : Option B) (rest : List B) (n : ℕ) → length rest ≤ n → length (cons_option o rest) ≤ suc n
fewer_head o rest n h = search rules

fewer_mapped : {A B : Type 0} (f : A → Option B) (xs : List A) → length (filter_map f xs) ≤ length xs
fewer_mapped f [] = omega arith
fewer_mapped f (x ∷ xs) = fewer_head (f x) (filter_map f xs) (length xs) (fewer_mapped f xs)

-- ---- the situation that a book's parts stand for

orderly_there : (opening : Opening) (service : Parts) (moment : ℕ) (lines : List EntryData) (rolled : Rolled) → IsBook opening service moment lines rolled → IsOrderly (situation_of (past_of (journal opening lines rolled)))
orderly_there opening service moment lines rolled book = search (rules, fewer_mapped, length_filter_le)

pub situated : (opening : Opening) (service : Parts) (moment : ℕ) (lines : List EntryData) (rolled : Rolled) → IsBook opening service moment lines rolled → HasSituation service
situated opening service moment lines rolled book = search (rules, orderly_there)

-- a raised moment is not before a note
pub notes_there : (opening : Opening) (service : Parts) (moment raw now : ℕ) (lines : List EntryData) (rolled : Rolled) → IsBook opening service moment lines rolled → now ≡ max raw moment → AreNotAfter now (situation_of (past_of (journal opening lines rolled))).notes
notes_there opening service moment raw now lines rolled book raised_ =
    let past : Past = past_of (journal opening lines rolled) in
    before_then (greatest past) now (situation_of past).notes (omega (arith, raised_, book.greatest_moment, le-max_right raw moment)) (notes_before past)

-- ---- whether there was memory

pub where_ok : {A E P : Type 0} (r : Result A E) → is_err r ≡ false → OnOk r P → P
where_ok r e p = search rules

pub where_err : {A E P : Type 0} (r : Result A E) → is_err r ≡ true → OnErr r P → P
where_err r e p = search rules

-- ---- what is planned

pub decided_so : (config : ConfigParts) (moment : ℕ) (event : EventData) (d : Decision) (plan : Plan) → plan ≡ planned config moment event d → plan.decision ≡ d
decided_so config moment event d plan e = ap (λ (p : Plan). p.decision) e

-- ---- the book after a line

-- the line that the code writes is the one that follows
pub follows_there : (opening : Opening) (service : Parts) (moment : ℕ) (lines : List EntryData) (rolled : Rolled) (number seat raw now : ℕ) (e : Event) (d : Decision)
    → IsBook opening service moment lines rolled → number ≡ opening.line + length lines → now ≡ max raw moment → d ≡ decision (situation_of (past_of (journal opening lines rolled))) now (seen e) → is_entered d.reply ≡ true
    → Follows (past_of (journal opening lines rolled)) (line number seat (seen e) now d.reply)
follows_there opening service moment lines rolled number seat raw now e d book numbered raised_ decided entered = search (rules, stage_count, same_opening)

pub book_step : (opening : Opening) (service after : Parts) (moment : ℕ) (lines : List EntryData) (rolled : Rolled) (number seat raw now : ℕ) (e : Event) (d : Decision)
    → IsBook opening service moment lines rolled → number ≡ opening.line + length lines → now ≡ max raw moment → d ≡ decision (situation_of (past_of (journal opening lines rolled))) now (seen e) → is_entered d.reply ≡ true → now < 2 ^ 64 → seat < 2 ^ 32
    → IsEvent IsSafeProgram (seen e) → StandsFor after (length lines - rolled.lines + 1) (situation_after (situation_of (past_of (journal opening lines rolled))) (line number seat (seen e) now d.reply) d.next)
    → after.refused ≡ refused_after (past_of (journal opening lines rolled)).standing d.next service.refused (is_refused_call d.reply)
    → IsBook opening after now (lines ++ line number seat (seen e) now d.reply ∷ []) rolled
book_step opening service after moment lines rolled number seat raw now e d book numbered raised_ decided entered word bits safe_ stands_ refused_ =
    let past : Past = past_of (journal opening lines rolled) in
    let l : EntryData = line number seat (seen e) now d.reply in
    let follows = follows_there opening service moment lines rolled number seat raw now e d book numbered raised_ decided entered in
    let next : d.next ≡ (machine past now (seen e)).next = ap (λ (x : Decision). x.next) decided in
    let with_ = past_with opening lines rolled l in
    let near = decision_near (situation_of past) now (seen e) in
    let stage : Stage = record { line = l; before = past.standing; after = (machine past now (seen e)).next } in
    let held_there : past.rolled.lines ≤ length past.stages = omega (arith, book.there, stage_count opening lines rolled, same_lines opening lines rolled) in
    let there : situation_after (situation_of past) l d.next ≡ situation_of (past_of (journal opening (lines ++ l ∷ []) rolled)) =
    ap (λ (n : Standing). situation_after (situation_of past) l n) next ∙ sym (situated_step past l book.sound held_there follows) ∙ ap situation_of (sym with_) in
    record {
      legal = legal_step opening lines rolled l book.legal follows;
      sound = subst (λ (p : Past). IsSound IsSafeProgram p) (sym with_) (sound_step IsSafeProgram themselves past l book.sound follows (record { word = word; seat = bits; event = safe_ }));
      there = omega (arith, book.there, length-append lines (l ∷ []));
      room = subst (λ (p : Past). LeavesRoom p) (sym with_) (room_step past l book.sound held_there follows book.room);
      situated = subst (λ (n : ℕ). StandsFor after n (situation_of (past_of (journal opening (lines ++ l ∷ []) rolled)))) (omega (arith, book.there, length-append lines (l ∷ []))) (subst (λ (s : Situation). StandsFor after (length lines - rolled.lines + 1) s) there stands_);
      refused_calls = refused_ ∙ ap (λ (n : Standing). refused_after past.standing n service.refused (is_refused_call d.reply)) next ∙ ap (λ (n : ℕ). refused_after past.standing (machine past now (seen e)).next n (is_refused_call d.reply)) book.refused_calls ∙ sym (refused_step past.stages stage book.sound.periods near.least) ∙ ap refused_of (sym with_);
      greatest_moment = sym (greatest_step past.opening.moment past.stages stage follows.raises) ∙ ap greatest (sym with_);
    }

-- parts that stand for the same are those of the same book
pub book_kept : (opening : Opening) (service after : Parts) (moment : ℕ) (lines : List EntryData) (rolled : Rolled) → IsBook opening service moment lines rolled
    → ((held : ℕ) (s : Situation) → StandsFor service held s → StandsFor after held s) → after.refused ≡ service.refused → IsBook opening after moment lines rolled
book_kept opening service after moment lines rolled book stands_ refused_ = search rules

-- what a plan changes
pub plan_effects : (opening : Opening) (service : Parts) (moment : ℕ) (lines : List EntryData) (rolled : Rolled) (now : ℕ) (e : EventData) (plan : Plan) → IsBook opening service moment lines rolled
    → plan ≡ planned service.config now e (decision (situation_of (past_of (journal opening lines rolled))) now e) → plan.effects ≡ effects_of (situation_of (past_of (journal opening lines rolled))).config now e plan.decision
plan_effects opening service moment lines rolled now e plan book planned_ = search rules

pub plan_installs : (opening : Opening) (service : Parts) (moment : ℕ) (lines : List EntryData) (rolled : Rolled) (now : ℕ) (e : EventData) (plan : Plan) → IsBook opening service moment lines rolled
    → plan ≡ planned service.config now e (decision (situation_of (past_of (journal opening lines rolled))) now e) → plan.effects.installs ≡ is_some (install_by e plan.decision.reply)
plan_installs opening service moment lines rolled now e plan book planned_ = ap (λ (x : Effects). x.installs) (plan_effects opening service moment lines rolled now e plan book planned_)

plan_changes : (opening : Opening) (service : Parts) (moment : ℕ) (lines : List EntryData) (rolled : Rolled) (raw now : ℕ) (e : EventData) (plan : Plan) → IsBook opening service moment lines rolled → now ≡ max raw moment
    → plan ≡ planned service.config now e (decision (situation_of (past_of (journal opening lines rolled))) now e) → AreEffects (situation_of (past_of (journal opening lines rolled))) plan.decision.next plan.effects
plan_changes opening service moment lines rolled raw now e plan book raised_ planned_ =
    let past : Past = past_of (journal opening lines rolled) in
    let s : Situation = situation_of past in
    let decided = decided_so service.config now e (decision s now e) plan planned_ in
    let there = effects_there past now e book.sound (omega (arith, raised_, book.greatest_moment, le-max_right raw moment)) in
    subst (λ (x : Effects). AreEffects s plan.decision.next x) (sym (plan_effects opening service moment lines rolled now e plan book planned_))
    (subst (λ (d : Decision). AreEffects s d.next (effects_of s.config now e d)) (sym decided) there)

-- a book can go on as planned
pub can_follow : (opening : Opening) (service : Parts) (moment : ℕ) (lines : List EntryData) (rolled : Rolled) (raw now : ℕ) (e : EventData) (plan : Plan) → IsBook opening service moment lines rolled → now ≡ max raw moment
    → plan ≡ planned service.config now e (decision (situation_of (past_of (journal opening lines rolled))) now e) → CanFollow service plan.decision.next plan.effects (install_by e plan.decision.reply)
can_follow opening service moment lines rolled raw now e plan book raised_ planned_ =
    let past : Past = past_of (journal opening lines rolled) in
    let decided = decided_so service.config now e (decision (situation_of past) now e) plan planned_ in
    record {
      held = length lines - rolled.lines;
      situation = situation_of past;
      stands = book.situated;
      orderly = orderly_there opening service moment lines rolled book;
      changes = plan_changes opening service moment lines rolled raw now e plan book raised_ planned_;
      few = λ program h. few_there past now e program book.sound (ap (λ (d : Decision). install_by e d.reply) (sym decided) ∙ h);
    }

-- the parts after a plan are those of the book with its line
pub taken_there : (start : Start) (service after : Parts) (moment : ℕ) (lines entries : List EntryData) (rolled : Rolled) (number seat raw now : ℕ) (e : Event) (plan : Plan)
    → IsBook (opening_of service.config start) service moment lines rolled → number ≡ start.line + length lines → now ≡ max raw moment
    → plan ≡ planned service.config now (seen e) (decision (situation_of (past_of (journal (opening_of service.config start) lines rolled))) now (seen e)) → is_entered plan.decision.reply ≡ true → now < 2 ^ 64 → seat < 2 ^ 32 → IsEvent IsSafeProgram (seen e)
    → ((held : ℕ) (s : Situation) → StandsFor service held s → IsOrderly s → AreEffects s plan.decision.next plan.effects → StandsFor after (held + 1) (followed s plan.decision.next plan.effects (install_by (seen e) plan.decision.reply)))
    → ((held : ℕ) (s : Situation) → StandsFor service held s → after.refused ≡ refused_after s.standing plan.decision.next service.refused plan.effects.refuses_call)
    → after.config ≡ service.config → entries ≡ lines ++ line number seat (seen e) now plan.decision.reply ∷ []
    → IsBook (opening_of after.config start) after now entries rolled
taken_there start service after moment lines entries rolled number seat raw now e plan book numbered raised_ planned_ entered word bits safe_ stands_ refused_ same all =
    let opening : Opening = opening_of service.config start in
    let s : Situation = situation_of (past_of (journal opening lines rolled)) in
    let d : Decision = plan.decision in
    let decided = decided_so service.config now (seen e) (decision s now (seen e)) plan planned_ in
    let effects = plan_effects opening service moment lines rolled now (seen e) plan book planned_ in
    let there : StandsFor after (length lines - rolled.lines + 1) (followed s d.next plan.effects (install_by (seen e) d.reply)) =
    stands_ (length lines - rolled.lines) s book.situated (orderly_there opening service moment lines rolled book) (plan_changes opening service moment lines rolled raw now (seen e) plan book raised_ planned_) in
    let refuses_ : plan.effects.refuses_call ≡ is_refused_call d.reply = ap (λ (x : Effects). x.refuses_call) effects in
    let step = book_step opening service after moment lines rolled number seat raw now e d book numbered raised_ decided entered word bits safe_
    (subst (λ (x : Effects). StandsFor after (length lines - rolled.lines + 1) (followed s d.next x (install_by (seen e) d.reply))) effects there)
    (refused_ (length lines - rolled.lines) s book.situated ∙ ap (refused_after s.standing d.next service.refused) refuses_) in
    subst (λ (ls : List EntryData). IsBook (opening_of after.config start) after now ls rolled) (sym all)
    (subst (λ (parts : ConfigParts). IsBook (opening_of parts start) after now (lines ++ line number seat (seen e) now d.reply ∷ []) rolled) (sym same) step)

pub kept_there : (start : Start) (service after : Parts) (moment : ℕ) (lines entries : List EntryData) (rolled : Rolled) → IsBook (opening_of service.config start) service moment lines rolled
    → ((held : ℕ) (s : Situation) → StandsFor service held s → StandsFor after held s) → after.refused ≡ service.refused → after.config ≡ service.config → entries ≡ lines → IsBook (opening_of after.config start) after moment entries rolled
kept_there start service after moment lines entries rolled book stands_ refused_ same all =
    subst (λ (ls : List EntryData). IsBook (opening_of after.config start) after moment ls rolled) (sym all)
    (subst (λ (parts : ConfigParts). IsBook (opening_of parts start) after moment lines rolled) (sym same) (book_kept (opening_of service.config start) service after moment lines rolled book stands_ refused_))

-- the first version that a book holds says how many programs were dropped
pub rolled_is : (config : ConfigParts) (start : Start) (service : Parts) (moment : ℕ) (lines : List EntryData) (rolled : Rolled) → IsBook (opening_of config start) service moment lines rolled → rolled ≡ rolled_of rolled.lines service start
rolled_is config start service moment lines rolled book =
    let opening : Opening = opening_of config start in
    let s : Situation = situation_of (past_of (journal opening lines rolled)) in
    let told = dropped_told service.registry s start.version book.situated.registered (ap (λ (o : Opening). o.version) (same_opening opening lines rolled)) in
    let programs : service.registry.first_version - start.version ≡ rolled.programs = told ∙ ap (λ (r : Rolled). r.programs) (same_rolled opening lines rolled) in
    ap (λ (n : ℕ). record { lines = rolled.lines; programs = n }) (sym programs)

pub book_told : (config : ConfigParts) (start : Start) (service : Parts) (moment : ℕ) (lines : List EntryData) (rolled : Rolled) → IsBook (opening_of config start) service moment lines rolled
    → IsBook (opening_of config start) service moment lines (rolled_of rolled.lines service start)
book_told config start service moment lines rolled book = subst (λ (r : Rolled). IsBook (opening_of config start) service moment lines r) (rolled_is config start service moment lines rolled book) book

chosen_true : {A : Type 0} (b : Bool) (x y : A) → b ≡ true → (if b then x else y) ≡ x
chosen_true b x y e = search rules

-- the history after is the documented one
pub applied_there : (opening : Opening) (service : Parts) (moment : ℕ) (lines : List EntryData) (rolled : Rolled) (number seat raw now : ℕ) (e : Event) (d : Decision)
    → IsBook opening service moment lines rolled → number ≡ opening.line + length lines → now ≡ max raw moment → d ≡ decision (situation_of (past_of (journal opening lines rolled))) now (seen e) → is_entered d.reply ≡ true
    → IsApplied (journal opening lines rolled) seat raw (seen e) d.reply (journal opening (lines ++ line number seat (seen e) now d.reply ∷ []) rolled)
applied_there opening service moment lines rolled number seat raw now e d book numbered raised_ decided entered =
    let past : Past = past_of (journal opening lines rolled) in
    let when : now ≡ raised past raw = raised_ ∙ ap (λ (m : ℕ). max raw m) book.greatest_moment in
    let same : d ≡ answer (journal opening lines rolled) raw (seen e) = decided ∙ ap (λ (m : ℕ). machine past m (seen e)) when in
    let replied : d.reply ≡ (answer (journal opening lines rolled) raw (seen e)).reply = ap (λ (x : Decision). x.reply) same in
    let counted : number ≡ next_line past = (follows_there opening service moment lines rolled number seat raw now e d book numbered raised_ decided entered).numbered in
    let written : line number seat (seen e) now d.reply ≡ line_of (journal opening lines rolled) seat raw (seen e) = rw (counted, when, replied) refl in
    let enters : is_entered (answer (journal opening lines rolled) raw (seen e)).reply ≡ true = ap is_entered (sym replied) ∙ entered in
    as_documented replied
    (ap (λ (l : EntryData). journal opening (lines ++ l ∷ []) rolled) written
    ∙ sym (chosen_true (is_entered (answer (journal opening lines rolled) raw (seen e)).reply) (with_line (journal opening lines rolled) (line_of (journal opening lines rolled) seat raw (seen e))) (journal opening lines rolled) enters))

-- a reply that isn't entered leaves the history
pub unentered_there : (opening : Opening) (service : Parts) (moment : ℕ) (lines : List EntryData) (rolled : Rolled) (seat raw now : ℕ) (e : EventData) (d : Decision) → IsBook opening service moment lines rolled → now ≡ max raw moment
    → d ≡ decision (situation_of (past_of (journal opening lines rolled))) now e → is_entered d.reply ≡ false → IsApplied (journal opening lines rolled) seat raw e d.reply (journal opening lines rolled)
unentered_there opening service moment lines rolled seat raw now e d book raised_ decided none = search rules

-- without memory the history stays, where a line would have come
pub lacking_there : (opening : Opening) (service : Parts) (moment : ℕ) (lines : List EntryData) (rolled : Rolled) (seat raw now : ℕ) (e : EventData) (d : Decision) → IsBook opening service moment lines rolled → now ≡ max raw moment
    → d ≡ decision (situation_of (past_of (journal opening lines rolled))) now e → is_entered d.reply ≡ true → IsApplied (journal opening lines rolled) seat raw e (reply.Refused refusal.ServiceOutOfMemory) (journal opening lines rolled)
lacking_there opening service moment lines rolled seat raw now e d book raised_ decided entered = search rules

-- ---- numbers that fit

pub line_fits : (opening : Opening) (service : Parts) (moment : ℕ) (lines : List EntryData) (rolled : Rolled) → IsBook opening service moment lines rolled → opening.line + length lines < 2 ^ 64
line_fits opening service moment lines rolled book = search (rules, stage_count, same_opening)

pub refused_fits : (opening : Opening) (service : Parts) (moment : ℕ) (lines : List EntryData) (rolled : Rolled) → IsBook opening service moment lines rolled → service.refused + 1 < 2 ^ 64
refused_fits opening service moment lines rolled book = search (rules, length_filter_le)

pub held_fits : (opening : Opening) (service : Parts) (moment : ℕ) (lines : List EntryData) (rolled : Rolled) → IsBook opening service moment lines rolled → length lines - rolled.lines ≤ most_entries
held_fits opening service moment lines rolled book = omega (arith, stage_count opening lines rolled, same_lines opening lines rolled, book.sound.used)

pub word_there : (opening : Opening) (service : Parts) (moment : ℕ) (lines : List EntryData) (rolled : Rolled) (raw now : ℕ) → IsBook opening service moment lines rolled → raw < 2 ^ 64 → now ≡ max raw moment → now < 2 ^ 64
word_there opening service moment lines rolled raw now book word is = search rules
