-- What a decision may change.
use Rattle.std.proofs.Common.{◌≡◌, ◌-◌, ℕ, ◌≤◌, ◌<◌, ◌==◌, max, List, [], ◌∷◌, map, length, Option, Some, None, arith, rules}
use Rattle.std.specs.List.{filter_map, cons_option, fold, AllByRecursion}
use Rattle.std.proofs.Math.Nat.{le-max_left, le-max_right}
use Rattle.bpf_profile.specs.Programs.{VerifiedProgram}
use Rattle.service_profile.specs.declared.configuration.ConfigParts.{ConfigParts}
use Rattle.service_profile.specs.declared.decisions.Decision.{Decision}
use Rattle.service_profile.specs.declared.notes.Note.{Note}
use Rattle.service_profile.specs.declared.replies.Reply.{Reply}
use Rattle.service_profile.specs.declared.tickets.OpenTicket.{OpenTicket}
use Rattle.service_profile.specs.Events.{EventData}
use Rattle.service_profile.specs.Histories.{Past, Stage, note_at, note_by, notes_of, taken_in, issue_by, end_by, install_by, greatest, machine, situation_of}
use Rattle.service_profile.specs.Limits.{most_versions}
use Rattle.service_profile.specs.Machine.{Situation}
use Rattle.windows.specs.Notes.{AreNotAfter}
use Rattle.book.specs.Accepted.{Accepting}
use Rattle.book.specs.Effects.{effects_of}
use Rattle.book.specs.Situations.{AreEffects, next_open}
use Rattle.book.specs.Sound.{IsSound}
use Rattle.book.proofs.Deciding.{Shape, decision_near, decision_shape}
use Rattle.book.proofs.Keeping.{open_are_issued}
use Rattle.book.proofs.Lists.{all_kept_by, all_weaken}

-- ---- a ticket that is issued

-- the next ticket is issued, where a place is free, and nothing else happens
pub record Issues (s : Situation) (moment : ℕ) (event : EventData) (d : Decision) (t : OpenTicket) : Type 0 where
  pub next : t ≡ next_open s d.next.period t.moment
  pub ends : end_by event d.reply ≡ None
  pub notes : note_by s.config moment event d.reply ≡ None
  pub free : length s.open_tickets < s.config.max_concurrent_calls

pub issues : (s : Situation) (moment : ℕ) (event : EventData) (d : Decision) (t : OpenTicket) → Shape s event d → issue_by d.reply d.next.period moment ≡ Some t → Issues s moment event d t
issues s moment event d t a h = search rules

-- ---- a program that gets a version

pub installs_few : (s : Situation) (event : EventData) (d : Decision) (program : VerifiedProgram) → Shape s event d → install_by event d.reply ≡ Some program → length s.programs - s.dropped < most_versions
installs_few s event d program a h = search rules

-- ---- notes

-- a note has the moment of its line
note_moment : (config : ConfigParts) (moment : ℕ) (event : EventData) (r : Reply) (n : Note) → note_by config moment event r ≡ Some n → n.moment ≡ moment
note_moment config moment event r n e = search rules

grows : (n z : ℕ) (xs : List ℕ) → n ≤ z → n ≤ fold max z xs
grows n z [] h = h
grows n z (x ∷ xs) h = grows n (max z x) xs (omega (arith, h, le-max_left z x))

-- no line comes after the greatest moment
pub lines_before : (first : ℕ) (stages : List Stage) → AllByRecursion (λ stage. stage.line.moment ≤ fold max first (map (λ s. s.line.moment) stages)) stages
lines_before first [] = tt
lines_before first (stage ∷ stages) =
    (grows stage.line.moment (max first stage.line.moment) (map (λ s. s.line.moment) stages) (le-max_right first stage.line.moment), lines_before (max first stage.line.moment) stages)

mapped_head : {B : Type 0} (Q : B → Type 0) (o : Option B) (rest : List B) → ((b : B) → o ≡ Some b → Q b) → AllByRecursion Q rest → AllByRecursion Q (cons_option o rest)
mapped_head Q o rest f h = search rules

pub all_mapped : {A B : Type 0} (P : A → Type 0) (Q : B → Type 0) (f : A → Option B) → ((a : A) (b : B) → P a → f a ≡ Some b → Q b) → (xs : List A) → AllByRecursion P xs → AllByRecursion Q (filter_map f xs)
all_mapped P Q f g [] h = tt
all_mapped P Q f g (x ∷ xs) h = mapped_head Q (f x) (filter_map f xs) (λ b e. g x b h.0 e) (all_mapped P Q f g xs h.1)

-- no note of the period comes after the greatest moment
pub notes_before : (past : Past) → AreNotAfter (greatest past) (notes_of past)
notes_before past =
    all_mapped (λ (stage : Stage). stage.line.moment ≤ greatest past) (λ (n : Note). n.moment ≤ greatest past) (note_at past.opening.config)
    (λ stage n h e. omega (arith, h, note_moment past.opening.config stage.line.moment stage.line.event stage.line.reply n e))
    (taken_in past.standing.period past.stages)
    (all_kept_by (λ (stage : Stage). stage.line.moment ≤ greatest past) (λ (stage : Stage). stage.before.period == past.standing.period) past.stages (lines_before past.opening.moment past.stages))

pub before_then : (first later : ℕ) (notes : List Note) → first ≤ later → AreNotAfter first notes → AreNotAfter later notes
before_then first later notes le h = all_weaken (λ (n : Note). n.moment ≤ first) (λ (n : Note). n.moment ≤ later) (λ (n : Note) less. omega (arith, le, less)) notes h

-- ---- the effects of a decision

pub effects_there : {accepts : Accepting} (past : Past) (now : ℕ) (event : EventData) → IsSound accepts past → greatest past ≤ now → AreEffects (situation_of past) (machine past now event).next (effects_of past.opening.config now event (machine past now event))
effects_there past now event sound le =
    let s : Situation = situation_of past in
    let d : Decision = machine past now event in
    let near = decision_near s now event in
    let shape = decision_shape s now event (open_are_issued past sound) in
    record {
      later = record { least = near.least; same = near.same };
      issue = λ t e. let is = issues s now event d t shape e in (is.next, is.ends, is.notes, is.free);
      note = λ n e. before_then (greatest past) n.moment (notes_of past) (omega (arith, le, note_moment past.opening.config now event d.reply n e)) (notes_before past);
    }

pub few_there : {accepts : Accepting} (past : Past) (now : ℕ) (event : EventData) (program : VerifiedProgram) → IsSound accepts past → install_by event (machine past now event).reply ≡ Some program → length (situation_of past).programs - (situation_of past).dropped < most_versions
few_there past now event program sound h = installs_few (situation_of past) event (machine past now event) program (decision_shape (situation_of past) now event (open_are_issued past sound)) h
