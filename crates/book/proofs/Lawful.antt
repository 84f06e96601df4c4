-- What every legal history keeps.
use Rattle.std.proofs.Common.{◌≡◌, ℕ, zero, suc, ◌+◌, ◌≤◌, ◌==◌, not, Bool, true, false, cond, List, [], ◌∷◌, length, slice_get, Option, Some, None, Ok, arith, refl, ap, sym, ◌∙◌, length-append, rules}
use Rattle.std.specs.List.{filter, fold, AllByRecursion}
use Rattle.bpf_profile.specs.declared.machine.Verdict.TheVariants as verdict
use Rattle.std.proofs.lemmas.Bool.Decides.{Decides-eqb}
use Rattle.service_profile.specs.declared.configuration.ConfigParts.{ConfigParts}
use Rattle.service_profile.specs.declared.decisions.Decision.{Decision}
use Rattle.service_profile.specs.declared.tickets.OpenTicket.{OpenTicket}
use Rattle.service_profile.specs.declared.replies.Fate.{Fate}
use Rattle.service_profile.specs.declared.replies.Fate.TheVariants as fate
use Rattle.service_profile.specs.declared.replies.Reply.{Reply}
use Rattle.service_profile.specs.declared.replies.Reply.TheVariants as reply
use Rattle.service_profile.specs.declared.states.State.{State}
use Rattle.service_profile.specs.Events.{EventData, finishes, EntryData, Opening, History}
use Rattle.service_profile.specs.Histories.{Stage, Past, programs_of, note_by, ended, issued, is_listed, open_of, opened, passed, past_of, next_line, situation_of, machine, Follows, AreLegal, IsLegal}
use Rattle.book.specs.Laws.{IsService, IsMeantNote, HasMeantNote}
use Rattle.service_profile.specs.Answers.{cut}
use Rattle.service_profile.specs.Machine.{is_open, note_of}
use Rattle.book.specs.Accepted.{Accepting, IsLine}
use Rattle.service_profile.specs.Openings.{IsOpening}
use Rattle.service_profile.specs.MeantVerdicts.{IsMeantLine}
use Rattle.book.specs.Sound.{IsSound}
use Rattle.service_profile.specs.declared.notes.Note.{Note}
use Rattle.book.proofs.Applying.{same_opening}
use Rattle.book.proofs.Deciding.{Shape}
use Rattle.book.proofs.Keeping.{shape_there, sound_step}
use Rattle.book.proofs.Openings.{sound_opened}
use Rattle.book.proofs.Lists.{all_weaken}
use Rattle.book.proofs.Accepting.{Safely}
use Rattle.book.proofs.Worlds.{cut_opening, cut_program}

sound_from : (accepts : Accepting) → Safely accepts → (past : Past) (lines : List EntryData) → IsSound accepts past → AreLegal past lines → AllByRecursion (IsLine accepts) lines → IsSound accepts (fold passed past lines)
sound_from accepts safely past [] sound legal good = sound
sound_from accepts safely past (l ∷ lines) sound legal good = sound_from accepts safely (passed past l) lines (sound_step accepts safely past l sound legal.0 good.0) legal.1 good.1

pub service_sound : (accepts : Accepting) → Safely accepts → (history : History) → IsService accepts history → IsSound accepts (past_of history)
unfolding IsLegal
service_sound accepts safely history service = sound_from accepts safely (opened history.rolled history.opening) history.lines (sound_opened accepts history.opening history.rolled service.opening service.program) service.legal service.lines

pub places_kept : (accepts : Accepting) → Safely accepts → (history : History) → IsService accepts history → length (open_of (past_of history).stages) ≤ history.opening.config.max_concurrent_calls
places_kept accepts safely history service = omega (arith, (service_sound accepts safely history service).places, ap (λ (o : Opening). o.config.max_concurrent_calls) (same_opening history.opening history.lines history.rolled))

-- ---- numbers

numbered_from : (past : Past) (lines : List EntryData) (place : ℕ) (l : EntryData) → AreLegal past lines → slice_get lines place ≡ Some l → l.number ≡ next_line past + place
numbered_from past [] place l legal e = let bad : ◌≡◌ {A = Option EntryData} None (Some l) = e in cc
numbered_from past (m ∷ lines) zero l legal e =
    let same : ◌≡◌ {A = Option EntryData} (Some m) (Some l) = e in let is : m ≡ l = cc in
    omega (arith, legal.0.numbered, ap (λ (x : EntryData). x.number) is)
numbered_from past (m ∷ lines) (suc place) l legal e =
    let rest = numbered_from (passed past m) lines place l legal.1 e in
    let count : length (passed past m).stages ≡ length past.stages + 1 = length-append past.stages (record { line = m; before = past.standing; after = (machine past m.moment m.event).next } ∷ []) in
    omega (arith, rest, count)

pub numbers_kept : (history : History) (place : ℕ) (l : EntryData) → IsLegal history → slice_get history.lines place ≡ Some l → l.number ≡ history.opening.line + place
unfolding IsLegal
numbers_kept history place l legal e = omega (arith, numbered_from (opened history.rolled history.opening) history.lines place l legal e)

-- ---- spent tickets

closed_head : (t : OpenTicket) (number : ℕ) (keep here rest : Bool) (others : List OpenTicket) → (t.number == number) ≡ here → (here ≡ true → keep ≡ false) → is_open others number ≡ false → is_open (cond keep (t ∷ others) others) number ≡ false
closed_head t number keep here rest others e h none = search rules

spent_closed : (numbers : List ℕ) (number : ℕ) (tickets : List OpenTicket) → is_listed numbers number ≡ true → is_open (filter (λ (t : OpenTicket). not (is_listed numbers t.number)) tickets) number ≡ false
spent_closed numbers number [] listed = refl
spent_closed numbers number (t ∷ tickets) listed =
    closed_head t number (not (is_listed numbers t.number)) (t.number == number) false (filter (λ (u : OpenTicket). not (is_listed numbers u.number)) tickets) refl
    (λ e. let same : t.number ≡ number = (Decides-eqb t.number number).0 e in ap not (ap (is_listed numbers) same ∙ listed))
    (spent_closed numbers number tickets listed)

pub spent_not_open : (stages : List Stage) (number : ℕ) → is_listed (ended stages) number ≡ true → is_open (open_of stages) number ≡ false
spent_not_open stages number listed = spent_closed (ended stages) number (issued stages) listed

-- ---- ignored verdicts

unnoted : (config : ConfigParts) (moment : ℕ) (event : EventData) (f : Fate) (steps version : ℕ) (st : State) → (f ≡ fate.Recorded → ⊥) → note_by config moment event (reply.Finished f verdict.Ignored steps version st) ≡ None
unnoted config moment event f steps version st h = search rules

ignored_fate : (past : Past) (event : EventData) (d : Decision) (f : Fate) (steps version : ℕ) (st : State) → Shape (situation_of past) event d → d.reply ≡ reply.Finished f verdict.Ignored steps version st → f ≡ fate.Recorded → ⊥
ignored_fate past event d f steps version st a r h = search rules

pub ignored_unnoted : (accepts : Accepting) → Safely accepts → (history : History) (l : EntryData) (f : Fate) (steps version : ℕ) (st : State) → IsService accepts history → Follows (past_of history) l → l.reply ≡ reply.Finished f verdict.Ignored steps version st
    → note_by history.opening.config l.moment l.event l.reply ≡ None
ignored_unnoted accepts safely history l f steps version st service follows r =
    let sound = service_sound accepts safely history service in
    let past : Past = past_of history in
    rw r (unnoted history.opening.config l.moment l.event f steps version st (ignored_fate past l.event (machine past l.moment l.event) f steps version st (shape_there past l sound) (sym follows.replied ∙ r)))

-- ---- notes

noted_by : (past : Past) (line : EntryData) (event : EventData) (r : Reply) (note : Note) → line.event ≡ event → line.reply ≡ r → note_by past.opening.config line.moment event r ≡ Some note
    → IsMeantLine past.opening.version (programs_of past) (issued past.stages) line → IsMeantNote past line note
noted_by past line (finishes work ticket) (reply.Finished fate.Recorded v steps version st) note e r n meant =
    let same : ◌≡◌ {A = Option Note} (Some (note_of past.opening.config line.moment v work.outcome)) (Some note) = n in
    let is : note_of past.opening.config line.moment v work.outcome ≡ note = cc in
    record {
      work = work;
      ticket = ticket;
      verdict = v;
      steps = steps;
      version = version;
      finished = e;
      meant = meant work ticket fate.Recorded v steps version st e r;
      noted = sym is;
    }
noted_by past line event r note e s n meant = no_note n
  where
    no_note : {A : Type 0} → ◌≡◌ {A = Option Note} None (Some note) → A
    no_note f = cc

pub notes_meant : (accepts : Accepting) → Safely accepts → (history : History) → IsService accepts history → AllByRecursion (HasMeantNote (past_of history)) (past_of history).stages
notes_meant accepts safely history service =
    let past : Past = past_of history in
    let sound = service_sound accepts safely history service in
    all_weaken (λ (stage : Stage). IsMeantLine past.opening.version (programs_of past) (issued past.stages) stage.line) (HasMeantNote past)
    (λ (stage : Stage) meant note n. noted_by past stage.line stage.line.event stage.line.reply note refl refl n meant) past.stages sound.verdicts

-- ---- cuts

-- a cut leaves a good opening, with an accepted program
pub cut_well : (accepts : Accepting) → Safely accepts → (history : History) (opening : Opening) → IsService accepts history → cut (past_of history) ≡ Ok opening → IsOpening opening × accepts opening.program
cut_well accepts safely history opening service e =
    let sound = service_sound accepts safely history service in
    (cut_opening (past_of history) opening sound e, cut_program accepts (past_of history) opening sound e)
