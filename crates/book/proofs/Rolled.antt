-- How many lines were handed out decides whether the journal is full, how many programs were dropped decides whether the list of versions is full, and neither decides anything else.
use Rattle.std.proofs.lemmas.Grind.{common_steps}
use Rattle.std.proofs.Common.{◌≡◌, ℕ, ◌-◌, ◌≤◌, ◌⊎◌, Bool, true, if◌then◌else◌, List, [], ◌∷◌, length, arith, refl, ap, sym, ◌∙◌, subst, rules}
use Rattle.std.specs.List.{fold}
use Rattle.refusals.specs.declared.RefusalNumber.TheVariants as refusal
use Rattle.service_profile.specs.declared.decisions.Decision.{Decision}
use Rattle.service_profile.specs.declared.replies.Reply.{Reply}
use Rattle.service_profile.specs.declared.replies.Reply.TheVariants as reply
use Rattle.service_profile.specs.declared.states.State.TheVariants as state
use Rattle.service_profile.specs.Events.{EventData, EntryData, Rolled, History, rolled_to}
use Rattle.service_profile.specs.Answers.{answer, taken_up_to}
use Rattle.service_profile.specs.Histories.{Past, situation_of, machine, opened, passed, past_of, Follows, AreLegal, IsLegal}
use Rattle.service_profile.specs.Machine.{Situation, refused, in_state, decided, decision, is_full, is_entered, meant, decision_by}
use Rattle.book.specs.Rolling.{IsFurther, with_rolled, endless_answer}

-- ---- one decision

abbrev pub holding : ℕ → Situation → Situation
holding n s = record s { held = n }

decided_holding : (test : Bool) (n : ℕ) (s : Situation) (moment : ℕ) (event : EventData)
    → decided meant (if test then in_state state.Open moment (holding n s) else holding n s) moment event ≡ decided meant (if test then in_state state.Open moment s else s) moment event
decided_holding test n s moment event = search rules

full_holding : (n : ℕ) (s : Situation) (event : EventData) → n ≤ s.held → is_full (holding n s) event ≡ true → is_full s event ≡ true
full_holding n s event le e = search rules

-- with fewer lines held the decision is the same, unless the journal was full
pub decision_holding : (n : ℕ) (s : Situation) (moment : ℕ) (event : EventData) → n ≤ s.held
    → (decision s moment event ≡ refused s.standing refusal.JournalFull) ⊎ (decision (holding n s) moment event ≡ decision s moment event)
unfolding decision_by
decision_holding n s moment event le = search (rules, full_holding, decided_holding)

-- ---- programs that were dropped

abbrev pub dropping : ℕ → Situation → Situation
dropping n s = record s { dropped = n }

abbrev SaysFull : Decision → Type 0
SaysFull d = d.reply ≡ reply.Refused refusal.VersionsFull

decided_dropping : (test : Bool) (n : ℕ) (s : Situation) (moment : ℕ) (event : EventData) → s.dropped ≤ n
    → SaysFull (decided meant (if test then in_state state.Open moment s else s) moment event)
    ⊎ (decided meant (if test then in_state state.Open moment (dropping n s) else dropping n s) moment event ≡ decided meant (if test then in_state state.Open moment s else s) moment event)
decided_dropping test n s moment event le = grind (arith, common_steps)

-- with more programs dropped the decision is the same, unless the list of versions was full
pub decision_dropping : (n : ℕ) (s : Situation) (moment : ℕ) (event : EventData) → s.dropped ≤ n
    → SaysFull (decision s moment event) ⊎ (decision (dropping n s) moment event ≡ decision s moment event)
unfolding decision_by
decision_dropping n s moment event le = grind (arith, common_steps, decided_dropping)

-- ---- both

-- a reply that says that the journal or the list of versions is full
pub data SaysNoRoom (d : Decision) : Type 0 where
  journal_full : d.reply ≡ reply.Refused refusal.JournalFull → SaysNoRoom d
  versions_full : d.reply ≡ reply.Refused refusal.VersionsFull → SaysNoRoom d

both_ways : (d e f refusing : Decision) → refusing.reply ≡ reply.Refused refusal.JournalFull → (d ≡ refusing) ⊎ (e ≡ d) → SaysFull e ⊎ (f ≡ e) → SaysNoRoom d ⊎ (f ≡ d)
both_ways d e f refusing says a more = search rules

-- with more taken out the machine answers the same, unless there was no room
pub machine_further : (past : Past) (rolled : Rolled) (moment : ℕ) (event : EventData) → IsFurther past.rolled rolled → SaysNoRoom (machine past moment event) ⊎ (machine (with_rolled rolled past) moment event ≡ machine past moment event)
machine_further past rolled moment event further =
    let s : Situation = situation_of past in
    let count : ℕ = length past.stages - rolled.lines in
    both_ways (decision s moment event) (decision (holding count s) moment event) (decision (dropping rolled.programs (holding count s)) moment event) (refused s.standing refusal.JournalFull) refl
    (decision_holding count s moment event (omega (arith, further.lines))) (decision_dropping rolled.programs (holding count s) moment event further.programs)

turned : (d e refusing : Decision) → (d ≡ refusing) ⊎ (e ≡ d) → (d ≡ refusing) ⊎ (d ≡ e)
turned d e refusing a = search rules

pub endless : (history : History) (moment : ℕ) (event : EventData)
    → (answer history moment event ≡ refused (past_of history).standing refusal.JournalFull) ⊎ (answer history moment event ≡ endless_answer history moment event)
endless history moment event = search (rules, turned, decision_holding)

where_entered : (d e : Decision) → SaysNoRoom d ⊎ (e ≡ d) → is_entered d.reply ≡ true → e ≡ d
where_entered d e a h = search rules

pub machine_rolled : (past : Past) (rolled : Rolled) (moment : ℕ) (event : EventData) → IsFurther past.rolled rolled → is_entered (machine past moment event).reply ≡ true → machine (with_rolled rolled past) moment event ≡ machine past moment event
machine_rolled past rolled moment event further entered = where_entered (machine past moment event) (machine (with_rolled rolled past) moment event) (machine_further past rolled moment event further) entered

-- ---- a history

passed_rolled : (past : Past) (rolled : Rolled) (line : EntryData) → machine (with_rolled rolled past) line.moment line.event ≡ machine past line.moment line.event → passed (with_rolled rolled past) line ≡ with_rolled rolled (passed past line)
passed_rolled past rolled line same = rw same refl

pub legal_rolled : (past : Past) (rolled : Rolled) (lines : List EntryData) → IsFurther past.rolled rolled → AreLegal past lines
    → AreLegal (with_rolled rolled past) lines × (fold passed (with_rolled rolled past) lines ≡ with_rolled rolled (fold passed past lines))
legal_rolled past rolled [] further legal = (tt, refl)
legal_rolled past rolled (line ∷ lines) further legal =
    let follows = legal.0 in
    let entered = subst (λ (r : Reply). is_entered r ≡ true) follows.replied follows.entered in
    let same = machine_rolled past rolled line.moment line.event further entered in
    let step = passed_rolled past rolled line same in
    let rest = legal_rolled (passed past line) rolled lines further legal.1 in
    let here : Follows (with_rolled rolled past) line = record { numbered = follows.numbered; raises = follows.raises; replied = follows.replied ∙ ap (λ (d : Decision). d.reply) (sym same); entered = follows.entered } in
    ((here, subst (λ (p : Past). AreLegal p lines) (sym step) rest.0), ap (λ (p : Past). fold passed p lines) step ∙ rest.1)

pub rolled_legal : (history : History) (rolled : Rolled) → IsLegal history → IsFurther history.rolled rolled → IsLegal (rolled_to rolled history) × (past_of (rolled_to rolled history) ≡ with_rolled rolled (past_of history))
unfolding IsLegal
rolled_legal history rolled legal further = legal_rolled (opened history.rolled history.opening) rolled history.lines further legal

-- ---- a roll takes out as much as before, or more

kept_in : (past : Past) (lines : List EntryData) → (fold passed past lines).rolled ≡ past.rolled
kept_in past [] = refl
kept_in past (line ∷ lines) = kept_in (passed past line) lines

pub roll_goes_further : (history : History) (last : ℕ) → IsFurther history.rolled (taken_up_to history last)
roll_goes_further history last = search (rules, kept_in)
