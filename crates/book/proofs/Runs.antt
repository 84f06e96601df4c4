-- What is told with rolls among all that is asked, and without them.
use Rattle.std.proofs.Common.{◌≡◌, sym, ℕ, ◌-◌, ◌⊎◌, max, Bool, true, false, if◌then◌else◌, List, [], ◌∷◌, take, drop, Ok, Err, arith, refl, ap, ◌∙◌, subst, rules}
use Rattle.refusals.specs.declared.RefusalNumber.TheVariants as refusal
use Rattle.service_profile.specs.declared.decisions.Decision.{Decision}
use Rattle.service_profile.specs.declared.replies.Reply.TheVariants as reply
use Rattle.service_profile.specs.Answers.{answer, line_of, with_line, applied, looked, reading, is_worn_out, taken_up_to, lines_up_to, after_roll}
use Rattle.service_profile.specs.Events.{EventData, Rolled, History, rolled_to}
use Rattle.service_profile.specs.Histories.{Past, past_of, situation_of, machine, raised, IsLegal}
use Rattle.service_profile.specs.Machine.{is_entered}
use Rattle.book.specs.Rolling.{Ask, gives, looks, reads, pages, rolls_up_to, Told, replied, found, shown, paged, told, after_ask, history_after, heard, without_rolls, NeverFull, PagesAreHeld, IsFurther, with_rolled}
use Rattle.book.proofs.Applying.{legal_step, same_rolled}
use Rattle.book.proofs.Rolled.{SaysNoRoom, machine_further, rolled_legal, roll_goes_further}

-- ---- one event

line_legal : (history : History) (seat moment : ℕ) (event : EventData) → IsLegal history → is_entered (answer history moment event).reply ≡ true → IsLegal (with_line history (line_of history seat moment event))
line_legal history seat moment event legal entered = search (rules, legal_step)

applied_by : (entered : Bool) (history : History) (seat moment : ℕ) (event : EventData) → is_entered (answer history moment event).reply ≡ entered → IsLegal history
    → IsLegal (if entered then with_line history (line_of history seat moment event) else history)
applied_by entered history seat moment event e legal = search (rules, line_legal)

applied_legal : (history : History) (seat moment : ℕ) (event : EventData) → IsLegal history → IsLegal (applied history seat moment event)
applied_legal history seat moment event legal = applied_by (is_entered (answer history moment event).reply) history seat moment event refl legal

full_or_same : (d e : Decision) → SaysNoRoom d ⊎ (e ≡ d) → (d.reply ≡ reply.Refused refusal.JournalFull → ⊥) → (d.reply ≡ reply.Refused refusal.VersionsFull → ⊥) → e ≡ d
full_or_same d e a h g = search rules

past_rolled : (history : History) (rolled : Rolled) → IsLegal history → IsFurther history.rolled rolled → past_of (rolled_to rolled history) ≡ with_rolled rolled (past_of history)
past_rolled history rolled legal le = (rolled_legal history rolled legal le).1

same_answer : (history : History) (rolled : Rolled) (moment : ℕ) (event : EventData) → IsLegal history → IsFurther history.rolled rolled → ((answer history moment event).reply ≡ reply.Refused refusal.JournalFull → ⊥) → ((answer history moment event).reply ≡ reply.Refused refusal.VersionsFull → ⊥) → answer (rolled_to rolled history) moment event ≡ answer history moment event
same_answer history rolled moment event legal le roomy versioned =
    let past : Past = past_of history in
    let further : IsFurther past.rolled rolled = subst (λ (r : Rolled). IsFurther r rolled) (sym (same_rolled history.opening history.lines history.rolled)) le in
    ap (λ (p : Past). machine p (raised p moment) event) (past_rolled history rolled legal le)
    ∙ full_or_same (answer history moment event) (machine (with_rolled rolled past) (raised past moment) event) (machine_further past rolled (raised past moment) event further) roomy versioned

same_applied : (history : History) (rolled : Rolled) (seat moment : ℕ) (event : EventData) → IsLegal history → IsFurther history.rolled rolled → answer (rolled_to rolled history) moment event ≡ answer history moment event
    → applied (rolled_to rolled history) seat moment event ≡ rolled_to rolled (applied history seat moment event)
same_applied history rolled seat moment event legal le same = search (rules, past_rolled)

kept_rolled : (test : Bool) (a b : History) → a.rolled ≡ b.rolled → (if test then a else b).rolled ≡ b.rolled
kept_rolled test a b e = search rules

pub applied_keeps : (history : History) (seat moment : ℕ) (event : EventData) → (applied history seat moment event).rolled ≡ history.rolled
applied_keeps history seat moment event = kept_rolled (is_entered (answer history moment event).reply) (with_line history (line_of history seat moment event)) history refl

-- ---- a roll

-- a history after a roll is this one with as much taken out, or more
pub record IsRolledFurther (history : History) (rolled : Rolled) (then_ : History) : Type 0 where
  pub more : Rolled
  pub le : IsFurther rolled more
  pub is : then_ ≡ rolled_to more history

further_by : (worn : Bool) (history : History) (rolled : Rolled) (last : ℕ) → IsRolledFurther history rolled (after_roll (rolled_to rolled history) last (if worn then Err refusal.JournalFull else Ok (lines_up_to (rolled_to rolled history) last)))
further_by true history rolled last = record { more = rolled; le = record { lines = omega arith; programs = omega arith }; is = refl }
further_by false history rolled last = record { more = taken_up_to (rolled_to rolled history) last; le = roll_goes_further (rolled_to rolled history) last; is = refl }

further : (history : History) (rolled : Rolled) (last : ℕ) → IsRolledFurther history rolled (after_ask (rolled_to rolled history) (rolls_up_to last))
further history rolled last = further_by (is_worn_out (past_of (rolled_to rolled history))) history rolled last

-- ---- runs

abbrev Same : History → Rolled → List Ask → Type 0
Same history rolled rest = (heard (rolled_to rolled history) rest ≡ heard history (without_rolls rest)) × ((history_after (rolled_to rolled history) rest).lines ≡ (history_after history (without_rolls rest)).lines)

told_same : (history : History) (rolled : Rolled) (a b : Told) (rest : List Ask) → a ≡ b → Same history rolled rest → (a ∷ heard (rolled_to rolled history) rest) ≡ (b ∷ heard history (without_rolls rest))
told_same history rolled a b rest e same = ap (λ (t : Told). t ∷ heard (rolled_to rolled history) rest) e ∙ ap (λ (ts : List Told). b ∷ ts) same.0

pub runs_same : (history : History) (rolled : Rolled) (rest : List Ask) → IsLegal history → IsFurther history.rolled rolled → NeverFull history (without_rolls rest) → PagesAreHeld (rolled_to rolled history) rest → Same history rolled rest
runs_same history rolled [] legal le roomy held = (refl, refl)
runs_same history rolled (gives seat moment event ∷ rest) legal le roomy held =
    let same = same_answer history rolled moment event legal le (λ e. roomy.0 (ap replied e)) (λ e. roomy.1.0 (ap replied e)) in
    let next : History = applied history seat moment event in
    let there = same_applied history rolled seat moment event legal le same in
    let after_ = runs_same next rolled rest (applied_legal history seat moment event legal) (subst (λ (r : Rolled). IsFurther r rolled) (sym (applied_keeps history seat moment event)) le) roomy.1.1 (subst (λ (h : History). PagesAreHeld h rest) there held) in (
      ap (λ (h : History). told (rolled_to rolled history) (gives seat moment event) ∷ heard h rest) there
          ∙ told_same next rolled (replied (answer (rolled_to rolled history) moment event).reply) (replied (answer history moment event).reply) rest (ap (λ (d : Decision). replied d.reply) same) after_,
      ap (λ (h : History). (history_after h rest).lines) there ∙ after_.1,
    )
runs_same history rolled (looks ticket ∷ rest) legal le roomy held =
    let after_ = runs_same history rolled rest legal le roomy.1.1 held in
    (told_same history rolled (told (rolled_to rolled history) (looks ticket)) (told history (looks ticket)) rest (ap (λ (p : Past). found (looked (situation_of p) ticket)) (past_rolled history rolled legal le)) after_, after_.1)
runs_same history rolled (reads moment ∷ rest) legal le roomy held =
    let after_ = runs_same history rolled rest legal le roomy.1.1 held in
    (told_same history rolled (told (rolled_to rolled history) (reads moment)) (told history (reads moment)) rest (ap (λ (p : Past). shown (reading p moment)) (past_rolled history rolled legal le)) after_, after_.1)
runs_same history rolled (pages from ∷ rest) legal le roomy held =
    let after_ = runs_same history rolled rest legal le roomy.1.1 held.1 in
    let first : max rolled.lines (from - history.opening.line) ≡ max history.rolled.lines (from - history.opening.line) = omega (arith, le.lines, held.0) in
    (told_same history rolled (told (rolled_to rolled history) (pages from)) (told history (pages from)) rest (ap (λ (n : ℕ). paged (take 100 (drop n history.lines))) first) after_, after_.1)
runs_same history rolled (rolls_up_to last ∷ rest) legal le roomy held =
    let far = further history rolled last in
    let after_ = runs_same history far.more rest legal (record { lines = omega (arith, le.lines, far.le.lines); programs = omega (arith, le.programs, far.le.programs) }) roomy (subst (λ (h : History). PagesAreHeld h rest) far.is held) in
    (ap (λ (h : History). heard h rest) far.is ∙ after_.0, ap (λ (h : History). (history_after h rest).lines) far.is ∙ after_.1)

pub invisible : (history : History) (rest : List Ask) → IsLegal history → NeverFull history (without_rolls rest) → PagesAreHeld history rest
    → (heard history rest ≡ heard history (without_rolls rest)) × ((history_after history rest).lines ≡ (history_after history (without_rolls rest)).lines)
invisible history rest legal roomy held = runs_same history history.rolled rest legal (record { lines = omega arith; programs = omega arith }) roomy held
