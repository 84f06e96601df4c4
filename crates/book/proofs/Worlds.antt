-- Whatever steps are taken, in any order, each answer is the documented machine's on the meaning's verdicts, and the history stays legal.
use Rattle.std.proofs.Common.{◌≡◌, bytes_eq, ℕ, ◌^◌, ◌≤◌, ◌<◌, ◌==◌, Bool, true, false, if◌then◌else◌, List, [], ◌∷◌, slice_get, Option, Some, None, Result, Ok, Err, arith, refl, ap, sym, ◌∙◌, subst, rules}
use Rattle.std.specs.List.{filter_map, AllByRecursion}
use Rattle.std.specs.Option.{ok_or}
use Rattle.std.proofs.Math.Nat.{le-max_right, max-le}
use Rattle.std.proofs.lemmas.Slice.Eq.{bytes_eq-Decides}
use Rattle.bpf_profile.specs.Limits.{record_size}
use Rattle.bpf_profile.specs.Outcomes.{Outcome, IsOutcome}
use Rattle.bpf_profile.specs.JudgedWork.{JudgedData}
use Rattle.refusals.specs.declared.RefusalNumber.{RefusalNumber}
use Rattle.refusals.specs.declared.RefusalNumber.TheVariants as refusal
use Rattle.bpf_profile.specs.Programs.{VerifiedProgram}
use Rattle.service_profile.specs.declared.decisions.Decision.{Decision}
use Rattle.service_profile.specs.declared.replies.Reply.{Reply}
use Rattle.service_profile.specs.declared.tickets.OpenTicket.{OpenTicket}
use Rattle.service_profile.specs.declared.states.State.TheVariants as state
use Rattle.service_profile.specs.Answers.{answer_by, with_line, line_of, IsAppliedBy, as_documented, out_of_memory, IsApplied, looked_under, IsLooked, looks, no_owner, last_of, current_program, is_worn_out, is_some_open, reopened, cut, after_cut, IsCut, cuts, no_room, roll, after_roll, taken_up_to, IsRolled, rolls}
use Rattle.service_profile.specs.Events.{EventData, finishes, EntryData, Opening, Rolled, nothing_rolled, History}
use Rattle.service_profile.specs.Histories.{Past, past_of, situation_of, programs_of, machine, raised, greatest, install_at, Follows, IsLegal}
use Rattle.service_profile.specs.Calls.{CallData, CallAnswer}
use Rattle.service_profile.specs.Calls as call
use Rattle.book.specs.Interleavings.{Hands, World, Step, calls, judge, finish, Given, answered, nothing, holding, with_answer, work_of, with_judged, IsAnswered, IsFinish, IsTaken, Act, IsCourse, begun, IsStep, AreSteps, AreHands, IsWorld}
use Rattle.service_profile.specs.Machine.{Situation, Judging, meant, carried, decision_by, refused, is_full, in_state, overstays, at_moment, is_issued, open_ticket, program_from, same_program, bytes_of, concluded, finished_by, finished_under, finished, is_entered}
use Rattle.book.specs.Accepted.{Accepting, IsSafeProgram, IsJudged, IsEvent}
use Rattle.service_profile.specs.Openings.{IsOpening}
use Rattle.book.specs.Sound.{IsSound}
use Rattle.book.specs.Rolling.{IsFurther, with_rolled}
use Rattle.bpf_profile.specs.Layouts.{number_of}
use Rattle.bpf_profile.proofs.Layouts.{fits_layout, same_layout}
use Rattle.book.proofs.Applying.{legal_step, past_with, same_rolled}
use Rattle.book.proofs.Rolled.{rolled_legal, roll_goes_further}
use Rattle.book.proofs.Judging.{slots_by_bytes, right_of_both, same_number, judgement_by_slots, judgement_judges, program_accepted}
use Rattle.book.proofs.Keeping.{sound_step}
use Rattle.book.proofs.Lists.{all_append, got}
use Rattle.book.proofs.Openings.{sound_opened, legal_opened}
use Rattle.book.proofs.Accepting.{Safely, programs_safe, event_safe, finish_accepted}

-- ---- verdicts: what judged work carries is what the meaning says

same_slots_there : (a b : VerifiedProgram) → IsSafeProgram a → IsSafeProgram b → same_program a b ≡ true → a.slots ≡ b.slots
same_slots_there a b p q e = search (rules, slots_by_bytes, bytes_eq-Decides)

same_layout_there : (a b : VerifiedProgram) → same_program a b ≡ true → a.layout ≡ b.layout
same_layout_there a b e = same_layout a.layout b.layout (same_number (number_of a.layout) (number_of b.layout) (right_of_both (bytes_eq (bytes_of a) (bytes_of b)) (number_of a.layout == number_of b.layout) e))

same_answer : (s : Situation) (moment : ℕ) (ticket : OpenTicket) (work : JudgedData) (program : VerifiedProgram) (same : Bool) → same_program work.program program ≡ same → IsJudged IsSafeProgram work → IsSafeProgram program
    → (if same then concluded s moment ticket work.outcome (carried program work) else refused s.standing refusal.Stranger)
    ≡ (if same then concluded s moment ticket work.outcome (meant program work) else refused s.standing refusal.Stranger)
same_answer s moment ticket work program true e judged_ accepted_ =
    let slots = same_slots_there work.program program judged_.program accepted_ e in
    let same = judgement_by_slots program work.program.slots work.program.layout work.outcome work.verdict work.steps slots (same_layout_there work.program program e) accepted_.safe judged_.outcome judged_.tied in
    ap (concluded s moment ticket work.outcome) (sym same)
same_answer s moment ticket work program false e judged_ accepted_ = refl

finished_by_same : (s : Situation) (moment : ℕ) (ticket : OpenTicket) (work : JudgedData) (program : Option VerifiedProgram) → ((p : VerifiedProgram) → program ≡ Some p → IsSafeProgram p) → IsJudged IsSafeProgram work
    → finished_by carried s moment ticket work program ≡ finished_by meant s moment ticket work program
finished_by_same s moment ticket work None all judged_ = refl
finished_by_same s moment ticket work (Some program) all judged_ = same_answer s moment ticket work program (same_program work.program program) refl judged_ (all program refl)

finished_under_same : (s : Situation) (moment : ℕ) (work : JudgedData) (ticket : Option OpenTicket) → AllByRecursion IsSafeProgram s.programs → IsJudged IsSafeProgram work → finished_under carried s moment work ticket ≡ finished_under meant s moment work ticket
finished_under_same s moment work None all judged_ = refl
finished_under_same s moment work (Some ticket) all judged_ =
    finished_by_same s moment ticket work (program_from s.first_version s.programs ticket.version) (λ p e. program_accepted IsSafeProgram s.first_version s.programs ticket.version p all e) judged_

finished_same : (s : Situation) (moment : ℕ) (work : JudgedData) (ticket : ℕ) → AllByRecursion IsSafeProgram s.programs → IsJudged IsSafeProgram work → finished carried s moment work ticket ≡ finished meant s moment work ticket
finished_same s moment work ticket all judged_ =
    ap (λ (d : Decision). if is_issued s ticket then d else refused s.standing refusal.NoTicket) (finished_under_same s moment work (open_ticket s.open_tickets ticket) all judged_)

at_moment_safe : (test : Bool) (s : Situation) (moment : ℕ) → AllByRecursion IsSafeProgram s.programs → AllByRecursion IsSafeProgram (if test then in_state state.Open moment s else s).programs
at_moment_safe test s moment all = search rules

decision_same : (s : Situation) (moment : ℕ) (event : EventData) → AllByRecursion IsSafeProgram s.programs → IsEvent IsSafeProgram event → decision_by carried s moment event ≡ decision_by meant s moment event
unfolding decision_by
decision_same s moment (finishes work ticket) all safe_ =
    ap (λ (d : Decision). if is_full s (finishes work ticket) then refused s.standing refusal.JournalFull else d)
    (finished_same (at_moment s moment) moment work ticket (at_moment_safe (overstays s moment) s moment all) (safe_.judged work ticket refl))
decision_same s moment event all safe_ = refl

-- on safe programs and judged work it decides as the documented machine does
abbrev pub DecidesAlike : Judging → Type 0
DecidesAlike judging = (s : Situation) (moment : ℕ) (event : EventData) → AllByRecursion IsSafeProgram s.programs → IsEvent IsSafeProgram event → decision_by judging s moment event ≡ decision_by meant s moment event

pub carried_alike : DecidesAlike carried
carried_alike = decision_same

pub meant_alike : DecidesAlike meant
meant_alike s moment event all safe_ = refl

-- ---- an event

applied_same : (one other : Judging) (history : History) (seat moment : ℕ) (event : EventData) (r : Reply) (after : History) → answer_by one history moment event ≡ answer_by other history moment event
    → IsAppliedBy one history seat moment event r after → IsAppliedBy other history seat moment event r after
applied_same one other history seat moment event r after same a = search rules

-- a legal and sound history
pub record IsKept (accepts : Accepting) (history : History) : Type 0 where
  pub legal : IsLegal history
  pub sound : IsSound accepts (past_of history)

entered_kept : (accepts : Accepting) → Safely accepts → (history : History) (seat moment : ℕ) (event : EventData) (entered : Bool) → is_entered (machine (past_of history) (raised (past_of history) moment) event).reply ≡ entered → IsKept accepts history → moment < 2 ^ 64 → seat < 2 ^ 32
    → IsEvent accepts event → IsKept accepts (if entered then with_line history (line_of history seat moment event) else history)
entered_kept accepts safely history seat moment event false e kept word bits good = kept
entered_kept accepts safely history seat moment event true e kept word bits good =
    let past : Past = past_of history in
    let l : EntryData = line_of history seat moment event in
    let follows : Follows past l = record { numbered = refl; raises = le-max_right moment (greatest past); replied = refl; entered = e } in
    let bound : raised past moment ≤ 18446744073709551615 = max-le (omega (arith, word)) (omega (arith, kept.sound.moment)) in
    record {
      legal = legal_step history.opening history.lines history.rolled l kept.legal follows;
      sound = subst (λ (p : Past). IsSound accepts p) (sym (past_with history.opening history.lines history.rolled l)) (sound_step accepts safely past l kept.sound follows (record { word = omega (arith, bound); seat = bits; event = good }));
    }

pub applied_kept : (accepts : Accepting) → Safely accepts → (history : History) (seat moment : ℕ) (event : EventData) (r : Reply) (after : History) → IsKept accepts history → moment < 2 ^ 64 → seat < 2 ^ 32 → IsEvent accepts event → IsApplied history seat moment event r after → IsKept accepts after
applied_kept accepts safely history seat moment event r after kept word bits good (as_documented is leads) =
    subst (IsKept accepts) (sym leads) (entered_kept accepts safely history seat moment event (is_entered (machine (past_of history) (raised (past_of history) moment) event).reply) refl kept word bits good)
applied_kept accepts safely history seat moment event r after kept word bits good (out_of_memory is entered stays) = subst (IsKept accepts) (sym stays) kept

-- ---- cuts

last_accepted : (accepts : Accepting) (x : VerifiedProgram) (xs : List VerifiedProgram) → accepts x → AllByRecursion accepts xs → accepts (last_of x xs)
last_accepted accepts x [] p all = p
last_accepted accepts x (y ∷ ys) p all = last_accepted accepts y ys all.0 all.1

-- the program of new tickets is accepted
pub current_accepted : {accepts : Accepting} (past : Past) → IsSound accepts past → accepts (current_program past)
current_accepted past sound = last_accepted _ past.opening.program (filter_map install_at past.stages) sound.programs.0 sound.programs.1

pub reopened_opening : {accepts : Accepting} (past : Past) → IsSound accepts past → is_worn_out past ≡ false → IsOpening (reopened past)
reopened_opening past sound e = search rules

cut_by : {accepts : Accepting} (past : Past) (worn some : Bool) (opening : Opening) → is_worn_out past ≡ worn → IsSound accepts past → (if worn then Err refusal.JournalFull else (if some then Err refusal.TicketsOpen else Ok (reopened past))) ≡ Ok opening → IsOpening opening
cut_by past worn some opening e sound f = search rules

pub cut_opening : {accepts : Accepting} (past : Past) (opening : Opening) → IsSound accepts past → cut past ≡ Ok opening → IsOpening opening
cut_opening past opening sound e = cut_by past (is_worn_out past) (is_some_open (situation_of past).open_tickets) opening refl sound e

program_by_cut : (accepts : Accepting) (past : Past) (worn some : Bool) (opening : Opening) → IsSound accepts past → (if worn then Err refusal.JournalFull else (if some then Err refusal.TicketsOpen else Ok (reopened past))) ≡ Ok opening → accepts opening.program
program_by_cut accepts past true some opening sound f = let bad : ◌≡◌ {A = Result Opening RefusalNumber} (Err refusal.JournalFull) (Ok opening) = f in cc
program_by_cut accepts past false true opening sound f = let bad : ◌≡◌ {A = Result Opening RefusalNumber} (Err refusal.TicketsOpen) (Ok opening) = f in cc
program_by_cut accepts past false false opening sound f =
    let same : ◌≡◌ {A = Result Opening RefusalNumber} (Ok (reopened past)) (Ok opening) = f in
    let is : reopened past ≡ opening = cc in
    subst (λ (o : Opening). accepts o.program) is (current_accepted past sound)

pub cut_program : (accepts : Accepting) (past : Past) (opening : Opening) → IsSound accepts past → cut past ≡ Ok opening → accepts opening.program
cut_program accepts past opening sound e = program_by_cut accepts past (is_worn_out past) (is_some_open (situation_of past).open_tickets) opening sound e

cut_kept : (accepts : Accepting) (history : History) (r : Result Opening RefusalNumber) → ((o : Opening) → r ≡ Ok o → IsOpening o) → ((o : Opening) → r ≡ Ok o → accepts o.program) → IsKept accepts history → IsKept accepts (after_cut history r)
cut_kept accepts history (Ok opening) good program kept = record { legal = legal_opened opening; sound = sound_opened accepts opening nothing_rolled (good opening refl) (program opening refl) }
cut_kept accepts history (Err number) good program kept = kept

cut_world : (accepts : Accepting) (history : History) (result : Result (List EntryData) RefusalNumber) (after : History) → IsKept accepts history → IsCut history result after → IsKept accepts after
cut_world accepts history result after kept (cuts is leads) =
    subst (IsKept accepts) (sym leads) (cut_kept accepts history (cut (past_of history)) (λ o e. cut_opening (past_of history) o kept.sound e) (λ o e. cut_program accepts (past_of history) o kept.sound e) kept)
cut_world accepts history result after kept (no_room opening there is stays) = subst (IsKept accepts) (sym stays) kept

-- ---- rolls

pub sound_rolled : {accepts : Accepting} (past : Past) (rolled : Rolled) → IsSound accepts past → IsFurther past.rolled rolled → IsSound accepts (with_rolled rolled past)
sound_rolled past rolled sound further = search rules

roll_kept : (accepts : Accepting) (history : History) (last : ℕ) (r : Result (List EntryData) RefusalNumber) → IsKept accepts history → IsKept accepts (after_roll history last r)
roll_kept accepts history last (Err number) kept = kept
roll_kept accepts history last (Ok lines) kept =
    let taken_ : Rolled = taken_up_to history last in
    let further = roll_goes_further history last in
    let legal = rolled_legal history taken_ kept.legal further in
    let more : IsFurther (past_of history).rolled taken_ = subst (λ (r : Rolled). IsFurther r taken_) (sym (same_rolled history.opening history.lines history.rolled)) further in
    record { legal = legal.0; sound = subst (λ (p : Past). IsSound accepts p) (sym legal.1) (sound_rolled (past_of history) taken_ kept.sound more) }

roll_world : (accepts : Accepting) (history : History) (last : ℕ) (result : Result (List EntryData) RefusalNumber) (after : History) → IsKept accepts history → IsRolled history last result after → IsKept accepts after
roll_world accepts history last result after kept (rolls is leads) = subst (IsKept accepts) (sym leads) (roll_kept accepts history last (roll history last) kept)
roll_world accepts history last result after kept (no_room lines there some is stays) = subst (IsKept accepts) (sym stays) kept

-- ---- hands

held_hands : (accepts : Accepting) (all : ℕ → Hands) (actor : ℕ) (own : Hands) → ((other : ℕ) → AreHands accepts (all other)) → AreHands accepts own → (other : ℕ) → AreHands accepts (holding all actor own other)
held_hands accepts all actor own whole good other = chosen_hands (other == actor) own (all other) good (whole other)
  where
    chosen_hands : (test : Bool) (a b : Hands) → AreHands accepts a → AreHands accepts b → AreHands accepts (if test then a else b)
    chosen_hands test a b p q = search rules

found_accepted : (accepts : Accepting) (o : Option VerifiedProgram) (program : VerifiedProgram) → ((p : VerifiedProgram) → o ≡ Some p → accepts p) → ok_or o refusal.TicketSpent ≡ Ok program → accepts program
found_accepted accepts None program all e = let bad : ◌≡◌ {A = Result VerifiedProgram RefusalNumber} (Err refusal.TicketSpent) (Ok program) = e in cc
found_accepted accepts (Some p) program all e = let same : ◌≡◌ {A = Result VerifiedProgram RefusalNumber} (Ok p) (Ok program) = e in let is : p ≡ program = cc in subst accepts is (all p refl)

looked_under_accepted : (accepts : Accepting) (s : Situation) (ticket : Option OpenTicket) (program : VerifiedProgram) → AllByRecursion accepts s.programs → looked_under s ticket ≡ Ok program → accepts program
looked_under_accepted accepts s None program all e = let bad : ◌≡◌ {A = Result VerifiedProgram RefusalNumber} (Err refusal.TicketSpent) (Ok program) = e in cc
looked_under_accepted accepts s (Some ticket) program all e = found_accepted accepts (program_from s.first_version s.programs ticket.version) program (λ p f. program_accepted accepts s.first_version s.programs ticket.version p all f) e

looked_by : (accepts : Accepting) (test : Bool) (s : Situation) (ticket : Option OpenTicket) (program : VerifiedProgram) → AllByRecursion accepts s.programs → (if test then looked_under s ticket else Err refusal.NoTicket) ≡ Ok program → accepts program
looked_by accepts true s ticket program all e = looked_under_accepted accepts s ticket program all e
looked_by accepts false s ticket program all e = let bad : ◌≡◌ {A = Result VerifiedProgram RefusalNumber} (Err refusal.NoTicket) (Ok program) = e in cc

looked_accepted : (accepts : Accepting) (history : History) (ticket : ℕ) (result : Result VerifiedProgram RefusalNumber) (program : VerifiedProgram) → AllByRecursion accepts (programs_of (past_of history)) → IsLooked history ticket result → result ≡ Ok program → accepts program
looked_accepted accepts history ticket result program all (looks is) e =
    let s : Situation = situation_of (past_of history) in
    looked_by accepts (is_issued s ticket) s (open_ticket s.open_tickets ticket) program all (sym is ∙ e)
looked_accepted accepts history ticket result program all (no_owner other is there) e = let bad : ◌≡◌ {A = Result VerifiedProgram RefusalNumber} (Err refusal.ServiceOutOfMemory) (Ok program) = sym is ∙ e in cc

found_hands : (accepts : Accepting) (all : ℕ → Hands) (actor : ℕ) (result : Result VerifiedProgram RefusalNumber) → ((p : VerifiedProgram) → result ≡ Ok p → accepts p) → ((other : ℕ) → AreHands accepts (all other))
    → (other : ℕ) → AreHands accepts (with_answer all actor (call.finds result) other)
found_hands accepts all actor (Ok program) good whole =
    held_hands accepts all actor _ whole
    (record { programs = all_append accepts (all actor).programs (program ∷ []) (whole actor).programs (good program refl, tt); works = (whole actor).works })
found_hands accepts all actor (Err number) good whole = whole

judged_hands : (accepts : Accepting) → Safely accepts → (all : ℕ → Hands) (actor : ℕ) (outcome : Outcome) (o : Option VerifiedProgram) → ((p : VerifiedProgram) → o ≡ Some p → accepts p) → IsOutcome record_size outcome → ((other : ℕ) → AreHands accepts (all other))
    → (other : ℕ) → AreHands accepts (with_judged all actor outcome o other)
judged_hands accepts safely all actor outcome None good fits whole = whole
judged_hands accepts safely all actor outcome (Some program) good fits whole =
    let judged_ : IsJudged accepts (work_of program outcome) = record { program = good program refl; outcome = fits; tied = judgement_judges program outcome (safely program (good program refl)) (fits_layout program.layout outcome fits) } in
    held_hands accepts all actor _ whole
    (record { programs = (whole actor).programs; works = all_append (IsJudged accepts) (all actor).works (work_of program outcome ∷ []) (whole actor).works (judged_, tt) })

-- ---- a call

kept_in : (accepts : Accepting) (w : World) → IsWorld accepts w → IsKept accepts w.history
kept_in accepts w whole = record { legal = whole.legal; sound = whole.sound }

-- the world is as good as its history and its hands
world_of : (accepts : Accepting) (after : World) (all : ℕ → Hands) → IsKept accepts after.history → after.hands ≡ all → ((actor : ℕ) → AreHands accepts (all actor)) → IsWorld accepts after
world_of accepts after all kept e good = record { legal = kept.legal; sound = kept.sound; hands = λ actor. subst (λ (h : ℕ → Hands). AreHands accepts (h actor)) (sym e) (good actor) }

-- a step of one machine is one of another that decides alike, and what holds throughout goes on
abbrev Goes : Accepting → Judging → World → ℕ → CallData → CallAnswer → World → Type 0
Goes accepts other w actor c given after = IsAnswered other w actor c given after × IsWorld accepts after

answered_well : (accepts : Accepting) → Safely accepts → (one other : Judging) → DecidesAlike one → DecidesAlike other → (w : World) (actor moment : ℕ) (event : EventData) (r : Reply) (after : World)
    → IsWorld accepts w → moment < 2 ^ 64 → actor < 2 ^ 32 → IsEvent accepts event → IsAnswered one w actor (call.applies moment event) (call.replies r) after
    → Goes accepts other w actor (call.applies moment event) (call.replies r) after
answered_well accepts safely one other p q w actor moment event r after whole word seat good is =
    let past : Past = past_of w.history in
    let safe_ = programs_safe accepts safely (programs_of past) whole.sound.programs in
    let brought = event_safe accepts safely event good in
    let mine = p (situation_of past) (raised past moment) event safe_ brought in
    let theirs = q (situation_of past) (raised past moment) event safe_ brought in
    let documented = applied_same one meant w.history actor moment event r after.history mine is.0 in (
      (applied_same one other w.history actor moment event r after.history (mine ∙ sym theirs) is.0, is.1),
      world_of accepts after w.hands (applied_kept accepts safely w.history actor moment event r after.history (kept_in accepts w whole) word seat good documented) is.1 whole.hands,
    )

-- a call that leaves the history
stays_well : (accepts : Accepting) (w after : World) (all : ℕ → Hands) → IsWorld accepts w → after.history ≡ w.history → after.hands ≡ all → ((actor : ℕ) → AreHands accepts (all actor)) → IsWorld accepts after
stays_well accepts w after all whole same e good = world_of accepts after all (subst (IsKept accepts) (sym same) (kept_in accepts w whole)) e good

called_well : (accepts : Accepting) → Safely accepts → (one other : Judging) → DecidesAlike one → DecidesAlike other → (w : World) (actor : ℕ) (c : CallData) (given : CallAnswer) (after : World) → IsWorld accepts w → actor < 2 ^ 32 → IsStep accepts (calls c) → IsAnswered one w actor c given after
    → Goes accepts other w actor c given after
called_well accepts safely one other p q w actor (call.applies moment event) (call.replies r) after whole seat good is = answered_well accepts safely one other p q w actor moment event r after whole good.0 seat good.1 is
called_well accepts safely one other p q w actor (call.looks ticket) (call.finds result) after whole seat good is =
    (is, stays_well accepts w after _ whole is.0.1 is.1 (found_hands accepts w.hands actor result (λ program e. looked_accepted accepts w.history ticket result program whole.sound.programs is.0.0 e) whole.hands))
called_well accepts safely one other p q w actor (call.reads moment) (call.shows now) after whole seat good is = (is, stays_well accepts w after _ whole is.0.1 is.1 whole.hands)
called_well accepts safely one other p q w actor (call.pages from) (call.hands lines) after whole seat good is = (is, stays_well accepts w after _ whole is.0.1 is.1 whole.hands)
called_well accepts safely one other p q w actor call.cuts (call.hands lines) after whole seat good is = (is, world_of accepts after _ (cut_world accepts w.history lines after.history (kept_in accepts w whole) is.0) is.1 whole.hands)
called_well accepts safely one other p q w actor (call.rolls last) (call.hands lines) after whole seat good is = (is, world_of accepts after _ (roll_world accepts w.history last lines after.history (kept_in accepts w whole) is.0) is.1 whole.hands)
called_well accepts safely one other p q w actor c given after whole seat good is = absurd is.0

-- ---- a step

finish_well : (accepts : Accepting) → Safely accepts → (one other : Judging) → DecidesAlike one → DecidesAlike other → (w : World) (actor moment ticket : ℕ) (o : Option JudgedData) (given : Given) (after : World)
    → IsWorld accepts w → moment < 2 ^ 64 → actor < 2 ^ 32 → ((work : JudgedData) → o ≡ Some work → IsJudged accepts work)
    → IsFinish one w actor moment ticket o given after → IsFinish other w actor moment ticket o given after × IsWorld accepts after
finish_well accepts safely one other p q w actor moment ticket None nothing after whole word seat all is = (is, subst (IsWorld accepts) (sym is) whole)
finish_well accepts safely one other p q w actor moment ticket (Some work) (answered given) after whole word seat all is = called_well accepts safely one other p q w actor (call.applies moment (finishes work ticket)) given after whole seat (word, finish_accepted accepts work ticket (all work refl)) is
finish_well accepts safely one other p q w actor moment ticket o given after whole word seat all is = absurd is

taken_well : (accepts : Accepting) → Safely accepts → (one other : Judging) → DecidesAlike one → DecidesAlike other → (w : World) (actor : ℕ) (step : Step) (given : Given) (after : World) → IsWorld accepts w → actor < 2 ^ 32 → IsStep accepts step → IsTaken one w actor step given after
    → IsTaken other w actor step given after × IsWorld accepts after
taken_well accepts safely one other p q w actor (calls c) (answered given) after whole seat good is = called_well accepts safely one other p q w actor c given after whole seat good is
taken_well accepts safely one other p q w actor (judge place outcome) nothing after whole seat good is =
    let all = judged_hands accepts safely w.hands actor outcome (slice_get (w.hands actor).programs place) (λ program e. got accepts (w.hands actor).programs place program (whole.hands actor).programs e) good whole.hands in
    (is, subst (IsWorld accepts) (sym is) (record { legal = whole.legal; sound = whole.sound; hands = all }))
taken_well accepts safely one other p q w actor (finish moment place ticket) given after whole seat good is =
    finish_well accepts safely one other p q w actor moment ticket (slice_get (w.hands actor).works place) given after whole good seat (λ work e. got (IsJudged accepts) (w.hands actor).works place work (whole.hands actor).works e) is
taken_well accepts safely one other p q w actor step given after whole seat good is = absurd is

-- ---- lists of steps

pub course_well : (accepts : Accepting) → Safely accepts → (one other : Judging) → DecidesAlike one → DecidesAlike other → (w : World) (acts : List Act) (given : List Given) (after : World) → IsWorld accepts w → AreSteps accepts acts → IsCourse one w acts given after
    → IsCourse other w acts given after × IsWorld accepts after
course_well accepts safely one other p q w [] [] after whole good is = (is, subst (IsWorld accepts) (sym is) whole)
course_well accepts safely one other p q w (act ∷ acts) (first ∷ more) after whole good is =
    let step = taken_well accepts safely one other p q w act.actor act.step first is.0 whole good.0.0 good.0.1 is.1 in
    let rest = course_well accepts safely one other p q is.0 acts more after step.1 good.1 is.2 in
    ((is.0, step.0, rest.0), rest.1)
course_well accepts safely one other p q w acts given after whole good is = absurd is

pub begun_world : (accepts : Accepting) (opening : Opening) → IsOpening opening → accepts opening.program → IsWorld accepts (begun opening)
begun_world accepts opening good program = record { legal = legal_opened opening; sound = sound_opened accepts opening nothing_rolled good program; hands = λ actor. record { programs = tt; works = tt } }
