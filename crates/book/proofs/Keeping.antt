-- Every legal history stays sound with one line more.
use Rattle.std.proofs.lemmas.Grind.{common_steps}
use Rattle.std.proofs.Common.{◌≡◌, ℕ, ◌+◌, ◌-◌, ◌≤◌, ◌<◌, nat_le, nat_lt, ◌&&◌, not, Bool, true, false, List, [], ◌∷◌, ◌++◌, length, Option, Some, None, option_to_list, arith, refl, ap, sym, ◌∙◌, subst, length-append, append-nil, rules}
use Rattle.std.specs.List.{filter, AllByRecursion}
use Rattle.std.proofs.lemmas.Bool.{le-leb, lt-ltb}
use Rattle.bpf_profile.specs.declared.layout.Layout.{Layout}
use Rattle.bpf_profile.specs.Programs.{VerifiedProgram}
use Rattle.refusals.specs.declared.RefusalNumber.{RefusalNumber}
use Rattle.service_profile.specs.declared.standings.Standing.{Standing}
use Rattle.service_profile.specs.declared.decisions.Decision.{Decision}
use Rattle.service_profile.specs.declared.tickets.OpenTicket.{OpenTicket}
use Rattle.service_profile.specs.declared.replies.Reply.{Reply}
use Rattle.service_profile.specs.declared.replies.Reply.TheVariants as reply
use Rattle.service_profile.specs.Limits.{most_versions, most_entries}
use Rattle.service_profile.specs.Events.{EventData, acquires, finishes, releases, installs, EntryData}
use Rattle.book.specs.Following.{is_number, tickets_after, one_where_some, notes_after, situation_after}
use Rattle.service_profile.specs.Histories.{Stage, Past, issue_by, issue_at, issued, end_by, end_at, ended, open_of, install_by, install_at, programs_of, notes_of, situation_of, machine, passed, Follows, note_by}
use Rattle.service_profile.specs.Machine.{Situation, used, is_open, is_entered, permissions_held}
use Rattle.book.specs.Accepted.{Accepting, IsSafeProgram, IsEvent, IsLine}
use Rattle.service_profile.specs.MeantVerdicts.{IsMeantLine}
use Rattle.book.specs.Sound.{IsSound, next_ticket}
use Rattle.book.specs.Room.{LeavesRoom}
use Rattle.book.proofs.Deciding.{Shape, refuses, permits, concludes, lets_go, takes_in, turns, decision_shape, decision_near, OpenAreIssued}
use Rattle.service_profile.specs.Standings.{is_half_open}
use Rattle.book.proofs.Accepting.{Safely, programs_safe, event_safe}
use Rattle.book.proofs.Configured.{ranges, within_least}
use Rattle.book.proofs.Meaning.{still_meant, meant_by}
use Rattle.book.proofs.Permissions.{permissions_after}
use Rattle.book.proofs.Lists.{all_kept, all_kept_by, fewer_kept, map_with, all_append, all_weaken}
use Rattle.book.proofs.Passing.{AreBefore, IsFresh, notes_step, open_step, issued_step, greatest_step}

pub end_refused : (event : EventData) (number : RefusalNumber) → end_by event (reply.Refused number) ≡ None
end_refused event number = search rules

pub install_refused : (event : EventData) (number : RefusalNumber) → install_by event (reply.Refused number) ≡ None
install_refused event number = search rules

end_moved : (event : EventData) (s : _) (period : ℕ) → end_by event (reply.Moved s period) ≡ None
end_moved event s period = search rules

pub install_moved : (event : EventData) (s : _) (period : ℕ) → install_by event (reply.Moved s period) ≡ None
install_moved event s period = search rules

-- what a line does to tickets and versions
pub record IsMove (held : ℕ) (tickets : List OpenTicket) (next versions : ℕ) (event : EventData) (r : Reply) (period moment : ℕ) : Type 0 where
  pub fresh : IsFresh next (end_by event r) (issue_by r period moment)
  pub ended : (n : ℕ) → end_by event r ≡ Some n → is_open tickets n ≡ true
  pub room : held + 1 + length (tickets_after tickets (end_by event r) (issue_by r period moment)) ≤ most_entries
  pub versions_held : versions + length (option_to_list (install_by event r)) ≤ most_versions
  pub installed : (p : VerifiedProgram) → install_by event r ≡ Some p → event ≡ installs p

untouched : (tickets : List OpenTicket) → length (tickets_after tickets None None) ≡ length tickets
untouched tickets = ap length (append-nil (filter (λ (t : OpenTicket). not false) tickets)) ∙ ap length (all_kept tickets)

one_more : (tickets : List OpenTicket) (t : OpenTicket) → length (tickets_after tickets None (Some t)) ≡ length tickets + 1
one_more tickets t = ap (λ (ts : List OpenTicket). length (ts ++ t ∷ [])) (all_kept tickets) ∙ length-append tickets (t ∷ [])

one_less : (tickets : List OpenTicket) (n : ℕ) → is_open tickets n ≡ true → length (tickets_after tickets (Some n) None) + 1 ≤ length tickets
one_less tickets n e = search (rules, fewer_kept)

no_number : (tickets : List OpenTicket) (n : ℕ) → ◌≡◌ {A = Option ℕ} None (Some n) → is_open tickets n ≡ true
no_number tickets n e = cc

no_program : (event : EventData) (p : VerifiedProgram) → ◌≡◌ {A = Option VerifiedProgram} None (Some p) → event ≡ installs p
no_program event p e = cc

-- a line that touches neither tickets nor versions
still : (held : ℕ) (tickets : List OpenTicket) (next versions : ℕ) (event : EventData) (r : Reply) (period moment : ℕ)
    → end_by event r ≡ None → issue_by r period moment ≡ None → install_by event r ≡ None → held + length tickets ≤ (most_entries - 1) → versions ≤ most_versions
    → IsMove held tickets next versions event r period moment
still held tickets next versions event r period moment ends issues installs_ room few = search (rules, untouched)

permit_move : (held : ℕ) (tickets : List OpenTicket) (next versions version : ℕ) (s : _) (period moment : ℕ)
    → held + length tickets ≤ (most_entries - 2) → versions ≤ most_versions → IsMove held tickets next versions acquires (reply.Permitted next version s) period moment
permit_move held tickets next versions version s period moment room few = search (rules, one_more, no_program)

end_move : (held : ℕ) (tickets : List OpenTicket) (next versions : ℕ) (event : EventData) (r : Reply) (period moment : ℕ) (ticket : ℕ)
    → end_by event r ≡ Some ticket → issue_by r period moment ≡ None → install_by event r ≡ None → is_open tickets ticket ≡ true → held + length tickets ≤ most_entries → versions ≤ most_versions
    → IsMove held tickets next versions event r period moment
end_move held tickets next versions event r period moment ticket ends issues installs_ there room few = search (rules, one_less)

install_move : (held : ℕ) (tickets : List OpenTicket) (next versions : ℕ) (program : VerifiedProgram) (version budget : ℕ) (layout : Layout) (period moment : ℕ)
    → versions < most_versions → held + length tickets ≤ (most_entries - 1) → IsMove held tickets next versions (installs program) (reply.Installed version budget layout) period moment
install_move held tickets next versions program version budget layout period moment few room = search (rules, no_number, untouched)

pub move_of : (s : Situation) (moment : ℕ) (event : EventData) (d : Decision)
    → Shape s event d → is_entered d.reply ≡ true → used s ≤ most_entries → length s.programs - s.dropped ≤ most_versions
    → IsMove s.held s.open_tickets s.next_ticket (length s.programs - s.dropped) event d.reply d.next.period moment
move_of s moment event d (refuses number e room) entered most few =
    rw e (still s.held s.open_tickets s.next_ticket (length s.programs - s.dropped) event (reply.Refused number) d.next.period moment (end_refused event number) refl (install_refused event number) (room (subst (λ (x : Reply). is_entered x ≡ true) e entered)) few)
move_of s moment event d (permits version st e f current room free given) entered most few =
    rw (e, f) (permit_move s.held s.open_tickets s.next_ticket (length s.programs - s.dropped) version st d.next.period moment room few)
move_of s moment event d (concludes work ticket fate v steps version st e f there present counted is) entered most few =
    rw (e, f) (end_move s.held s.open_tickets s.next_ticket (length s.programs - s.dropped) (finishes work ticket) (reply.Finished fate v steps version st) d.next.period moment ticket refl refl refl there most few)
move_of s moment event d (lets_go ticket st e f there) entered most few =
    rw (e, f) (end_move s.held s.open_tickets s.next_ticket (length s.programs - s.dropped) (releases ticket) (reply.Released st) d.next.period moment ticket refl refl refl there most few)
move_of s moment event d (takes_in program version budget layout e f less room) entered most few =
    rw (e, f) (install_move s.held s.open_tickets s.next_ticket (length s.programs - s.dropped) program version budget layout d.next.period moment less room)
move_of s moment event d (turns st p e room) entered most few =
    rw e (still s.held s.open_tickets s.next_ticket (length s.programs - s.dropped) event (reply.Moved st p) d.next.period moment (end_moved event st p) refl (install_moved event st p) room few)

-- ---- one line more

abbrev next_standing : Past → EntryData → Standing
next_standing past line = (machine past line.moment line.event).next

abbrev stage_of : Past → EntryData → Stage
stage_of past line = record { line = line; before = past.standing; after = next_standing past line }

pub in_range : (next n : ℕ) → (1 ≤ n) → (n < next) → (nat_le 1 n && nat_lt n next) ≡ true
in_range next n a b = rw (le-leb 1 n a, lt-ltb n next b) refl

all_issued : (next : ℕ) (tickets : List OpenTicket) (number : ℕ) → AllByRecursion (λ ticket. (1 ≤ ticket.number) × (ticket.number < next)) tickets → is_open tickets number ≡ true → (1 ≤ number) × (number < next)
all_issued next [] number h e = let bad : ◌≡◌ {A = Bool} false true = e in cc
all_issued next (t ∷ tickets) number h e = search (rules, all_issued next tickets number h.1)

pub open_are_issued : {accepts : Accepting} (past : Past) → IsSound accepts past → OpenAreIssued (situation_of past)
open_are_issued past sound = λ number e.
    let range = all_issued (next_ticket past) (open_of past.stages) number sound.open_issued e in
    in_range (next_ticket past) number range.0 range.1

pub shape_there : {accepts : Accepting} (past : Past) (line : EntryData) → IsSound accepts past → Shape (situation_of past) line.event (machine past line.moment line.event)
shape_there past line sound = decision_shape (situation_of past) line.moment line.event (open_are_issued past sound)

pub move_there : {accepts : Accepting} (past : Past) (line : EntryData) → IsSound accepts past → Follows past line → IsMove (length past.stages - past.rolled.lines) (open_of past.stages) (next_ticket past) (length (programs_of past) - past.rolled.programs) line.event line.reply (next_standing past line).period line.moment
move_there past line sound follows =
    let entered = subst (λ (r : Reply). is_entered r ≡ true) follows.replied follows.entered in
    let move = move_of (situation_of past) line.moment line.event (machine past line.moment line.event) (shape_there past line sound) entered sound.used sound.versions in
    subst (λ (r : Reply). IsMove (length past.stages - past.rolled.lines) (open_of past.stages) (next_ticket past) (length (programs_of past) - past.rolled.programs) line.event r (next_standing past line).period line.moment) (sym follows.replied) move

pub situated_step : {accepts : Accepting} (past : Past) (line : EntryData) → IsSound accepts past → past.rolled.lines ≤ length past.stages → Follows past line → situation_of (passed past line) ≡ situation_after (situation_of past) line (next_standing past line)
situated_step past line sound held_there follows =
    let near = decision_near (situation_of past) line.moment line.event in
    let move = move_there past line sound follows in
    let notes : notes_of (passed past line) ≡ notes_after past.standing (next_standing past line) (notes_of past) _ = notes_step past.opening.config past.stages (stage_of past line) sound.periods near.least in
    let programs : programs_of (passed past line) ≡ programs_of past ++ option_to_list (install_by line.event line.reply) = ap (λ (ps : List VerifiedProgram). past.opening.program ∷ ps) (map_with install_at past.stages (stage_of past line)) in
    let tickets : open_of (passed past line).stages ≡ tickets_after (open_of past.stages) (end_by line.event line.reply) (issue_by line.reply (next_standing past line).period line.moment) = open_step past.stages (stage_of past line) (next_ticket past) sound.ended move.fresh in
    let next : next_ticket (passed past line) ≡ next_ticket past + one_where_some (issue_by line.reply (next_standing past line).period line.moment) = omega (arith, issued_step past.stages (stage_of past line)) in
    let held : length (passed past line).stages - past.rolled.lines ≡ (length past.stages - past.rolled.lines) + 1 = omega (arith, held_there, length-append past.stages (stage_of past line ∷ [])) in
    cc

abbrev Before : ℕ → Stage → Type 0
Before period stage = (stage.before.period ≤ period) × (stage.after.period ≤ period)

periods_step : {accepts : Accepting} (past : Past) (line : EntryData) → IsSound accepts past → AreBefore (next_standing past line).period (past.stages ++ stage_of past line ∷ [])
periods_step past line sound = grind (arith, common_steps, decision_near, all_weaken)

ended_there : (next later : ℕ) (tickets : List OpenTicket) (o : Option ℕ) → next ≤ later → AllByRecursion (λ ticket. (1 ≤ ticket.number) × (ticket.number < next)) tickets
    → ((n : ℕ) → o ≡ Some n → is_open tickets n ≡ true) → AllByRecursion (λ number. number < later) (option_to_list o)
ended_there next later tickets None le issued_ there = tt
ended_there next later tickets (Some n) le issued_ there = (omega (arith, le, (all_issued next tickets n issued_ (there n refl)).1), tt)

ended_step : {accepts : Accepting} (past : Past) (line : EntryData) → IsSound accepts past → Follows past line → next_ticket past ≤ next_ticket (passed past line) → AllByRecursion (λ number. number < next_ticket (passed past line)) (ended (passed past line).stages)
ended_step past line sound follows le =
    let move = move_there past line sound follows in
    let later : ℕ = next_ticket (passed past line) in
    let earlier = all_weaken (λ n. n < next_ticket past) (λ n. n < later) (λ (n : ℕ) h. omega (arith, h, le)) (ended past.stages) sound.ended in
    let last = ended_there (next_ticket past) later (open_of past.stages) (end_by line.event line.reply) le sound.open_issued move.ended in
    let all = all_append (λ n. n < later) (ended past.stages) (option_to_list (end_by line.event line.reply)) earlier last in
    subst (λ (ns : List ℕ). AllByRecursion (λ number. number < later) ns) (sym (map_with end_at past.stages (stage_of past line))) all

issued_there : (next later : ℕ) (o : Option OpenTicket) (e : Option ℕ) → 1 ≤ next → IsFresh next e o → next + one_where_some o ≡ later → AllByRecursion (λ ticket. (1 ≤ ticket.number) × (ticket.number < later)) (option_to_list o)
issued_there next later o e first fresh le = search rules

open_issued_step : {accepts : Accepting} (past : Past) (line : EntryData) → IsSound accepts past → Follows past line → next_ticket past + one_where_some (issue_by line.reply (next_standing past line).period line.moment) ≡ next_ticket (passed past line)
    → AllByRecursion (λ ticket. (1 ≤ ticket.number) × (ticket.number < next_ticket (passed past line))) (open_of (passed past line).stages)
open_issued_step past line sound follows next =
    let move = move_there past line sound follows in
    let later : ℕ = next_ticket (passed past line) in
    let test : OpenTicket → Type 0 = λ ticket. (1 ≤ ticket.number) × (ticket.number < later) in
    let earlier = all_weaken (λ ticket. (1 ≤ ticket.number) × (ticket.number < next_ticket past)) test (λ (t : OpenTicket) h. (h.0, omega (arith, h.1, next))) (open_of past.stages) sound.open_issued in
    let kept = all_kept_by test (λ (t : OpenTicket). not (is_number (end_by line.event line.reply) t.number)) (open_of past.stages) earlier in
    let last = issued_there (next_ticket past) later (issue_by line.reply (next_standing past line).period line.moment) (end_by line.event line.reply) (omega (arith, sound.opening.first_ticket)) move.fresh next in
    let all = all_append test (filter (λ (t : OpenTicket). not (is_number (end_by line.event line.reply) t.number)) (open_of past.stages)) (option_to_list (issue_by line.reply (next_standing past line).period line.moment)) kept last in
    subst (λ (ts : List OpenTicket). AllByRecursion test ts) (sym (open_step past.stages (stage_of past line) (next_ticket past) sound.ended move.fresh)) all

-- ---- places

places_after : (s : Situation) (moment : ℕ) (event : EventData) (d : Decision) → Shape s event d → length s.open_tickets ≤ s.config.max_concurrent_calls
    → length (tickets_after s.open_tickets (end_by event d.reply) (issue_by d.reply d.next.period moment)) ≤ s.config.max_concurrent_calls
places_after s moment event d a le = search (rules, untouched, one_more, one_less)

-- the tickets after a line, as the machine's reply has them
pub tickets_there : {accepts : Accepting} (past : Past) (line : EntryData) → IsSound accepts past → Follows past line
    → open_of (passed past line).stages ≡ tickets_after (open_of past.stages) (end_by line.event (machine past line.moment line.event).reply) (issue_by (machine past line.moment line.event).reply (next_standing past line).period line.moment)
tickets_there past line sound follows =
    open_step past.stages (stage_of past line) (next_ticket past) sound.ended (move_there past line sound follows).fresh
    ∙ ap (λ (r : Reply). tickets_after (open_of past.stages) (end_by line.event r) (issue_by r (next_standing past line).period line.moment)) follows.replied

places_step : {accepts : Accepting} (past : Past) (line : EntryData) → IsSound accepts past → Follows past line → length (open_of (passed past line).stages) ≤ past.opening.config.max_concurrent_calls
places_step past line sound follows =
    omega (arith, ap length (tickets_there past line sound follows), places_after (situation_of past) line.moment line.event (machine past line.moment line.event) (shape_there past line sound) sound.places)

issued_period : (r : Reply) (period moment : ℕ) → AllByRecursion (λ ticket. ticket.period ≤ period) (option_to_list (issue_by r period moment))
issued_period r period moment = search rules

periods_after : (before period moment : ℕ) (tickets : List OpenTicket) (over : Option ℕ) (r : Reply) → before ≤ period → AllByRecursion (λ ticket. ticket.period ≤ before) tickets
    → AllByRecursion (λ ticket. ticket.period ≤ period) (tickets_after tickets over (issue_by r period moment))
periods_after before period moment tickets over r le all =
    let Before : OpenTicket → Type 0 = λ ticket. ticket.period ≤ before in
    let After : OpenTicket → Type 0 = λ ticket. ticket.period ≤ period in
    let kept = all_kept_by After (λ (ticket : OpenTicket). not (is_number over ticket.number)) tickets (all_weaken Before After (λ ticket early. omega (arith, early, le)) tickets all) in
    all_append After (filter (λ (ticket : OpenTicket). not (is_number over ticket.number)) tickets) (option_to_list (issue_by r period moment)) kept (issued_period r period moment)

ticket_periods_step : {accepts : Accepting} (past : Past) (line : EntryData) → IsSound accepts past → Follows past line → AllByRecursion (λ ticket. ticket.period ≤ (next_standing past line).period) (open_of (passed past line).stages)
ticket_periods_step past line sound follows =
    let near = decision_near (situation_of past) line.moment line.event in
    subst (λ (ts : List OpenTicket). AllByRecursion (λ ticket. ticket.period ≤ (next_standing past line).period) ts) (sym (tickets_there past line sound follows))
    (periods_after past.standing.period (next_standing past line).period line.moment (open_of past.stages) (end_by line.event (machine past line.moment line.event).reply) (machine past line.moment line.event).reply near.least sound.ticket_periods)

some_permitted : {accepts : Accepting} (past : Past) → IsSound accepts past → 1 ≤ past.opening.config.permitted_number_of_calls_in_half_open_state
some_permitted past sound = within_least 1 10000 past.opening.config.permitted_number_of_calls_in_half_open_state (ranges past.opening.config sound.opening.config).permitted

permissions_step : {accepts : Accepting} (past : Past) (line : EntryData) → IsSound accepts past → Follows past line → is_half_open (next_standing past line).state ≡ true
    → permissions_held (next_standing past line).period (open_of (passed past line).stages) + length (notes_of (passed past line)) ≤ past.opening.config.permitted_number_of_calls_in_half_open_state
permissions_step past line sound follows half =
    let d : Decision = machine past line.moment line.event in
    let near = decision_near (situation_of past) line.moment line.event in
    let notes : notes_of (passed past line) ≡ notes_after past.standing d.next (notes_of past) (note_by past.opening.config line.moment line.event d.reply) =
    notes_step past.opening.config past.stages (stage_of past line) sound.periods near.least
    ∙ ap (λ (r : Reply). notes_after past.standing d.next (notes_of past) (note_by past.opening.config line.moment line.event r)) follows.replied in
    let after = permissions_after (situation_of past) line.event d line.moment (shape_there past line sound) near sound.ticket_periods (some_permitted past sound) sound.permissions half in
    omega (arith, after, ap length notes, ap (permissions_held d.next.period) (tickets_there past line sound follows))

one_at_most : {A : Type 0} (o : Option A) → one_where_some o ≤ 1
one_at_most o = search rules

installed_accepted : (accepts : Accepting) (event : EventData) (o : Option VerifiedProgram) → ((p : VerifiedProgram) → o ≡ Some p → event ≡ installs p) → IsEvent accepts event → AllByRecursion accepts (option_to_list o)
installed_accepted accepts event None from good = tt
installed_accepted accepts event (Some p) from good = (good.installs_accepted p (from p refl), tt)

-- what came before still carries the meaning's verdicts, and so does the line that comes
meant_step : {accepts : Accepting} (past : Past) (line : EntryData) (programs : List VerifiedProgram) (tickets : List OpenTicket) → IsSound accepts past → AllByRecursion IsSafeProgram (programs_of past) → Follows past line → IsEvent IsSafeProgram line.event
    → AllByRecursion (λ stage. IsMeantLine past.opening.version (programs_of past ++ programs) (issued past.stages ++ tickets) stage.line) (past.stages ++ stage_of past line ∷ [])
meant_step past line programs tickets sound held follows safe_ =
    let Before : Stage → Type 0 = λ stage. IsMeantLine past.opening.version (programs_of past) (issued past.stages) stage.line in
    let After : Stage → Type 0 = λ stage. IsMeantLine past.opening.version (programs_of past ++ programs) (issued past.stages ++ tickets) stage.line in
    let earlier = all_weaken Before After (λ (stage : Stage) meant work ticket f v steps version st e r. still_meant past.opening.version (programs_of past) programs (issued past.stages) tickets work ticket v steps version (meant work ticket f v steps version st e r)) past.stages sound.verdicts in
    all_append After past.stages (stage_of past line ∷ []) earlier (
      (λ work ticket f v steps version st e r. still_meant past.opening.version (programs_of past) programs (issued past.stages) tickets work ticket v steps version
          (meant_by past line.event (machine past line.moment line.event) work ticket f v steps version st held (safe_.judged work ticket e) (shape_there past line sound) e (sym follows.replied ∙ r))),
      tt,
    )

verdicts_step : {accepts : Accepting} (past : Past) (line : EntryData) → IsSound accepts past → AllByRecursion IsSafeProgram (programs_of past) → Follows past line → IsEvent IsSafeProgram line.event
    → AllByRecursion (λ stage. IsMeantLine past.opening.version (programs_of (passed past line)) (issued (passed past line).stages) stage.line) (passed past line).stages
verdicts_step past line sound held follows safe_ =
    let programs : programs_of (passed past line) ≡ programs_of past ++ option_to_list (install_by line.event line.reply) = ap (λ (ps : List VerifiedProgram). past.opening.program ∷ ps) (map_with install_at past.stages (stage_of past line)) in
    let tickets : issued (passed past line).stages ≡ issued past.stages ++ option_to_list (issue_at (stage_of past line)) = map_with issue_at past.stages (stage_of past line) in
    let all = meant_step past line (option_to_list (install_by line.event line.reply)) (option_to_list (issue_at (stage_of past line))) sound held follows safe_ in
    subst (λ (ps : List VerifiedProgram). AllByRecursion (λ stage. IsMeantLine past.opening.version ps (issued (passed past line).stages) stage.line) (passed past line).stages) (sym programs)
    (subst (λ (ts : List OpenTicket). AllByRecursion (λ stage. IsMeantLine past.opening.version (programs_of past ++ option_to_list (install_by line.event line.reply)) ts stage.line) (passed past line).stages) (sym tickets) all)

pub sound_step : (accepts : Accepting) → Safely accepts → (past : Past) (line : EntryData) → IsSound accepts past → Follows past line → IsLine accepts line → IsSound accepts (passed past line)
sound_step accepts safely past line sound follows good =
    let near = decision_near (situation_of past) line.moment line.event in
    let move = move_there past line sound follows in
    let held : length (passed past line).stages ≡ length past.stages + 1 = length-append past.stages (stage_of past line ∷ []) in
    let count = issued_step past.stages (stage_of past line) in
    let next : next_ticket past + one_where_some (issue_by line.reply (next_standing past line).period line.moment) ≡ next_ticket (passed past line) = omega (arith, count) in
    let tickets = open_step past.stages (stage_of past line) (next_ticket past) sound.ended move.fresh in
    let programs : programs_of (passed past line) ≡ programs_of past ++ option_to_list (install_by line.event line.reply) = ap (λ (ps : List VerifiedProgram). past.opening.program ∷ ps) (map_with install_at past.stages (stage_of past line)) in
    record {
      opening = sound.opening;
      periods = periods_step past line sound;
      period = omega (arith, held, near.most, sound.period);
      ended = ended_step past line sound follows (omega (arith, next));
      open_issued = open_issued_step past line sound follows next;
      few_issued = omega (arith, held, count, sound.few_issued, one_at_most (issue_by line.reply (next_standing past line).period line.moment));
      ticket_periods = ticket_periods_step past line sound follows;
      places = places_step past line sound follows;
      permissions = permissions_step past line sound follows;
      used = omega (arith, held, ap length tickets, move.room);
      versions = omega (arith, ap length programs, length-append (programs_of past) (option_to_list (install_by line.event line.reply)), move.versions_held);
      programs = subst (λ (ps : List VerifiedProgram). AllByRecursion accepts ps) (sym programs) (all_append accepts (programs_of past) (option_to_list (install_by line.event line.reply)) sound.programs (installed_accepted accepts line.event (install_by line.event line.reply) move.installed good.event));
      lines = all_append (λ (stage : Stage). IsLine accepts stage.line) past.stages (stage_of past line ∷ []) sound.lines (good, tt);
      verdicts = verdicts_step past line sound (programs_safe accepts safely (programs_of past) sound.programs) follows (event_safe accepts safely line.event good.event);
      moment = rw (greatest_step past.opening.moment past.stages (stage_of past line) follows.raises) good.word;
    }

-- a line installs at most one program
one_installed : (past : Past) (line : EntryData) → length (programs_of (passed past line)) ≤ length (programs_of past) + 1
one_installed past line = search (rules, map_with, length-append)

-- a line takes at most one number, one version, and two periods
pub room_step : {accepts : Accepting} (past : Past) (line : EntryData) → IsSound accepts past → past.rolled.lines ≤ length past.stages → Follows past line → LeavesRoom past → LeavesRoom (passed past line)
room_step past line sound held_there follows room = search (rules, decision_near, length-append, issued_step, one_installed)
