-- In HALF_OPEN the permissions that are held and the notes are never more than the permitted number.
use Rattle.std.proofs.Common.{◌≡◌, ℕ, ◌+◌, ◌≤◌, ◌<◌, ◌==◌, not, Bool, true, false, cond, if◌then◌else◌, List, [], ◌∷◌, ◌++◌, length, Option, Some, None, option_to_list, arith, refl, ap, sym, ◌∙◌, subst, length-append, append-nil, rules}
use Rattle.std.specs.List.{filter, AllByRecursion}
use Rattle.std.proofs.lemmas.Bool.Decides.{Decides-eqb}
use Rattle.std.proofs.lemmas.List.Elements.{filter-append}
use Rattle.bpf_profile.specs.declared.machine.Verdict.{Verdict}
use Rattle.bpf_profile.specs.JudgedWork.{JudgedData}
use Rattle.refusals.specs.declared.RefusalNumber.{RefusalNumber}
use Rattle.service_profile.specs.declared.standings.Standing.{Standing}
use Rattle.service_profile.specs.declared.configuration.ConfigParts.{ConfigParts}
use Rattle.service_profile.specs.declared.decisions.Decision.{Decision}
use Rattle.service_profile.specs.declared.tickets.OpenTicket.{OpenTicket}
use Rattle.service_profile.specs.declared.replies.Fate.{Fate}
use Rattle.service_profile.specs.declared.replies.Reply.{Reply}
use Rattle.service_profile.specs.declared.replies.Reply.TheVariants as reply
use Rattle.service_profile.specs.declared.states.State.{State}
use Rattle.service_profile.specs.declared.notes.Note.{Note}
use Rattle.service_profile.specs.Events.{EventData, finishes}
use Rattle.book.specs.Following.{notes_after, tickets_after}
use Rattle.service_profile.specs.Histories.{note_by, issue_by, end_by}
use Rattle.service_profile.specs.Machine.{Situation, permissions_held, open_ticket}
use Rattle.service_profile.specs.Standings.{is_half_open}
use Rattle.book.proofs.Deciding.{Shape, refuses, permits, concludes, lets_go, takes_in, turns, IsNear, IsPresent}
use Rattle.book.proofs.Lists.{length_filter_le, all_kept, all_kept_by, none_kept}
use Rattle.book.proofs.Passing.{strictly}

-- ---- counting the tickets of a period

pub held_append : (period : ℕ) (xs ys : List OpenTicket) → permissions_held period (xs ++ ys) ≡ permissions_held period xs + permissions_held period ys
held_append period xs ys = search (rules, filter-append, length-append)

held_one : (period : ℕ) (t : OpenTicket) → permissions_held period (t ∷ []) ≤ 1
held_one period t = length_filter_le (λ (u : OpenTicket). u.period == period) (t ∷ [])

-- dropping tickets holds no more
held_kept : (period : ℕ) (keep : OpenTicket → Bool) (xs : List OpenTicket) → permissions_held period (filter keep xs) ≤ permissions_held period xs
held_kept period keep [] = omega arith
held_kept period keep (t ∷ xs) = search (rules, held_kept period keep xs)

dropped_count : (a b : Bool) (xs ys : List OpenTicket) (t u : OpenTicket) (later : Option OpenTicket) (test : OpenTicket → Bool) → test t ≡ a → test u ≡ true
    → length (filter test xs) ≤ length (filter test ys) → (later ≡ Some u → length (filter test xs) + 1 ≤ length (filter test ys)) → (if b then Some t else later) ≡ Some u
    → length (filter test (cond (not b) (t ∷ xs) xs)) + 1 ≤ length (filter test (t ∷ ys))
dropped_count a b xs ys t u later test e f le on same = search rules

-- dropping a ticket of the period holds one less
held_dropped : (period number : ℕ) (xs : List OpenTicket) (t : OpenTicket) → open_ticket xs number ≡ Some t → t.period ≡ period
    → permissions_held period (filter (λ (u : OpenTicket). not (u.number == number)) xs) + 1 ≤ permissions_held period xs
held_dropped period number [] t e f = let bad : ◌≡◌ {A = Option OpenTicket} None (Some t) = e in cc
held_dropped period number (x ∷ xs) t e f =
    dropped_count (x.period == period) (x.number == number) (filter (λ (u : OpenTicket). not (u.number == number)) xs) xs x t (open_ticket xs number) (λ (u : OpenTicket). u.period == period) refl
    ((Decides-eqb t.period period).1 f) (held_kept period (λ (u : OpenTicket). not (u.number == number)) xs) (λ g. held_dropped period number xs t g f) e

held_after_none : (period : ℕ) (tickets : List OpenTicket) → permissions_held period (tickets_after tickets None None) ≡ permissions_held period tickets
held_after_none period tickets = ap (permissions_held period) (append-nil (filter (λ (t : OpenTicket). not false) tickets) ∙ all_kept tickets)

held_after_issue : (period : ℕ) (tickets : List OpenTicket) (t : OpenTicket) → permissions_held period (tickets_after tickets None (Some t)) ≤ permissions_held period tickets + 1
held_after_issue period tickets t =
    let split = held_append period (filter (λ (u : OpenTicket). not false) tickets) (t ∷ []) in
    let all = ap (permissions_held period) (all_kept tickets) in
    omega (arith, split, all, held_one period t)

held_after_end : (period : ℕ) (tickets : List OpenTicket) (n : ℕ) → permissions_held period (tickets_after tickets (Some n) None) ≡ permissions_held period (filter (λ (t : OpenTicket). not (t.number == n)) tickets)
held_after_end period tickets n = ap (permissions_held period) (append-nil (filter (λ (t : OpenTicket). not (t.number == n)) tickets))

-- ---- which replies make no note

pub note_refused : (config : ConfigParts) (moment : ℕ) (event : EventData) (number : RefusalNumber) → note_by config moment event (reply.Refused number) ≡ None
note_refused config moment event number = search rules

pub note_moved : (config : ConfigParts) (moment : ℕ) (event : EventData) (s : State) (period : ℕ) → note_by config moment event (reply.Moved s period) ≡ None
note_moved config moment event s period = search rules

end_none : (event : EventData) (number : RefusalNumber) → end_by event (reply.Refused number) ≡ None
end_none event number = search rules

end_none_moved : (event : EventData) (s : State) (period : ℕ) → end_by event (reply.Moved s period) ≡ None
end_none_moved event s period = search rules

-- ---- a line in the same period

abbrev Left : Situation → EventData → Reply → ℕ → ℕ → ℕ
Left s event r period moment = permissions_held s.standing.period (tickets_after s.open_tickets (end_by event r) (issue_by r period moment)) + length (s.notes ++ option_to_list (note_by s.config moment event r))

no_more_notes : (notes : List Note) → length (notes ++ []) ≡ length notes
no_more_notes notes = ap length (append-nil notes)

concluded_left : (s : Situation) (work : JudgedData) (ticket : ℕ) (f : Fate) (v : Verdict) (steps version : ℕ) (st : State) (period moment limit : ℕ)
    → (next : Standing) → IsPresent s next ticket f → next.period ≡ s.standing.period
    → permissions_held s.standing.period s.open_tickets + length s.notes ≤ limit
    → Left s (finishes work ticket) (reply.Finished f v steps version st) period moment ≤ limit
concluded_left s work ticket f v steps version st period moment limit next present same le = search (rules, held_after_end, held_dropped, length-append, held_kept)

left_there : (s : Situation) (event : EventData) (d : Decision) (moment : ℕ) → Shape s event d → d.next ≡ s.standing → is_half_open d.next.state ≡ true
    → permissions_held s.standing.period s.open_tickets + length s.notes ≤ s.config.permitted_number_of_calls_in_half_open_state
    → Left s event d.reply d.next.period moment ≤ s.config.permitted_number_of_calls_in_half_open_state
left_there s event d moment (refuses number e room) same half le =
    rw (e, end_none event number, note_refused s.config moment event number) (omega (arith, le, held_after_none s.standing.period s.open_tickets, no_more_notes s.notes))
left_there s event d moment (permits version st e f current room free given) same half le =
    let less = given half (ap (λ (x : Standing). x.period) same) in
    rw (e, f) (omega (arith, less, held_after_issue s.standing.period s.open_tickets (record { number = s.next_ticket; version = version; period = d.next.period; moment = moment }), no_more_notes s.notes))
left_there s event d moment (concludes work ticket f v steps version st e r there present counted version_is) same half le =
    rw (e, r) (concluded_left s work ticket f v steps version st d.next.period moment s.config.permitted_number_of_calls_in_half_open_state d.next present (ap (λ (x : Standing). x.period) same) le)
left_there s event d moment (lets_go ticket st e r there) same half le =
    rw (e, r) (omega (arith, le, held_after_end s.standing.period s.open_tickets ticket, held_kept s.standing.period (λ (t : OpenTicket). not (t.number == ticket)) s.open_tickets, no_more_notes s.notes))
left_there s event d moment (takes_in program version budget layout e r less room) same half le =
    rw (e, r) (omega (arith, le, held_after_none s.standing.period s.open_tickets, no_more_notes s.notes))
left_there s event d moment (turns st p e room) same half le =
    rw (e, end_none_moved event st p, note_moved s.config moment event st p) (omega (arith, le, held_after_none s.standing.period s.open_tickets, no_more_notes s.notes))

-- ---- a line that begins a period

held_later : (period later : ℕ) (tickets : List OpenTicket) (e : Option ℕ) (o : Option OpenTicket) → AllByRecursion (λ ticket. ticket.period ≤ period) tickets → period < later
    → permissions_held later (tickets_after tickets e o) ≤ 1
held_later period later tickets e o all less = search (rules, none_kept, all_kept_by, held_append)

by_period : (s : Situation) (event : EventData) (d : Decision) (moment : ℕ) (test : Bool) → (d.next.period == s.standing.period) ≡ test → Shape s event d → IsNear s.standing d.next 2
    → AllByRecursion (λ ticket. ticket.period ≤ s.standing.period) s.open_tickets → 1 ≤ s.config.permitted_number_of_calls_in_half_open_state
    → (is_half_open s.standing.state ≡ true → permissions_held s.standing.period s.open_tickets + length s.notes ≤ s.config.permitted_number_of_calls_in_half_open_state)
    → is_half_open d.next.state ≡ true
    → permissions_held d.next.period (tickets_after s.open_tickets (end_by event d.reply) (issue_by d.reply d.next.period moment))
    + length (if test then s.notes ++ option_to_list (note_by s.config moment event d.reply) else []) ≤ s.config.permitted_number_of_calls_in_half_open_state
by_period s event d moment true e shape near all some old half =
    let period : d.next.period ≡ s.standing.period = (Decides-eqb _ _).0 e in
    let same = near.same period in
    let before = old (ap (λ (x : Standing). is_half_open x.state) (sym same) ∙ half) in
    subst (λ (q : ℕ). permissions_held q (tickets_after s.open_tickets (end_by event d.reply) (issue_by d.reply d.next.period moment)) + length (s.notes ++ option_to_list (note_by s.config moment event d.reply)) ≤ s.config.permitted_number_of_calls_in_half_open_state)
    (sym period) (left_there s event d moment shape same half before)
by_period s event d moment false e shape near all some old half =
    let later = strictly s.standing.period d.next.period near.least e in
    omega (arith, some, held_later s.standing.period d.next.period s.open_tickets (end_by event d.reply) (issue_by d.reply d.next.period moment) all later)

pub permissions_after : (s : Situation) (event : EventData) (d : Decision) (moment : ℕ) → Shape s event d → IsNear s.standing d.next 2
    → AllByRecursion (λ ticket. ticket.period ≤ s.standing.period) s.open_tickets → 1 ≤ s.config.permitted_number_of_calls_in_half_open_state
    → (is_half_open s.standing.state ≡ true → permissions_held s.standing.period s.open_tickets + length s.notes ≤ s.config.permitted_number_of_calls_in_half_open_state)
    → is_half_open d.next.state ≡ true
    → permissions_held d.next.period (tickets_after s.open_tickets (end_by event d.reply) (issue_by d.reply d.next.period moment))
    + length (notes_after s.standing d.next s.notes (note_by s.config moment event d.reply)) ≤ s.config.permitted_number_of_calls_in_half_open_state
permissions_after s event d moment shape near all some old half = by_period s event d moment (d.next.period == s.standing.period) refl shape near all some old half
