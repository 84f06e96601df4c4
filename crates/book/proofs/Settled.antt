-- Where a service's parts stand after each change.
use Rattle.std.proofs.Common.{◌≡◌, ℕ, ◌+◌, ◌-◌, ◌≤◌, ◌<◌, ◌==◌, nat_le, nat_lt, ◌&&◌, Bool, true, false, if◌then◌else◌, List, [], ◌∷◌, ◌++◌, Option, Some, None, option_to_list, Result, Ok, Err, arith, refl, ap, sym, ◌∙◌, append-nil, rules}
use Rattle.std.specs.List.{AllByRecursion}
use Rattle.std.specs.Option.{option_map, ok_or, IfSome, OnSome}
use Rattle.std.specs.Result.{OnErr}
use Rattle.service_profile.specs.RunningTotals.{one_where}
use Rattle.std.proofs.lemmas.Bool.Decides.{Decides-eqb}
use Rattle.bpf_profile.specs.Programs.{VerifiedProgram}
use Rattle.breaker.specs.Calls as calls
use Rattle.breaker.specs.Situations as breakers
use Rattle.breaker.specs.Situations.{HeldBreaker, BreakerSituation}
use Rattle.bulkhead.specs.Taken.{Taken, entered}
use Rattle.refusals.specs.declared.RefusalNumber.{RefusalNumber}
use Rattle.refusals.specs.declared.RefusalNumber.TheVariants as refusal
use Rattle.registry.specs.Registries as registries
use Rattle.registry.specs.Registries.{RegistryData, Ascend, is_issued, spent_or_open, ticket_in}
use Rattle.service_profile.specs.declared.notes.Note.{Note}
use Rattle.service_profile.specs.declared.standings.Standing.{Standing}
use Rattle.service_profile.specs.declared.tickets.OpenTicket.{OpenTicket}
use Rattle.service_profile.specs.Answers.{looked, looked_under}
use Rattle.service_profile.specs.Machine.{Situation, open_ticket, permissions_held}
use Rattle.book.specs.declared.plans.Effects.{Effects}
use Rattle.book.specs.Following.{admitted, changed_by, followed, installed_in, one_where_some, standing_so, tickets_after, with_ticket, without}
use Rattle.book.specs.Situations.{AreEffects, IsLater, IsOrderly, IsRegistered, next_open, breaker_of}
use Rattle.book.proofs.Held.{held_ended, held_issued, none_held}
use Rattle.book.proofs.Lists.{all_append, all_kept, all_kept_by, length_filter_le}
use Rattle.book.proofs.Passing.{strictly}
use Rattle.book.proofs.Versions.{current_same, program_same, found_keeps}

-- ---- the breaker

stand_by : (test : Bool) (s : Situation) (next : Standing) (made : Option Note) → (next.period == s.standing.period) ≡ test → IsLater s.standing next → AllByRecursion (λ ticket. ticket.period ≤ s.standing.period) s.open_tickets
    → ◌≡◌ {A = BreakerSituation} (if test then record (breaker_of s) { notes = s.notes ++ option_to_list made } else calls.begun next (breaker_of s))
    (record { config = s.config; standing = next; notes = if test then s.notes ++ option_to_list made else []; held = permissions_held next.period s.open_tickets })
stand_by true s next made e later periods =
    let is : next ≡ s.standing = later.same ((Decides-eqb next.period s.standing.period).0 e) in
    ap (λ (n : Standing). record { config = s.config; standing = n; notes = s.notes ++ option_to_list made; held = permissions_held n.period s.open_tickets }) (sym is)
stand_by false s next made e later periods =
    let none : permissions_held next.period s.open_tickets ≡ 0 = none_held s.standing.period next.period s.open_tickets periods (strictly s.standing.period next.period later.least e) in
    ap (λ (n : ℕ). record { config = s.config; standing = next; notes = []; held = n }) (sym none)

pub stand_followed : (s : Situation) (next : Standing) (made : Option Note) → IsLater s.standing next → AllByRecursion (λ ticket. ticket.period ≤ s.standing.period) s.open_tickets
    → calls.followed next made (breaker_of s) ≡ breaker_of (standing_so s next made)
stand_followed s next made later periods = stand_by (next.period == s.standing.period) s next made refl later periods

back_by : (test : Bool) (s : Situation) (less : ℕ) → less + (if test then 1 else 0) ≡ permissions_held s.standing.period s.open_tickets
    → ◌≡◌ {A = BreakerSituation} (if test then calls.without_permission (breaker_of s) else breaker_of s) (record { config = s.config; standing = s.standing; notes = s.notes; held = less })
back_by test s less e = search rules

-- the permission of the ticket that ends is given back
pub stand_without : (s : Situation) (number : ℕ) (t : OpenTicket) → Ascend s.open_tickets → open_ticket s.open_tickets number ≡ Some t → calls.given_back t.period (breaker_of s) ≡ breaker_of (without s (Some number))
stand_without s number t ascend found = back_by (t.period == s.standing.period) s _ (held_ended s.standing.period number s.open_tickets t ascend found)

pub stand_with : (s : Situation) (t : OpenTicket) → t.period ≡ s.standing.period → calls.with_permission (breaker_of s) ≡ breaker_of (with_ticket s t)
stand_with s t e = ap (λ (n : ℕ). record { config = s.config; standing = s.standing; notes = s.notes; held = n }) (sym (held_issued s.standing.period s.open_tickets t e))

-- a breaker after a permission is taken
pub one_taken : (before after : HeldBreaker) (s : BreakerSituation) → after ≡ record before { held = before.held + 1 } → breakers.StandsFor before s → breakers.StandsFor after (calls.with_permission s)
one_taken before after s e stands = search rules

-- ---- the bulkhead

pub place_taken : (before after : Taken) (places taken : ℕ) → before ≡ record { places = places; taken = taken } → after ≡ entered before → taken < places → after ≡ record { places = places; taken = taken + 1 }
place_taken before after places taken is e free = search rules

pub place_given : (before after : Taken) (places taken less : ℕ) → before ≡ record { places = places; taken = taken } → after ≡ record { places = before.places; taken = before.taken - 1 } → less + 1 ≡ taken → after ≡ record { places = places; taken = less }
place_given before after places taken less is e one = search rules

-- ---- the registry

found_by : (issued : Bool) (found : Option OpenTicket) (t : OpenTicket) → ◌≡◌ {A = Result OpenTicket RefusalNumber} (if issued then spent_or_open found else Err refusal.NoTicket) (Ok t) → found ≡ Some t
found_by issued found t e = search rules

-- a ticket that ends was open
pub ended_open : (r : RegistryData) (number : ℕ) (t : OpenTicket) → ticket_in r number ≡ Ok t → open_ticket r.open_tickets number ≡ Some t
ended_open r number t e = found_by (is_issued r number) (open_ticket r.open_tickets number) t e

pub registered_with : (before after : RegistryData) (s : Situation) (next : Standing) (moment : ℕ) → after ≡ registries.with_ticket before next.period moment → IsRegistered before s → IsRegistered after (admitted s next moment)
registered_with before after s next moment e is = search (rules, current_same, all_append)

pub registered_without : (before after : RegistryData) (s : Situation) (number : ℕ) → after ≡ registries.without_ticket before number → IsRegistered before s → IsRegistered after (without s (Some number))
registered_without before after s number e is = search (rules, all_kept_by)

-- where a ticket is not open nothing ends
pub nothing_ends : (before after : RegistryData) (s : Situation) (number : ℕ) → after ≡ registries.without_ticket before number → after ≡ before → IsRegistered before s → s ≡ without s (Some number)
nothing_ends before after s number e same is = search rules

-- ---- the situation after all changes

by_issue : (o : Option OpenTicket) (s : Situation) (next : Standing) (effects : Effects) (installs : Option VerifiedProgram) → effects.issued ≡ o → AreEffects s next effects
    → ◌≡◌ {A = Situation} (record (installed_in (changed_by o s next effects) installs) { held = s.held + 1 }) (followed s next effects installs)
by_issue None s next effects installs e changes =
    let tickets : tickets_after s.open_tickets effects.ended effects.issued ≡ (without s effects.ended).open_tickets = ap (tickets_after s.open_tickets effects.ended) e ∙ append-nil (without s effects.ended).open_tickets in
    let number : s.next_ticket + one_where_some effects.issued ≡ s.next_ticket = ap (λ (o : Option OpenTicket). s.next_ticket + one_where_some o) e ∙ omega arith in
    rw (tickets, number) refl
by_issue (Some t) s next effects installs e changes =
    let is = changes.issue t e in
    let tickets : tickets_after s.open_tickets effects.ended effects.issued ≡ s.open_tickets ++ next_open s next.period t.moment ∷ [] =
    ap (tickets_after s.open_tickets effects.ended) e ∙ ap (λ (o : Option ℕ). tickets_after s.open_tickets o (Some t)) is.1 ∙ ap (λ (ts : List OpenTicket). ts ++ t ∷ []) (all_kept s.open_tickets) ∙ ap (λ (u : OpenTicket). s.open_tickets ++ u ∷ []) is.0 in
    let number : s.next_ticket + one_where_some effects.issued ≡ s.next_ticket + 1 = ap (λ (o : Option OpenTicket). s.next_ticket + one_where_some o) e in
    rw (tickets, number, is.2) refl

pub followed_so : (s : Situation) (next : Standing) (effects : Effects) (installs : Option VerifiedProgram) → AreEffects s next effects
    → ◌≡◌ {A = Situation} (record (installed_in (changed_by effects.issued s next effects) installs) { held = s.held + 1 }) (followed s next effects installs)
followed_so s next effects installs changes = by_issue effects.issued s next effects installs refl changes

-- a situation stays orderly where a ticket ends
pub orderly_without : (s : Situation) (ended : Option ℕ) → IsOrderly s → IsOrderly (without s ended)
orderly_without s ended orderly = search (rules, all_kept_by, length_filter_le)

-- ---- what a breaker stands for

pub back_standing : (period : ℕ) (s : BreakerSituation) → (calls.given_back period s).standing ≡ s.standing
back_standing period s = search rules

-- some permission is held under a ticket of the present period that is open
pub some_held : (s : Situation) (number : ℕ) (t : OpenTicket) → Ascend s.open_tickets → open_ticket s.open_tickets number ≡ Some t → t.period ≡ s.standing.period → 0 < permissions_held s.standing.period s.open_tickets
some_held s number t ascend found e =
    let count = held_ended s.standing.period number s.open_tickets t ascend found in
    let one : one_where (t.period == s.standing.period) ≡ 1 = ap one_where ((Decides-eqb t.period s.standing.period).1 e) in
    omega (arith, count, one)

-- ---- whether there was memory

pub any_err : {A E P : Type 0} (r : Result A E) → P → OnErr r P
any_err r p = search rules

-- a note that there is
pub noted : {P : Note → Type 0} (made : Option Note) → ((n : Note) → made ≡ Some n → P n) → IfSome made P
noted made f = search rules

-- a program that gets a version
pub installs_some : {A : Type 0} {P : Type 0} (f : A → VerifiedProgram) (installed : Option A) (installs : Option VerifiedProgram) → option_map f installed ≡ installs → ((program : VerifiedProgram) → installs ≡ Some program → P) → OnSome installed P
installs_some f installed installs e g = search rules

-- ---- the program that judges under a ticket

same_look : (r : RegistryData) (s : Situation) (number : ℕ) (found : Option OpenTicket) → open_ticket s.open_tickets number ≡ found → IsRegistered r s → registries.looked_with r found ≡ looked_under s found
same_look r s number None e is = refl
same_look r s number (Some t) e is =
    ap (λ (o : Option VerifiedProgram). ok_or o refusal.TicketSpent) (program_same r s t.version is (found_keeps (λ (ticket : OpenTicket). s.first_version + s.dropped ≤ ticket.version) s.open_tickets number t is.needed e))

pub looked_same : (r : RegistryData) (s : Situation) (number : ℕ) → IsRegistered r s → registries.looked_in r number ≡ looked s number
looked_same r s number is =
    ap (λ (ts : List OpenTicket). if is_issued r number then registries.looked_with r (open_ticket ts number) else Err refusal.NoTicket) (sym is.tickets)
    ∙ ap (λ (next : ℕ). if nat_le 1 number && nat_lt number next then registries.looked_with r (open_ticket s.open_tickets number) else Err refusal.NoTicket) (sym is.next)
    ∙ ap (λ (x : Result VerifiedProgram RefusalNumber). if nat_le 1 number && nat_lt number s.next_ticket then x else Err refusal.NoTicket) (same_look r s number (open_ticket s.open_tickets number) refl is)
