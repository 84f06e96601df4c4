-- What a registry keeps of its open tickets.
use Rattle.std.proofs.Common.{◌≡◌, ℕ, min, drop, ◌+◌, ◌-◌, ◌<◌, ◌≤◌, ◌==◌, nat_le, nat_lt, ◌&&◌, ◌||◌, not, Bool, true, false, cond, Option, Some, None, IfSome, List, [], ◌∷◌, ◌++◌, length, map, Ok, Err, slice_get, if◌then◌else◌, arith, refl, sym, ap, ◌∙◌}
use Rattle.std.proofs.lemmas.Bool.Decides.{nat_tests}
use Rattle.std.proofs.lemmas.List.{length-map, length-drop}
use Rattle.std.proofs.lemmas.Option.{slice_get-map}
use Rattle.std.specs.List.{AllByRecursion, filter}
use Rattle.std.specs.Option.{is_some, option_map}
use Rattle.bpf_profile.specs.Programs.{VerifiedProgram}
use Rattle.service_profile.specs.Answers.{least_version}
use Rattle.service_profile.specs.Machine.{open_ticket, is_open, program_from}
use Rattle.service_profile.specs.declared.tickets.OpenTicket.{OpenTicket}
use Rattle.refusals.specs.declared.RefusalNumber.TheVariants as refusal
use Rattle.registry.specs.Registries.{RegistryData, IsTicketOf, IsRegistry, current_version, is_issued, least_needed, spent_or_open, ticket_in, without_ticket, without_unneeded}

-- ---- a ticket more, and a ticket less

later : (first versions next : ℕ) (ticket : OpenTicket) → IsTicketOf first versions next ticket → IsTicketOf first versions (next + 1) ticket
later first versions next ticket h = record { given = h.given; before = omega (arith, h.before); not_older = h.not_older; not_newer = h.not_newer }

pub one_more : (first versions next : ℕ) (tickets : List OpenTicket) (ticket : OpenTicket) → AllByRecursion (IsTicketOf first versions next) tickets → IsTicketOf first versions (next + 1) ticket → AllByRecursion (IsTicketOf first versions (next + 1)) (tickets ++ ticket ∷ [])
one_more first versions next [] ticket all h = (h, tt)
one_more first versions next (t ∷ ts) ticket all h = (later first versions next t all.0, one_more first versions next ts ticket all.1 h)

kept_head : {X : Type 0} (P : X → Type 0) (x : X) (b : Bool) (xs : List X) → P x → AllByRecursion P xs → AllByRecursion P (cond b (x ∷ xs) xs)
kept_head P x true xs p all = (p, all)
kept_head P x false xs p all = all

pub fewer : {X : Type 0} (P : X → Type 0) (test : X → Bool) (xs : List X) → AllByRecursion P xs → AllByRecursion P (filter test xs)
fewer P test [] all = tt
fewer P test (x ∷ xs) all = kept_head P x (test x) (filter test xs) all.0 (fewer P test xs all.1)

-- a registry keeps its promises when a ticket ends
pub kept_without : (r : RegistryData) (n : ℕ) → IsRegistry r → IsRegistry (without_ticket r n)
kept_without r n kept = record {
  some = kept.some;
  few = kept.few;
  numbered = kept.numbered;
  begun = kept.begun;
  tickets = fewer (IsTicketOf r.first_version (length r.programs) r.next_ticket) _ r.open_tickets kept.tickets;
}

-- ---- what is open

found_head : (P : OpenTicket → Type 0) (t : OpenTicket) (b : Bool) (o : Option OpenTicket) → P t → IfSome o P → IfSome (cond b (Some t) o) P
found_head P t true o p h = p
found_head P t false o p h = h

-- what holds of each open ticket holds of the one that is found
pub found_keeps : (P : OpenTicket → Type 0) (tickets : List OpenTicket) (n : ℕ) → AllByRecursion P tickets → IfSome (open_ticket tickets n) P
found_keeps P [] n all = tt
found_keeps P (t ∷ ts) n all = found_head P t (t.number == n) (open_ticket ts n) all.0 (found_keeps P ts n all.1)

open_head : (b c : Bool) (t : OpenTicket) (o : Option OpenTicket) → c ≡ is_some o → (b || c) ≡ is_some (cond b (Some t) o)
open_head true c t o h = refl
open_head false c t o h = h

-- a ticket is open where it is found
pub open_where_found : (tickets : List OpenTicket) (n : ℕ) → is_open tickets n ≡ is_some (open_ticket tickets n)
open_where_found [] n = refl
open_where_found (t ∷ ts) n = open_head (t.number == n) (is_open ts n) t (open_ticket ts n) (open_where_found ts n)

given_number : (next n m : ℕ) → 1 ≤ m → m < next → (m == n) ≡ true → (nat_le 1 n && nat_lt n next) ≡ true
given_number next n m some below same = grind (arith, nat_tests)

issued_head : (b c d : Bool) → (b ≡ true → d ≡ true) → (c ≡ true → d ≡ true) → (b || c) ≡ true → d ≡ true
issued_head true c d first rest h = first refl
issued_head false c d first rest h = rest h

-- an open ticket was issued
pub open_is_issued : (first versions next : ℕ) (tickets : List OpenTicket) (n : ℕ) → AllByRecursion (IsTicketOf first versions next) tickets → is_open tickets n ≡ true → (nat_le 1 n && nat_lt n next) ≡ true
open_is_issued first versions next [] n all h = let bad : ◌≡◌ {A = Bool} false true = h in cc
open_is_issued first versions next (t ∷ ts) n all h =
    issued_head (t.number == n) (is_open ts n) (nat_le 1 n && nat_lt n next) (given_number next n t.number all.0.given all.0.before) (open_is_issued first versions next ts n all.1) h

number_head : (x t : OpenTicket) (n : ℕ) (b : Bool) (o : Option OpenTicket) → (x.number == n) ≡ b → (o ≡ Some t → (t.number == n) ≡ true) → cond b (Some x) o ≡ Some t → (t.number == n) ≡ true
number_head x t n true o h rest e = let same : ◌≡◌ {A = Option OpenTicket} (Some x) (Some t) = e in cc
number_head x t n false o h rest e = rest e

-- the ticket that is found has the number that it was asked by
found_number : (tickets : List OpenTicket) (n : ℕ) (t : OpenTicket) → open_ticket tickets n ≡ Some t → (t.number == n) ≡ true
found_number [] n t e = let bad : ◌≡◌ {A = Option OpenTicket} None (Some t) = e in cc
found_number (x ∷ ts) n t e = number_head x t n (x.number == n) (open_ticket ts n) refl (found_number ts n t) e

found_in : (r : RegistryData) (n : ℕ) (t : OpenTicket) (issued : Bool) → issued ≡ true → open_ticket r.open_tickets n ≡ Some t → Ok t ≡ (if issued then spent_or_open (open_ticket r.open_tickets n) else Err refusal.NoTicket)
found_in r n t true h e = ap spent_or_open (sym e)
found_in r n t false h e = let bad : ◌≡◌ {A = Bool} false true = h in cc

-- a ticket that is found, as each is that a registry has, is the one of its number
pub found_is_in : (r : RegistryData) (n : ℕ) (t : OpenTicket) → open_ticket r.open_tickets n ≡ Some t → IsTicketOf r.first_version (length r.programs) r.next_ticket t → Ok t ≡ ticket_in r n
found_is_in r n t e h = found_in r n t (is_issued r n) (given_number r.next_ticket n t.number h.given h.before (found_number r.open_tickets n t e)) e

-- ---- what is not open

stay_head : (t : OpenTicket) (b c : Bool) (kept ts : List OpenTicket) → (c ≡ false → kept ≡ ts) → (b || c) ≡ false → cond (not b) (t ∷ kept) kept ≡ t ∷ ts
stay_head t true c kept ts h none = let bad : ◌≡◌ {A = Bool} true false = none in cc
stay_head t false c kept ts h none = ap (λ (us : List OpenTicket). t ∷ us) (h none)

-- where a ticket is not open, nothing is dropped
pub none_dropped : (tickets : List OpenTicket) (n : ℕ) → is_open tickets n ≡ false → filter (λ ticket. not (ticket.number == n)) tickets ≡ tickets
none_dropped [] n none = refl
none_dropped (t ∷ ts) n none = stay_head t (t.number == n) (is_open ts n) (filter (λ ticket. not (ticket.number == n)) ts) ts (none_dropped ts n) none

-- and so where it is not found
pub none_ended : (tickets : List OpenTicket) (n : ℕ) → open_ticket tickets n ≡ None → filter (λ ticket. not (ticket.number == n)) tickets ≡ tickets
none_ended tickets n e = none_dropped tickets n (open_where_found tickets n ∙ ap is_some e)

-- ---- the current program

-- the last program is that of the current version
pub last_is_current : {X : Type 0} (f : X → VerifiedProgram) (first : ℕ) (xs : List X) (x : X) → slice_get xs (length xs - 1) ≡ Some x → program_from first (map f xs) (first + (length (map f xs) - 1)) ≡ Some (f x)
last_is_current f first xs x h =
    let held : nat_le first (first + (length (map f xs) - 1)) ≡ true = grind (arith, nat_tests) in
    let place : (first + (length (map f xs) - 1)) - first ≡ length xs - 1 = omega (arith, length-map xs f) in
    ap (λ (b : Bool). if b then slice_get (map f xs) ((first + (length (map f xs) - 1)) - first) else None) held
    ∙ ap (slice_get (map f xs)) place
    ∙ slice_get-map f xs (length xs - 1)
    ∙ ap (option_map f) h

-- ---- programs that nobody needs any more

pub least_falls : (current : ℕ) (tickets : List OpenTicket) → least_version current tickets ≤ current
least_falls current [] = omega arith
least_falls current (t ∷ ts) = let rest = least_falls (min current t.version) ts in omega (arith, rest)

-- the least version is held, as each open ticket's is
pub least_held : (first versions next current : ℕ) (tickets : List OpenTicket) → first ≤ current → AllByRecursion (IsTicketOf first versions next) tickets → first ≤ least_version current tickets
least_held first versions next current [] held all = held
least_held first versions next current (t ∷ ts) held all = least_held first versions next (min current t.version) ts (omega (arith, held, all.0.not_older)) all.1

-- every open ticket's version is held from there on
pub still_held : (first versions next less current : ℕ) (tickets : List OpenTicket) → AllByRecursion (IsTicketOf first versions next) tickets → least_version current tickets + less ≡ first + versions
    → AllByRecursion (IsTicketOf (least_version current tickets) less next) tickets
still_held first versions next less current [] all e = tt
still_held first versions next less current (t ∷ ts) all e =
    let least = least_falls (min current t.version) ts in
    (record { given = all.0.given; before = all.0.before; not_older = omega (arith, least); not_newer = omega (arith, all.0.not_newer, e) }, still_held first versions next less (min current t.version) ts all.1 e)

-- a registry keeps its promises when programs that nobody needs are dropped
pub kept_needed : (r : RegistryData) → IsRegistry r → IsRegistry (without_unneeded r)
kept_needed r kept =
    let falls = least_falls (current_version r) r.open_tickets in
    let held = least_held r.first_version (length r.programs) r.next_ticket (current_version r) r.open_tickets (omega arith) kept.tickets in
    let left : length (drop (least_needed r - r.first_version) r.programs) ≡ length r.programs - (least_needed r - r.first_version) = length-drop (least_needed r - r.first_version) r.programs in
    record {
      some = omega (arith, left, falls, held, kept.some);
      few = omega (arith, left, kept.few);
      numbered = omega (arith, left, falls, held, kept.some, kept.numbered);
      begun = kept.begun;
      tickets = still_held r.first_version (length r.programs) r.next_ticket (length (drop (least_needed r - r.first_version) r.programs)) (current_version r) r.open_tickets kept.tickets (omega (arith, left, falls, held, kept.some));
    }
