-- Versions that are held, and programs that were dropped.
use Rattle.std.proofs.Common.{◌≡◌, ◌==◌, ℕ, zero, suc, ◌+◌, ◌-◌, ◌≤◌, ◌<◌, min, Bool, if◌then◌else◌, List, [], ◌∷◌, ◌++◌, length, drop, slice_get, Option, Some, None, arith, refl, ap, sym, ◌∙◌, subst, length-append, rules}
use Rattle.std.specs.List.{AllByRecursion}
use Rattle.std.proofs.lemmas.List.{length-drop, drop-append-le, drop-drop}
use Rattle.bpf_profile.specs.Programs.{VerifiedProgram}
use Rattle.registry.specs.Registries as registries
use Rattle.registry.specs.Registries.{RegistryData}
use Rattle.service_profile.specs.declared.tickets.OpenTicket.{OpenTicket}
use Rattle.service_profile.specs.Answers.{least_version, least_needed, count_unneeded}
use Rattle.service_profile.specs.Machine.{Situation, current_version, open_ticket, program_from}
use Rattle.book.specs.Finding.{ticket_in}
use Rattle.book.specs.Following.{without_unneeded}
use Rattle.book.specs.Situations.{IsRegistered}

-- ---- how many versions are held, and which

pub held_count : (r : RegistryData) (s : Situation) → IsRegistered r s → length r.programs ≡ length s.programs - s.dropped
held_count r s is = ap length (sym is.versions) ∙ length-drop s.dropped s.programs

pub current_same : (r : RegistryData) (s : Situation) → IsRegistered r s → registries.current_version r ≡ current_version s
current_same r s is = omega (arith, held_count r s is, is.first, is.some)

pub next_same : (r : RegistryData) (s : Situation) → IsRegistered r s → registries.next_version r ≡ s.first_version + length s.programs
next_same r s is = omega (arith, held_count r s is, is.first, is.some)

-- the current version is held
pub current_held : (s : Situation) → s.dropped < length s.programs → s.first_version + s.dropped ≤ current_version s
current_held s some = omega (arith, some)

-- the open ticket of a number, or why it is not open
pub ticket_same : (r : RegistryData) (s : Situation) (number : ℕ) → IsRegistered r s → registries.ticket_in r number ≡ ticket_in s number
ticket_same r s number is = rw (is.tickets, is.next) refl

-- ---- the program of a version that is held

got_behind : {A : Type 0} (xs : List A) (dropped place : ℕ) → slice_get (drop dropped xs) place ≡ slice_get xs (dropped + place)
got_behind xs zero place = ap (slice_get xs) (omega arith)
got_behind [] (suc dropped) place = refl
got_behind (x ∷ xs) (suc dropped) place =
    let more : suc dropped + place ≡ suc (dropped + place) = omega arith in
    got_behind xs dropped place ∙ ap (slice_get (x ∷ xs)) (sym more)

pub program_same : (r : RegistryData) (s : Situation) (version : ℕ) → IsRegistered r s → s.first_version + s.dropped ≤ version → program_from r.first_version r.programs version ≡ program_from s.first_version s.programs version
program_same r s version is le = search (rules, got_behind)

found_head : (P : OpenTicket → Type 0) (t : OpenTicket) (found : OpenTicket) (b : Bool) (o : Option OpenTicket) → P t → (o ≡ Some found → P found) → (if b then Some t else o) ≡ Some found → P found
found_head P t found b o p h e = search rules

-- what holds of each open ticket holds of the one that is found
pub found_keeps : (P : OpenTicket → Type 0) (tickets : List OpenTicket) (number : ℕ) (found : OpenTicket) → AllByRecursion P tickets → open_ticket tickets number ≡ Some found → P found
found_keeps P [] number found all e = let bad : ◌≡◌ {A = Option OpenTicket} None (Some found) = e in cc
found_keeps P (t ∷ tickets) number found all e = found_head P t found (t.number == number) (open_ticket tickets number) all.0 (found_keeps P tickets number found all.1) e

-- ---- a program more

pub registered_more : (before after : RegistryData) (s : Situation) (program : VerifiedProgram) (room : ℕ) → after ≡ registries.with_program before program room → IsRegistered before s → IsRegistered after (record s { programs = s.programs ++ program ∷ [] })
registered_more before after s program room e is = search (rules, length-append, drop-append-le)

-- ---- programs that nobody needs any more

least_falls : (current : ℕ) (tickets : List OpenTicket) → least_version current tickets ≤ current
least_falls current [] = omega arith
least_falls current (t ∷ tickets) = let rest = least_falls (min current t.version) tickets in omega (arith, rest)

least_of_all : (current : ℕ) (tickets : List OpenTicket) → AllByRecursion (λ ticket. least_version current tickets ≤ ticket.version) tickets
least_of_all current [] = tt
least_of_all current (t ∷ tickets) = let rest = least_falls (min current t.version) tickets in (omega (arith, rest), least_of_all (min current t.version) tickets)

pub least_same : (r : RegistryData) (s : Situation) → IsRegistered r s → registries.least_needed r ≡ least_needed s
least_same r s is = ap (λ (n : ℕ). least_version n r.open_tickets) (current_same r s is) ∙ ap (least_version (current_version s)) (sym is.tickets)

all_at : (least : ℕ) (count first : ℕ) (tickets : List OpenTicket) → first + count ≡ least → AllByRecursion (λ ticket. least ≤ ticket.version) tickets → AllByRecursion (λ ticket. first + count ≤ ticket.version) tickets
all_at least count first tickets e all = subst (λ (n : ℕ). AllByRecursion (λ ticket. n ≤ ticket.version) tickets) (sym e) all

pub registered_dropped : (before after : RegistryData) (s : Situation) → after ≡ registries.without_unneeded before → before.first_version ≤ registries.least_needed before → IsRegistered before s → IsRegistered after (without_unneeded s)
registered_dropped before after s e le is =
    let same = least_same before s is in
    let least = least_falls (current_version s) s.open_tickets in
    let more : ℕ = registries.least_needed before - before.first_version in
    let first : s.first_version + count_unneeded s ≡ registries.least_needed before = omega (arith, le, same, is.first) in
    let count : count_unneeded s ≡ s.dropped + more = omega (arith, le, same, is.first) in
    subst (λ (r : RegistryData). IsRegistered r (without_unneeded s)) (sym e)
    (record {
      first = first;
      some = omega (arith, first, same, least, is.some);
      versions = ap (λ (n : ℕ). drop n s.programs) count ∙ sym (drop-drop more s.dropped s.programs) ∙ ap (drop more) is.versions;
      needed = all_at (least_needed s) (count_unneeded s) s.first_version s.open_tickets (first ∙ same) (least_of_all (current_version s) s.open_tickets);
      tickets = is.tickets;
      next = is.next;
    })

-- ---- the programs that were dropped since a book opened

-- the first version that is held tells how many
pub dropped_told : (r : RegistryData) (s : Situation) (opened : ℕ) → IsRegistered r s → s.first_version ≡ opened → r.first_version - opened ≡ s.dropped
dropped_told r s opened is same = omega (arith, is.first, same)
