-- How many permissions of a period are held, where a ticket ends or is issued.
use Rattle.std.proofs.Common.{◌≡◌, ℕ, ◌+◌, ◌≤◌, ◌<◌, ◌==◌, not, Bool, true, false, cond, if◌then◌else◌, List, [], ◌∷◌, ◌++◌, map, length, Less, Option, Some, None, arith, refl, ap, sym, ◌∙◌, rules}
use Rattle.std.specs.List.{filter, AllByRecursion}
use Rattle.std.proofs.lemmas.Bool.Decides.{Decides-eqb}
use Rattle.service_profile.specs.declared.tickets.OpenTicket.{OpenTicket}
use Rattle.service_profile.specs.Machine.{open_ticket, permissions_held}
use Rattle.service_profile.specs.RunningTotals.{one_where}
use Rattle.std.specs.List.Sorted.{IsStrictlySortedBy}
use Rattle.std.specs.Ordering.{nat_cmp}
use Rattle.std.proofs.lemmas.Map.Keys.{sorted_from_strictly_increasing}
use Rattle.registry.specs.Registries.{Ascend}
use Rattle.book.proofs.Lists.{all_kept, all_weaken, none_kept, one_kept}
use Rattle.book.proofs.Permissions.{held_append}
use Rattle.book.proofs.Passing.{eqb_false_after}

-- ---- numbers that ascend

-- each number is below all later ones
abbrev AreAscending : List OpenTicket → Type 0
AreAscending [] = Unit {0}
AreAscending (ticket ∷ tickets) = AllByRecursion (λ later. ticket.number < later.number) tickets × AreAscending tickets

less_is : (n k : ℕ) → nat_cmp n k ≡ Less → n < k
less_is n k e = grind arith

all_later : (n : ℕ) (tickets : List OpenTicket) → AllByRecursion (λ k. nat_cmp n k ≡ Less) (map (λ ticket. ticket.number) tickets) → AllByRecursion (λ later. n < later.number) tickets
all_later n [] h = tt
all_later n (t ∷ tickets) h = (less_is n t.number h.0, all_later n tickets h.1)

by_sorted : (tickets : List OpenTicket) → IsStrictlySortedBy nat_cmp (map (λ ticket. ticket.number) tickets) → AreAscending tickets
unfolding IsStrictlySortedBy
by_sorted [] h = tt
by_sorted (t ∷ tickets) h = (all_later t.number tickets h.0, by_sorted tickets h.1)

ascending : (tickets : List OpenTicket) → Ascend tickets → AreAscending tickets
ascending tickets h = by_sorted tickets (sorted_from_strictly_increasing _ h)

-- ---- a ticket ends

later_kept : (number : ℕ) (tickets : List OpenTicket) → AllByRecursion (λ ticket. number < ticket.number) tickets → filter (λ (t : OpenTicket). not (t.number == number)) tickets ≡ tickets
later_kept number [] h = refl
later_kept number (t ∷ tickets) h = rw (eqb_false_after t.number number h.0) (ap (λ (ts : List OpenTicket). t ∷ ts) (later_kept number tickets h.1))

ended_head : (a b : Bool) (xs kept : List OpenTicket) (x t : OpenTicket) (later : Option OpenTicket) (test : OpenTicket → Bool) → test x ≡ a
    → (b ≡ true → kept ≡ xs) → (later ≡ Some t → length (filter test kept) + one_where (test t) ≡ length (filter test xs)) → (if b then Some x else later) ≡ Some t
    → length (filter test (cond (not b) (x ∷ kept) kept)) + one_where (test t) ≡ length (filter test (x ∷ xs))
ended_head a b xs kept x t later test e same on h = search rules

-- the end of a ticket drops that ticket, and no other
counted_ended : (test : OpenTicket → Bool) (number : ℕ) (tickets : List OpenTicket) (t : OpenTicket) → AreAscending tickets → open_ticket tickets number ≡ Some t
    → length (filter test (filter (λ (u : OpenTicket). not (u.number == number)) tickets)) + one_where (test t) ≡ length (filter test tickets)
counted_ended test number [] t h e = let bad : ◌≡◌ {A = Option OpenTicket} None (Some t) = e in cc
counted_ended test number (x ∷ tickets) t h e =
    ended_head (test x) (x.number == number) tickets (filter (λ (u : OpenTicket). not (u.number == number)) tickets) x t (open_ticket tickets number) test refl
    (λ same. later_kept number tickets (all_weaken (λ u. x.number < u.number) (λ u. number < u.number) (λ (u : OpenTicket) less. omega (arith, less, (Decides-eqb x.number number).0 same)) tickets h.0))
    (λ found. counted_ended test number tickets t h.1 found) e

-- the end of a ticket gives its permission back, and no other
pub held_ended : (period number : ℕ) (tickets : List OpenTicket) (t : OpenTicket) → Ascend tickets → open_ticket tickets number ≡ Some t
    → permissions_held period (filter (λ (u : OpenTicket). not (u.number == number)) tickets) + one_where (t.period == period) ≡ permissions_held period tickets
held_ended period number tickets t h e = counted_ended (λ (u : OpenTicket). u.period == period) number tickets t (ascending tickets h) e

-- the end of a ticket gives one place back
pub place_ended : (number : ℕ) (tickets : List OpenTicket) (t : OpenTicket) → Ascend tickets → open_ticket tickets number ≡ Some t
    → length (filter (λ (u : OpenTicket). not (u.number == number)) tickets) + 1 ≡ length tickets
place_ended number tickets t h e =
    ap (λ (n : ℕ). n + 1) (sym (ap length (all_kept (filter (λ (u : OpenTicket). not (u.number == number)) tickets))))
    ∙ counted_ended (λ (u : OpenTicket). not false) number tickets t (ascending tickets h) e ∙ ap length (all_kept tickets)

one_held : (period : ℕ) (t : OpenTicket) → t.period ≡ period → permissions_held period (t ∷ []) ≡ 1
one_held period t e = ap length (one_kept (λ (u : OpenTicket). u.period == period) t ((Decides-eqb t.period period).1 e))

-- a ticket that is issued takes a permission of its period
pub held_issued : (period : ℕ) (tickets : List OpenTicket) (t : OpenTicket) → t.period ≡ period → permissions_held period (tickets ++ t ∷ []) ≡ permissions_held period tickets + 1
held_issued period tickets t e = held_append period tickets (t ∷ []) ∙ ap (λ (n : ℕ). permissions_held period tickets + n) (one_held period t e)

-- in a later period no permission is held
pub none_held : (period later : ℕ) (tickets : List OpenTicket) → AllByRecursion (λ ticket. ticket.period ≤ period) tickets → period < later → permissions_held later tickets ≡ 0
none_held period later tickets all less = search (rules, none_kept)
