-- What is said of the tickets where the newest one lies beside the others.
use Rattle.std.proofs.Common.{◌≡◌, ℕ, ◌<◌, ◌==◌, not, Bool, true, false, cond, slice_get, Option, Some, None, List, [], ◌∷◌, ◌++◌, arith, refl, sym, ap, subst, ◌∙◌, Less}
use Rattle.std.proofs.lemmas.Bool.Decides.{nat_tests}
use Rattle.std.proofs.lemmas.List.Elements.{filter-append}
use Rattle.std.proofs.lemmas.Map.Keys.{IsStrictlyIncreasing-from_sorted, sorted_from_strictly_increasing}
use Rattle.std.specs.Cmp.{nat_cmp_is}
use Rattle.std.specs.List.{AllByRecursion, filter}
use Rattle.std.specs.List.Sorted.{IsStrictlySortedBy}
use Rattle.std.specs.Ordering.{nat_cmp}
use Rattle.service_profile.specs.Machine.{open_ticket}
use Rattle.service_profile.specs.declared.tickets.OpenTicket.{OpenTicket}
use Rattle.registry.specs.Newest.{with_newest, IsNewest, has_number}
use Rattle.registry.specs.Registries.{Ascend}
use Rattle.registry.proofs.Entries.{or_last, open_last, or_none, same_number, numbers_of, numbers_last, sorted_last}
use Rattle.registry.proofs.Keeping.{fewer}

abbrev pub AreBelow : ℕ → List OpenTicket → Type 0
AreBelow n tickets = AllByRecursion (λ ticket. ticket.number < n) tickets

below_differs : (k n : ℕ) → k < n → (k == n) ≡ false
below_differs k n less = grind (arith, nat_tests)

-- none of them has a number that is above all of theirs
none_below : (n : ℕ) (ts : List OpenTicket) → AreBelow n ts → open_ticket ts n ≡ None
none_below n [] below = refl
none_below n (t ∷ ts) below = ap (λ (b : Bool). cond b (Some t) (open_ticket ts n)) (below_differs t.number n below.0) ∙ none_below n ts below.1

at_number : (t : OpenTicket) (n : ℕ) (ts : List OpenTicket) → (t.number == n) ≡ true → AreBelow t.number ts → AreBelow n ts
at_number t n ts same below = subst (λ (m : ℕ). AreBelow m ts) (same_number n t.number same) below

-- where any ticket is older, the first of them comes first
pub oldest_older : (older : List OpenTicket) (newest : Option OpenTicket) (oldest : OpenTicket) → Some oldest ≡ slice_get older 0 → Some oldest ≡ slice_get (with_newest older newest) 0
oldest_older [] newest oldest e = let bad : ◌≡◌ {A = Option OpenTicket} (Some oldest) None = e in cc
oldest_older (t ∷ older) None oldest e = e
oldest_older (t ∷ older) (Some u) oldest e = e

-- else the newest one
pub oldest_newest : (older : List OpenTicket) (newest : Option OpenTicket) → None ≡ slice_get older 0 → newest ≡ slice_get (with_newest older newest) 0
oldest_newest [] None e = refl
oldest_newest [] (Some u) e = refl
oldest_newest (t ∷ older) newest e = let bad : ◌≡◌ {A = Option OpenTicket} None (Some t) = e in cc

pub newest_found : (n : ℕ) (older : List OpenTicket) (newest : Option OpenTicket) → IsNewest older newest → has_number newest n ≡ true → newest ≡ open_ticket (with_newest older newest) n
newest_found n older None is has = let bad : ◌≡◌ {A = Bool} false true = has in cc
newest_found n older (Some t) is has =
    sym (open_last n older t ∙ ap (λ (b : Bool). or_last (open_ticket older n) b t) has ∙ ap (λ (o : Option OpenTicket). or_last o true t) (none_below n older (at_number t n older has is)))

pub older_found : (n : ℕ) (older : List OpenTicket) (newest : Option OpenTicket) → has_number newest n ≡ false → open_ticket older n ≡ open_ticket (with_newest older newest) n
older_found n older None has = refl
older_found n older (Some t) has = sym (open_last n older t ∙ ap (λ (b : Bool). or_last (open_ticket older n) b t) has ∙ or_none (open_ticket older n) t)

less_all : (n : ℕ) (ts : List OpenTicket) → AreBelow n ts → AllByRecursion (λ m. nat_cmp m n ≡ Less) (numbers_of ts)
less_all n [] below = tt
less_all n (t ∷ ts) below = (sym (nat_cmp_is t.number n Less below.0), less_all n ts below.1)

pub in_order_with : (older : List OpenTicket) (newest : Option OpenTicket) → Ascend older → IsNewest older newest → Ascend (with_newest older newest)
in_order_with older None ascend is = ascend
in_order_with older (Some t) ascend is =
    IsStrictlyIncreasing-from_sorted (numbers_of (older ++ t ∷ []))
    (subst (IsStrictlySortedBy nat_cmp) (sym (numbers_last older t)) (sorted_last (numbers_of older) t.number (sorted_from_strictly_increasing (numbers_of older) ascend) (less_all t.number older is)))

stay_head : (t : OpenTicket) (b : Bool) (kept ts : List OpenTicket) → b ≡ false → kept ≡ ts → cond (not b) (t ∷ kept) kept ≡ t ∷ ts
stay_head t true kept ts differs is = let bad : ◌≡◌ {A = Bool} true false = differs in cc
stay_head t false kept ts differs is = ap (λ (us : List OpenTicket). t ∷ us) is

abbrev others : ℕ → List OpenTicket → List OpenTicket
others n ts = filter (λ ticket. not (ticket.number == n)) ts

all_stay : (n : ℕ) (ts : List OpenTicket) → AreBelow n ts → others n ts ≡ ts
all_stay n [] below = refl
all_stay n (t ∷ ts) below = stay_head t (t.number == n) (others n ts) ts (below_differs t.number n below.0) (all_stay n ts below.1)

dropped_last : (ts : List OpenTicket) (t : OpenTicket) (b : Bool) → b ≡ true → ts ++ cond (not b) (t ∷ []) [] ≡ ts
dropped_last [] t true is = refl
dropped_last (u ∷ ts) t true is = ap (λ (us : List OpenTicket). u ∷ us) (dropped_last ts t true refl)
dropped_last ts t false is = let bad : ◌≡◌ {A = Bool} false true = is in cc

-- where the newest one ends, the older ones are left
pub newest_ended : (n : ℕ) (older : List OpenTicket) (newest : Option OpenTicket) → IsNewest older newest → has_number newest n ≡ true → older ≡ others n (with_newest older newest)
newest_ended n older None is has = let bad : ◌≡◌ {A = Bool} false true = has in cc
newest_ended n older (Some t) is has =
    sym (filter-append (λ (ticket : OpenTicket). not (ticket.number == n)) older (t ∷ [])
    ∙ ap (λ (ts : List OpenTicket). ts ++ cond (not (t.number == n)) (t ∷ []) []) (all_stay n older (at_number t n older has is))
    ∙ dropped_last older t (t.number == n) has)

pub still_newest : (n : ℕ) (older : List OpenTicket) (newest : Option OpenTicket) → IsNewest older newest → IsNewest (others n older) newest
still_newest n older None is = tt
still_newest n older (Some t) is = fewer (λ (ticket : OpenTicket). ticket.number < t.number) (λ (ticket : OpenTicket). not (ticket.number == n)) older is
