-- What a map's entries say of the tickets that they stand for. The map has the greatest number first, and the
-- tickets are in the order of their numbers.
use Rattle.std.proofs.Common.{◌≡◌, ℕ, min, ◌<◌, ◌==◌, ◌||◌, not, Bool, true, false, cond, map, length, slice_get, ◌-◌, Option, Some, None, List, [], ◌∷◌, ◌++◌, arith, refl, sym, ap, subst, ◌∙◌, Ordering, Less}
use Rattle.std.proofs.lemmas.Bool.Decides.{nat_tests}
use Rattle.std.proofs.lemmas.List.{length-append}
use Rattle.std.proofs.lemmas.List.Elements.{filter-append}
use Rattle.std.specs.declared.cmp.Reverse.{Reverse}
use Rattle.std.specs.BTreeMap.{is_at, insert_entry}
use Rattle.std.specs.Cmp.{nat_cmp_is}
use Rattle.std.specs.List.{AllByRecursion, filter}
use Rattle.std.proofs.lemmas.List.Sums.{fold-append}
use Rattle.std.specs.List.Sorted.{IsStrictlySortedBy}
use Rattle.std.proofs.lemmas.Map.Keys.{IsStrictlyIncreasing-from_sorted}
use Rattle.std.specs.Map.{keys_of, values_of, lookup, remove_entry}
use Rattle.std.specs.Option.{is_some, option_map}
use Rattle.std.specs.Ordering.{nat_cmp, match_ordering}
use Rattle.service_profile.specs.Answers.{least_version}
use Rattle.service_profile.specs.Machine.{open_ticket, is_open}
use Rattle.service_profile.specs.declared.tickets.OpenTicket.{OpenTicket}
use Rattle.registry.specs.Registries.{Ascend}
use Rattle.registry.specs.Terms.{least_of, ticket_of, tickets_of}
use Rattle.registry.specs.declared.ticket_map.Terms.{Terms}

-- ---- numbers

-- the order of the map's keys
abbrev pub falling : Reverse ℕ → Reverse ℕ → Ordering
falling x y = nat_cmp y.0 x.0

abbrev pub key_of : ℕ → Reverse ℕ
key_of n = record { 0 = n }

is_at_number : (n : ℕ) (k : Reverse ℕ) → is_at (falling (key_of n)) k ≡ (k.0 == n)
is_at_number n k = let m = k.0 in grind (arith, nat_tests)

pub same_number : (n k : ℕ) → (k == n) ≡ true → k ≡ n
same_number n k e = grind (arith, nat_tests)

below_differs : (n k : ℕ) → nat_cmp k n ≡ Less → (k == n) ≡ false
below_differs n k e = grind (arith, nat_tests)

-- ---- the last of a list

abbrev pub or_last : Option OpenTicket → Bool → OpenTicket → Option OpenTicket
or_last None b t = cond b (Some t) None
or_last (Some found) b t = Some found

first_or_last : (b : Bool) (x t : OpenTicket) (o : Option OpenTicket) (c : Bool) → cond b (Some x) (or_last o c t) ≡ or_last (cond b (Some x) o) c t
first_or_last true x t o c = refl
first_or_last false x t o c = refl

pub open_last : (n : ℕ) (ts : List OpenTicket) (t : OpenTicket) → open_ticket (ts ++ t ∷ []) n ≡ or_last (open_ticket ts n) (t.number == n) t
open_last n [] t = refl
open_last n (x ∷ ts) t =
    ap (λ (o : Option OpenTicket). cond (x.number == n) (Some x) o) (open_last n ts t)
    ∙ first_or_last (x.number == n) x t (open_ticket ts n) (t.number == n)

or_assoc : (a b c : Bool) → (a || (b || c)) ≡ ((a || b) || c)
or_assoc true b c = refl
or_assoc false b c = refl

pub is_open_last : (n : ℕ) (ts : List OpenTicket) (t : OpenTicket) → is_open (ts ++ t ∷ []) n ≡ (is_open ts n || ((t.number == n) || false))
is_open_last n [] t = refl
is_open_last n (x ∷ ts) t = ap (λ (b : Bool). (x.number == n) || b) (is_open_last n ts t) ∙ or_assoc (x.number == n) (is_open ts n) ((t.number == n) || false)

all_last : {X : Type 0} (P : X → Type 0) (xs : List X) (x : X) → AllByRecursion P (xs ++ x ∷ []) → P x
all_last P [] x a = a.0
all_last P (y ∷ xs) x a = all_last P xs x a.1

with_last : {X : Type 0} (P : X → Type 0) (xs : List X) (x : X) → AllByRecursion P xs → P x → AllByRecursion P (xs ++ x ∷ [])
with_last P [] x a p = (p, tt)
with_last P (y ∷ xs) x a p = (a.0, with_last P xs x a.1 p)

-- ---- the ticket of a number

none_among : (n : ℕ) (b : Bool) (o : Option OpenTicket) (t : OpenTicket) → b ≡ false → o ≡ None → or_last o b t ≡ None
none_among n true o t e h = let bad : ◌≡◌ {A = Bool} true false = e in cc
none_among n false o t e h = ap (λ (p : Option OpenTicket). or_last p false t) h

-- a number that is above all others is that of none of them
none_found : (n : ℕ) (es : List (Reverse ℕ × Terms)) → AllByRecursion (λ k. falling (key_of n) k ≡ Less) (keys_of es) → open_ticket (tickets_of es) n ≡ None
none_found n [] a = refl
none_found n (e ∷ es) a =
    open_last n (tickets_of es) (ticket_of e.0.0 e.1)
    ∙ none_among n (e.0.0 == n) (open_ticket (tickets_of es) n) (ticket_of e.0.0 e.1) (below_differs n e.0.0 a.0) (none_found n es a.1)

pub or_none : (o : Option OpenTicket) (t : OpenTicket) → or_last o false t ≡ o
or_none None t = refl
or_none (Some found) t = refl

found_head : (n k : ℕ) (t : Terms) (b : Bool) (o : Option Terms) (p : Option OpenTicket) → (b ≡ true → k ≡ n) → (b ≡ true → p ≡ None) → p ≡ option_map (ticket_of n) o → or_last p b (ticket_of k t) ≡ option_map (ticket_of n) (cond b (Some t) o)
found_head n k t true o p e none h = ap (λ (q : Option OpenTicket). or_last q true (ticket_of k t)) (none refl) ∙ ap (λ (m : ℕ). Some (ticket_of m t)) (e refl)
found_head n k t false o p e none h = or_none p (ticket_of k t) ∙ h

-- the open ticket of a number has the terms that the map has there
pub found : (n : ℕ) (es : List (Reverse ℕ × Terms)) → IsStrictlySortedBy falling (keys_of es) → open_ticket (tickets_of es) n ≡ option_map (ticket_of n) (lookup (is_at (falling (key_of n))) es)
unfolding IsStrictlySortedBy
found n [] sorted = refl
found n (e ∷ es) sorted =
    open_last n (tickets_of es) (ticket_of e.0.0 e.1)
    ∙ found_head n e.0.0 e.1 (e.0.0 == n) (lookup (is_at (falling (key_of n))) es) (open_ticket (tickets_of es) n) (same_number n e.0.0)
    (λ same. subst (λ (m : ℕ). open_ticket (tickets_of es) m ≡ None) (same_number n e.0.0 same) (none_found e.0.0 es sorted.0))
    (found n es sorted.1)
    ∙ ap (λ (b : Bool). option_map (ticket_of n) (cond b (Some e.1) (lookup (is_at (falling (key_of n))) es))) (sym (is_at_number n e.0))

open_head : (b c : Bool) (t : Terms) (o : Option Terms) → c ≡ is_some o → (c || (b || false)) ≡ is_some (cond b (Some t) o)
open_head true true t o h = refl
open_head true false t o h = refl
open_head false true t o h = h
open_head false false t o h = h

-- the ticket of a number is open where the map has terms there
pub open_where : (n : ℕ) (es : List (Reverse ℕ × Terms)) → is_open (tickets_of es) n ≡ is_some (lookup (is_at (falling (key_of n))) es)
open_where n [] = refl
open_where n (e ∷ es) =
    is_open_last n (tickets_of es) (ticket_of e.0.0 e.1)
    ∙ open_head (e.0.0 == n) (is_open (tickets_of es) n) e.1 (lookup (is_at (falling (key_of n))) es) (open_where n es)
    ∙ ap (λ (b : Bool). is_some (cond b (Some e.1) (lookup (is_at (falling (key_of n))) es))) (sym (is_at_number n e.0))

-- ---- a ticket more

-- a number above all others comes first in the map, and last of the tickets
pub appended : (k : ℕ) (t : Terms) (es : List (Reverse ℕ × Terms)) → AllByRecursion (λ ticket. ticket.number < k) (tickets_of es) → tickets_of (insert_entry falling es (key_of k) t) ≡ tickets_of es ++ ticket_of k t ∷ []
appended k t [] a = refl
appended k t (e ∷ es) a =
    ap (λ o. tickets_of (match_ordering o ((key_of k, t) ∷ e ∷ es) ((e.0, t) ∷ es) (e ∷ insert_entry falling es (key_of k) t))) (sym (nat_cmp_is e.0.0 k Less (all_last (λ ticket. ticket.number < k) (tickets_of es) (ticket_of e.0.0 e.1) a)))

-- ---- a ticket less

kept_last : (ts : List OpenTicket) (t : OpenTicket) (b : Bool) → b ≡ true → cond b (t ∷ []) [] ≡ t ∷ []
kept_last ts t true e = refl
kept_last ts t false e = let bad : ◌≡◌ {A = Bool} false true = e in cc

not_false : (b : Bool) → b ≡ false → not b ≡ true
not_false true e = let bad : ◌≡◌ {A = Bool} true false = e in cc
not_false false e = refl

-- tickets with smaller numbers stay
smaller_stay : (n : ℕ) (es : List (Reverse ℕ × Terms)) → AllByRecursion (λ k. falling (key_of n) k ≡ Less) (keys_of es) → filter (λ ticket. not (ticket.number == n)) (tickets_of es) ≡ tickets_of es
smaller_stay n [] a = refl
smaller_stay n (e ∷ es) a =
    filter-append (λ (ticket : OpenTicket). not (ticket.number == n)) (tickets_of es) (ticket_of e.0.0 e.1 ∷ [])
    ∙ ap (λ (ts : List OpenTicket). ts ++ cond (not (e.0.0 == n)) (ticket_of e.0.0 e.1 ∷ []) []) (smaller_stay n es a.1)
    ∙ ap (λ (ts : List OpenTicket). tickets_of es ++ ts) (kept_last (tickets_of es) (ticket_of e.0.0 e.1) (not (e.0.0 == n)) (not_false (e.0.0 == n) (below_differs n e.0.0 a.0)))

without_end : (ts : List OpenTicket) → ts ++ [] ≡ ts
without_end [] = refl
without_end (t ∷ ts) = ap (λ (us : List OpenTicket). t ∷ us) (without_end ts)

removed_head : (n : ℕ) (e : Reverse ℕ × Terms) (es rest : List (Reverse ℕ × Terms)) (b : Bool) → (b ≡ true → filter (λ ticket. not (ticket.number == n)) (tickets_of es) ≡ tickets_of es) → tickets_of rest ≡ filter (λ ticket. not (ticket.number == n)) (tickets_of es) → tickets_of (cond b es (e ∷ rest)) ≡ filter (λ ticket. not (ticket.number == n)) (tickets_of es) ++ cond (not b) (ticket_of e.0.0 e.1 ∷ []) []
removed_head n e es rest true stay h = sym (stay refl) ∙ sym (without_end (filter (λ ticket. not (ticket.number == n)) (tickets_of es)))
removed_head n e es rest false stay h = ap (λ (ts : List OpenTicket). ts ++ ticket_of e.0.0 e.1 ∷ []) h

-- what is taken out of the map is dropped from the tickets
pub removed : (n : ℕ) (es : List (Reverse ℕ × Terms)) → IsStrictlySortedBy falling (keys_of es) → tickets_of (remove_entry (is_at (falling (key_of n))) es) ≡ filter (λ ticket. not (ticket.number == n)) (tickets_of es)
unfolding IsStrictlySortedBy
removed n [] sorted = refl
removed n (e ∷ es) sorted =
    ap (λ (b : Bool). tickets_of (cond b es (e ∷ remove_entry (is_at (falling (key_of n))) es))) (is_at_number n e.0)
    ∙ removed_head n e es (remove_entry (is_at (falling (key_of n))) es) (e.0.0 == n) (λ same. subst (λ (m : ℕ). filter (λ ticket. not (ticket.number == m)) (tickets_of es) ≡ tickets_of es) (same_number n e.0.0 same) (smaller_stay e.0.0 es sorted.0)) (removed n es sorted.1)
    ∙ sym (filter-append (λ (ticket : OpenTicket). not (ticket.number == n)) (tickets_of es) (ticket_of e.0.0 e.1 ∷ []))

-- ---- numbers in order

abbrev pub numbers_of : List OpenTicket → List ℕ
numbers_of ts = map (λ ticket. ticket.number) ts

pub numbers_last : (ts : List OpenTicket) (t : OpenTicket) → numbers_of (ts ++ t ∷ []) ≡ numbers_of ts ++ t.number ∷ []
numbers_last [] t = refl
numbers_last (x ∷ ts) t = ap (λ (ns : List ℕ). x.number ∷ ns) (numbers_last ts t)

-- a number above all others of a list in order may stand behind them
pub sorted_last : (ns : List ℕ) (n : ℕ) → IsStrictlySortedBy nat_cmp ns → AllByRecursion (λ m. nat_cmp m n ≡ Less) ns → IsStrictlySortedBy nat_cmp (ns ++ n ∷ [])
unfolding IsStrictlySortedBy
sorted_last [] n sorted below = (tt, tt)
sorted_last (m ∷ ns) n sorted below = (with_last (λ k. nat_cmp m k ≡ Less) ns n sorted.0 below.0, sorted_last ns n sorted.1 below.1)

below_all : (n : ℕ) (es : List (Reverse ℕ × Terms)) → AllByRecursion (λ k. falling (key_of n) k ≡ Less) (keys_of es) → AllByRecursion (λ m. nat_cmp m n ≡ Less) (numbers_of (tickets_of es))
below_all n [] a = tt
below_all n (e ∷ es) a =
    subst (AllByRecursion (λ (m : ℕ). nat_cmp m n ≡ Less)) (sym (numbers_last (tickets_of es) (ticket_of e.0.0 e.1)))
    (with_last (λ (m : ℕ). nat_cmp m n ≡ Less) (numbers_of (tickets_of es)) e.0.0 (below_all n es a.1) a.0)

sorted_numbers : (es : List (Reverse ℕ × Terms)) → IsStrictlySortedBy falling (keys_of es) → IsStrictlySortedBy nat_cmp (numbers_of (tickets_of es))
unfolding IsStrictlySortedBy
sorted_numbers [] sorted = tt
sorted_numbers (e ∷ es) sorted =
    subst (IsStrictlySortedBy nat_cmp) (sym (numbers_last (tickets_of es) (ticket_of e.0.0 e.1)))
    (sorted_last (numbers_of (tickets_of es)) e.0.0 (sorted_numbers es sorted.1) (below_all e.0.0 es sorted.0))

pub in_order : (es : List (Reverse ℕ × Terms)) → IsStrictlySortedBy falling (keys_of es) → Ascend (tickets_of es)
in_order es sorted = IsStrictlyIncreasing-from_sorted (numbers_of (tickets_of es)) (sorted_numbers es sorted)

pub as_many : (es : List (Reverse ℕ × Terms)) → length (tickets_of es) ≡ length es
as_many [] = refl
as_many (e ∷ es) = let rest = as_many es in let joined = length-append (tickets_of es) (ticket_of e.0.0 e.1 ∷ []) in omega (arith, rest, joined)

-- ---- the oldest

-- a ticket more behind others changes nothing about the first
first_stays : (ts : List OpenTicket) (u t : OpenTicket) → slice_get ((ts ++ u ∷ []) ++ t ∷ []) 0 ≡ slice_get (ts ++ u ∷ []) 0
first_stays [] u t = refl
first_stays (x ∷ ts) u t = refl

oldest_at : (e : Reverse ℕ × Terms) (es : List (Reverse ℕ × Terms)) → slice_get (tickets_of (e ∷ es)) 0 ≡ option_map (λ d. ticket_of d.0.0 d.1) (slice_get (e ∷ es) (length es))
oldest_at e [] = refl
oldest_at e (f ∷ es) = first_stays (tickets_of es) (ticket_of f.0.0 f.1) (ticket_of e.0.0 e.1) ∙ oldest_at f es

-- the first ticket is that of the map's last entry
pub oldest_is : (es : List (Reverse ℕ × Terms)) → slice_get (tickets_of es) 0 ≡ option_map (λ e. ticket_of e.0.0 e.1) (slice_get es (length es - 1))
oldest_is [] = refl
oldest_is (e ∷ es) =
    let last : length es ≡ length (e ∷ es) - 1 = omega arith in
    oldest_at e es ∙ ap (λ (n : ℕ). option_map (λ d. ticket_of d.0.0 d.1) (slice_get (e ∷ es) n)) last

-- ---- the least version

least_later : (current version : ℕ) (terms : List Terms) → least_of (min current version) terms ≡ min (least_of current terms) version
least_later current version [] = refl
least_later current version (t ∷ terms) =
    let turned : min (min current version) t.version ≡ min (min current t.version) version = omega arith in
    ap (λ (n : ℕ). least_of n terms) turned ∙ least_later (min current t.version) version terms

-- the order of the tickets says nothing
pub least_over : (current : ℕ) (es : List (Reverse ℕ × Terms)) → least_version current (tickets_of es) ≡ least_of current (values_of es)
least_over current [] = refl
least_over current (e ∷ es) =
    fold-append (λ (least : ℕ) (ticket : OpenTicket). min least ticket.version) current (tickets_of es) (ticket_of e.0.0 e.1 ∷ [])
    ∙ ap (λ (n : ℕ). min n e.1.version) (least_over current es)
    ∙ sym (least_later current e.1.version (values_of es))
