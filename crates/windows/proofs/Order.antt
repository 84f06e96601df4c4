-- Buckets in the order of their seconds.
use Rattle.std.proofs.Common.{◌≡◌, ℕ, zero, suc, ◌+◌, ◌-◌, ◌/◌, ◌≤◌, ◌<◌, nat_le, Bool, true, false, cond, Option, Some, None, List, [], ◌∷◌, ◌++◌, length, take, slice_get, arith, refl, sym, subst}
use Rattle.std.specs.List.{filter, AllByRecursion}
use Rattle.std.proofs.lemmas.Bool.{lt-ltb, le-ltb, ltb-true, leb-true, leb-false}
use Rattle.circular_buffer.specs.Buffer.{last_item}
use Rattle.service_profile.specs.Windows.{second_of}
use Rattle.windows.specs.declared.buckets.Bucket.{Bucket}
use Rattle.windows.specs.Kept.{is_in_window}
use Rattle.windows.specs.Rings.{has_fallen, left, takes_second, newest_or_empty, newest, older, IsSoonAfter, AreInOrder}
use Rattle.windows.specs.Sums.{no_totals}
use Rattle.windows.proofs.Lists.{all_weaken, all_push, all_front, all_last, filter_whole, last_behind}

abbrev pub Before : ℕ → ℕ → Bucket → Type 0
Before size second bucket = IsSoonAfter size bucket second

-- ---- what has fallen out, and what is in the window

in_window_by_fallen : (size now : ℕ) (bucket : Bucket) → 1 ≤ size → (b : Bool) → has_fallen size (second_of now) bucket ≡ b → is_in_window size now bucket ≡ cond b false true
in_window_by_fallen size now bucket some true e = le-ltb (now / 1000) (bucket.second + size) (omega (arith, some, leb-true size (now / 1000 - bucket.second) e))
in_window_by_fallen size now bucket some false e = lt-ltb (now / 1000) (bucket.second + size) (omega (arith, some, leb-false size (now / 1000 - bucket.second) e))

-- the buckets behind one that is in the window are in it
later_in_window : (size now : ℕ) (bucket : Bucket) (xs : List Bucket) → is_in_window size now bucket ≡ true → AllByRecursion (λ later. IsSoonAfter size bucket later.second) xs → AllByRecursion (λ later. is_in_window size now later ≡ true) xs
later_in_window size now bucket xs here behind =
    all_weaken (λ (later : Bucket). IsSoonAfter size bucket later.second) (λ (later : Bucket). is_in_window size now later ≡ true) (λ later soon.
    lt-ltb (now / 1000) (later.second + size) (omega (arith, soon.after, ltb-true (now / 1000) (bucket.second + size) here))) xs behind

left_head : (size now : ℕ) (x : Bucket) (xs : List Bucket) → 1 ≤ size → AreInOrder size (x ∷ xs) → left size (second_of now) xs ≡ filter (is_in_window size now) xs → (b : Bool) → has_fallen size (second_of now) x ≡ b
    → cond b (left size (second_of now) xs) (x ∷ xs) ≡ cond (is_in_window size now x) (x ∷ filter (is_in_window size now) xs) (filter (is_in_window size now) xs)
left_head size now x xs some order rest true e = rw (in_window_by_fallen size now x some true e) rest
left_head size now x xs some order rest false e =
    let here : is_in_window size now x ≡ true = in_window_by_fallen size now x some false e in
    rw (here, filter_whole (is_in_window size now) xs (later_in_window size now x xs here order.0)) refl

-- what is left are the buckets in the window
pub left_in_window : (size now : ℕ) (xs : List Bucket) → 1 ≤ size → AreInOrder size xs → left size (second_of now) xs ≡ filter (is_in_window size now) xs
left_in_window size now [] some order = refl
left_in_window size now (x ∷ xs) some order = left_head size now x xs some order (left_in_window size now xs some order.1) (has_fallen size (second_of now) x) refl

order_head : (size : ℕ) (b : Bool) (xs ys : List Bucket) → AreInOrder size xs → AreInOrder size ys → AreInOrder size (cond b xs ys)
order_head size true xs ys p q = p
order_head size false xs ys p q = q

pub left_in_order : (size second : ℕ) (xs : List Bucket) → AreInOrder size xs → AreInOrder size (left size second xs)
left_in_order size second [] order = order
left_in_order size second (x ∷ xs) order = order_head size (has_fallen size second x) (left size second xs) (x ∷ xs) (left_in_order size second xs order.1) order

-- ---- the newest bucket

pub front_in_order : (size : ℕ) (xs ys : List Bucket) → AreInOrder size (xs ++ ys) → AreInOrder size xs
front_in_order size [] ys order = tt
front_in_order size (x ∷ xs) ys order = (all_front (λ (later : Bucket). IsSoonAfter size x later.second) xs ys order.0, front_in_order size xs ys order.1)

pub all_before_last : (size : ℕ) (xs : List Bucket) (x : Bucket) → AreInOrder size (xs ++ x ∷ []) → AllByRecursion (Before size x.second) xs
all_before_last size [] x order = tt
all_before_last size (y ∷ xs) x order = (all_last (λ (later : Bucket). IsSoonAfter size y later.second) xs x order.0, all_before_last size xs x order.1)

pub push_in_order : (size : ℕ) (xs : List Bucket) (x : Bucket) → AreInOrder size xs → AllByRecursion (Before size x.second) xs → AreInOrder size (xs ++ x ∷ [])
push_in_order size [] x order before = (tt, tt)
push_in_order size (y ∷ xs) x order before = (all_push (λ (later : Bucket). IsSoonAfter size y later.second) xs x order.0 before.0, push_in_order size xs x order.1 before.1)

-- ---- there are no more buckets than seconds in the window

fewer : (size low high : ℕ) (xs : List Bucket) → low < high → AreInOrder size xs → AllByRecursion (λ x. low < x.second) xs → AllByRecursion (λ x. x.second < high) xs → length xs + low < high
fewer size low high [] some order above below = omega (arith, some)
fewer size low high (x ∷ xs) some order above below =
    let rest : length xs + x.second < high = fewer size x.second high xs below.0 order.1 (all_weaken (λ (later : Bucket). IsSoonAfter size x later.second) (λ (later : Bucket). x.second < later.second) (λ later soon. soon.after) xs order.0) below.1 in
    omega (arith, rest, above.0)

pub few_in_order : (size : ℕ) (xs : List Bucket) → 1 ≤ size → AreInOrder size xs → length xs ≤ size
few_in_order size [] some order = omega arith
few_in_order size (x ∷ xs) some order =
    let rest : length xs + x.second < x.second + size =
    fewer size x.second (x.second + size) xs (omega (arith, some)) order.1
    (all_weaken (λ (later : Bucket). IsSoonAfter size x later.second) (λ (later : Bucket). x.second < later.second) (λ later soon. soon.after) xs order.0)
    (all_weaken (λ (later : Bucket). IsSoonAfter size x later.second) (λ (later : Bucket). later.second < x.second + size) (λ later soon. soon.soon) xs order.0) in
    omega (arith, rest)

-- ---- the bucket that takes a note

-- it is the last one, or an empty one behind all
pub data Opens (second : ℕ) (xs : List Bucket) : Bucket → List Bucket → Type 0 where
  at_last : (bucket : Bucket) (front : List Bucket) → xs ≡ front ++ bucket ∷ [] → second ≤ bucket.second → Opens second xs bucket front
  anew : takes_second second (last_item xs) ≡ false → Opens second xs (record { second = second; totals = no_totals }) xs

opens_test : (second : ℕ) (xs : List Bucket) (bucket : Bucket) (b : Bool) → nat_le second bucket.second ≡ b → last_item xs ≡ Some bucket → Opens second xs (cond b bucket (record { second = second; totals = no_totals })) (cond b (take (length xs - 1) xs) xs)
opens_test second xs bucket true is e = at_last bucket (take (length xs - 1) xs) (last_behind xs bucket e) (leb-true second bucket.second is)
opens_test second xs bucket false is e = anew (rw (e, is) refl)

opens_by : (second : ℕ) (xs : List Bucket) (o : Option Bucket) → last_item xs ≡ o → Opens second xs (newest_or_empty second o) (cond (takes_second second o) (take (length xs - 1) xs) xs)
opens_by second xs None e = anew (rw e refl)
opens_by second xs (Some bucket) e = opens_test second xs bucket (nat_le second bucket.second) refl e

pub opens : (second : ℕ) (xs : List Bucket) → Opens second xs (newest second xs) (older second xs)
opens second xs = opens_by second xs (last_item xs) refl

never_none : {X : Type 0} (xs : List X) (i : ℕ) → i < length xs → slice_get xs i ≡ None → ⊥
never_none [] i h e = omega (arith, h)
never_none (x ∷ xs) zero h e = let bad : ◌≡◌ {A = Option _} (Some x) None = e in cc
never_none (x ∷ xs) (suc i) h e = never_none xs i (omega (arith, h)) e

no_last : {X : Type 0} (xs : List X) → last_item xs ≡ None → xs ≡ []
no_last [] e = refl
no_last (x ∷ xs) e = absurd (never_none (x ∷ xs) (length (x ∷ xs) - 1) (omega arith) e)

earlier_by : (size second : ℕ) (xs : List Bucket) → AreInOrder size xs → (o : Option Bucket) → last_item xs ≡ o → takes_second second o ≡ false → AllByRecursion (λ x. x.second < second) xs
earlier_by size second xs order None e later = rw (no_last xs e) tt
earlier_by size second xs order (Some bucket) e later =
    let front : List Bucket = take (length xs - 1) xs in
    let whole : xs ≡ front ++ bucket ∷ [] = last_behind xs bucket e in
    let earlier : bucket.second < second = leb-false second bucket.second later in
    let ordered : AreInOrder size (front ++ bucket ∷ []) = subst (AreInOrder size) whole order in
    let before : AllByRecursion (λ y. y.second < second) front =
    all_weaken (Before size bucket.second) (λ (y : Bucket). y.second < second) (λ y soon. omega (arith, soon.after, earlier)) front (all_before_last size front bucket ordered) in
    subst (AllByRecursion (λ (y : Bucket). y.second < second)) (sym whole) (all_push (λ (y : Bucket). y.second < second) front bucket before earlier)

-- where none takes a note of a second, each is of an earlier one
pub earlier : (size second : ℕ) (xs : List Bucket) → AreInOrder size xs → takes_second second (last_item xs) ≡ false → AllByRecursion (λ x. x.second < second) xs
earlier size second xs order later = earlier_by size second xs order (last_item xs) refl later
