-- Lists of any elements.
use Rattle.std.proofs.Common.{◌≡◌, ℕ, zero, suc, ◌+◌, ◌-◌, ◌≤◌, Bool, true, false, cond, Option, Some, None, List, [], ◌∷◌, ◌++◌, length, take, drop, slice_get, arith, refl, ap, sym, ◌∙◌, length-append, length-drop}
use Rattle.std.specs.List.{filter, AllByRecursion}
use Rattle.std.proofs.lemmas.List.{drop-drop, drop-append-le, drop_all}
use Rattle.circular_buffer.specs.Buffer.{keep_last, last_item}

pub all_weaken : {X : Type 0} (P Q : X → Type 0) → ((x : X) → P x → Q x) → (xs : List X) → AllByRecursion P xs → AllByRecursion Q xs
all_weaken P Q h [] a = tt
all_weaken P Q h (x ∷ xs) a = (h x a.0, all_weaken P Q h xs a.1)

pub all_both : {X : Type 0} (P Q R : X → Type 0) → ((x : X) → P x → Q x → R x) → (xs : List X) → AllByRecursion P xs → AllByRecursion Q xs → AllByRecursion R xs
all_both P Q R h [] a b = tt
all_both P Q R h (x ∷ xs) a b = (h x a.0 b.0, all_both P Q R h xs a.1 b.1)

pub all_push : {X : Type 0} (P : X → Type 0) (xs : List X) (x : X) → AllByRecursion P xs → P x → AllByRecursion P (xs ++ x ∷ [])
all_push P [] x a p = (p, tt)
all_push P (y ∷ xs) x a p = (a.0, all_push P xs x a.1 p)

pub all_front : {X : Type 0} (P : X → Type 0) (xs ys : List X) → AllByRecursion P (xs ++ ys) → AllByRecursion P xs
all_front P [] ys a = tt
all_front P (x ∷ xs) ys a = (a.0, all_front P xs ys a.1)

pub all_last : {X : Type 0} (P : X → Type 0) (xs : List X) (x : X) → AllByRecursion P (xs ++ x ∷ []) → P x
all_last P [] x a = a.0
all_last P (y ∷ xs) x a = all_last P xs x a.1

kept_head : {X : Type 0} (P : X → Type 0) (x : X) (b : Bool) (xs : List X) → P x → AllByRecursion P xs → AllByRecursion P (cond b (x ∷ xs) xs)
kept_head P x true xs p a = (p, a)
kept_head P x false xs p a = a

pub all_filter : {X : Type 0} (P : X → Type 0) (test : X → Bool) (xs : List X) → AllByRecursion P xs → AllByRecursion P (filter test xs)
all_filter P test [] a = tt
all_filter P test (x ∷ xs) a = kept_head P x (test x) (filter test xs) a.0 (all_filter P test xs a.1)

passed_head : {X : Type 0} (test : X → Bool) (x : X) (b : Bool) (xs : List X) → test x ≡ b → AllByRecursion (λ y. test y ≡ true) xs → AllByRecursion (λ y. test y ≡ true) (cond b (x ∷ xs) xs)
passed_head test x true xs e a = (e, a)
passed_head test x false xs e a = a

-- what a filter keeps passes its test
pub filter_passes : {X : Type 0} (test : X → Bool) (xs : List X) → AllByRecursion (λ x. test x ≡ true) (filter test xs)
filter_passes test [] = tt
filter_passes test (x ∷ xs) = passed_head test x (test x) (filter test xs) refl (filter_passes test xs)

whole_head : {X : Type 0} (x : X) (b : Bool) (xs ys : List X) → b ≡ true → ys ≡ xs → cond b (x ∷ ys) ys ≡ x ∷ xs
whole_head x b xs ys e h = rw (e, h) refl

-- where each element passes, all are kept
pub filter_whole : {X : Type 0} (test : X → Bool) (xs : List X) → AllByRecursion (λ x. test x ≡ true) xs → filter test xs ≡ xs
filter_whole test [] a = refl
filter_whole test (x ∷ xs) a = whole_head x (test x) xs (filter test xs) a.0 (filter_whole test xs a.1)

again_head : {X : Type 0} (x : X) (a b : Bool) (q : X → Bool) (xs ys : List X) → q x ≡ b → (b ≡ true → a ≡ true) → filter q xs ≡ ys → filter q (cond a (x ∷ xs) xs) ≡ cond b (x ∷ ys) ys
again_head x true b q xs ys e h same = rw (e, same) refl
again_head x false true q xs ys e h same = let bad : ◌≡◌ {A = Bool} false true = h refl in cc
again_head x false false q xs ys e h same = same

-- a narrower test after a wider one
pub filter_narrower : {X : Type 0} (p q : X → Bool) → ((x : X) → q x ≡ true → p x ≡ true) → (xs : List X) → filter q (filter p xs) ≡ filter q xs
filter_narrower p q h [] = refl
filter_narrower p q h (x ∷ xs) = again_head x (p x) (q x) q (filter p xs) (filter q xs) refl (h x) (filter_narrower p q h xs)

-- the element at a place, between those before it and those behind it
pub around : {X : Type 0} (xs : List X) (i : ℕ) (x : X) → slice_get xs i ≡ Some x → xs ≡ take i xs ++ x ∷ drop (suc i) xs
around [] i x e = let bad : ◌≡◌ {A = Option _} None (Some x) = e in cc
around (y ∷ xs) zero x e = let same : ◌≡◌ {A = Option _} (Some y) (Some x) = e in let is : y ≡ x = cc in rw is refl
around (y ∷ xs) (suc i) x e = ap (λ (ys : List _). y ∷ ys) (around xs i x e)

pub last_behind : {X : Type 0} (xs : List X) (x : X) → last_item xs ≡ Some x → xs ≡ take (length xs - 1) xs ++ x ∷ []
last_behind xs x e =
    let none : drop (suc (length xs - 1)) xs ≡ [] = drop_all (suc (length xs - 1)) xs (omega arith) in
    around xs (length xs - 1) x e ∙ ap (λ (ys : List _). take (length xs - 1) xs ++ x ∷ ys) none

-- ---- the last elements, so many

pub all_last_kept : {X : Type 0} (n : ℕ) (xs : List X) → length xs ≤ n → keep_last n xs ≡ xs
all_last_kept n xs h = let none : length xs - n ≡ 0 = omega arith in rw none refl

-- one more behind the last ones
pub last_again : {X : Type 0} (n : ℕ) (xs : List X) (x : X) → keep_last n (keep_last n xs ++ x ∷ []) ≡ keep_last n (xs ++ x ∷ [])
last_again n xs x =
    let behind : drop (length xs - n) (xs ++ x ∷ []) ≡ drop (length xs - n) xs ++ x ∷ [] = drop-append-le (length xs - n) xs (x ∷ []) (omega arith) in
    let count : (length xs - n) + (length (drop (length xs - n) xs ++ x ∷ []) - n) ≡ length (xs ++ x ∷ []) - n = omega (arith, length-append xs (x ∷ []), length-append (drop (length xs - n) xs) (x ∷ []), length-drop (length xs - n) xs) in
    ap (λ (ys : List _). drop (length (drop (length xs - n) xs ++ x ∷ []) - n) ys) (sym behind)
    ∙ drop-drop (length (drop (length xs - n) xs ++ x ∷ []) - n) (length xs - n) (xs ++ x ∷ [])
    ∙ ap (λ (k : ℕ). drop k (xs ++ x ∷ [])) count
