use Rattle.std.proofs.Common.{◌≡◌, ℕ, zero, suc, slice_get, subst, ◌+◌, ◌≤◌, ◌&&◌, ◌||◌, not, Bool, true, false, cond, Option, Some, None, option_to_list, List, [], ◌∷◌, ◌++◌, length, arith, refl, ap, ◌∙◌, rules}
use Rattle.std.specs.List.{filter, filter_map, cons_option, list_any, AllByRecursion}
use Rattle.std.proofs.lemmas.List.Elements.{filter_map-append}
use Rattle.std.proofs.lemmas.List.Filters.{length-filter_both}

pub length_filter_le : {X : Type 0} (p : X → Bool) (xs : List X) → length (filter p xs) ≤ length xs
length_filter_le p xs = omega (arith, length-filter_both p (λ x. not (p x)) (λ x. refl) xs)

pub all_kept : {X : Type 0} (xs : List X) → filter (λ x. not false) xs ≡ xs
all_kept [] = refl
all_kept (x ∷ xs) = ap (λ (ys : List _). x ∷ ys) (all_kept xs)

pub all_append : {X : Type 0} (P : X → Type 0) (xs ys : List X) → AllByRecursion P xs → AllByRecursion P ys → AllByRecursion P (xs ++ ys)
all_append P [] ys a b = b
all_append P (x ∷ xs) ys a b = (a.0, all_append P xs ys a.1 b)

pub all_weaken : {X : Type 0} (P Q : X → Type 0) → ((x : X) → P x → Q x) → (xs : List X) → AllByRecursion P xs → AllByRecursion Q xs
all_weaken P Q h [] a = tt
all_weaken P Q h (x ∷ xs) a = (h x a.0, all_weaken P Q h xs a.1)

dropped_head : {X : Type 0} (x : X) (b : Bool) (xs ys : List X) → b ≡ false → xs ≡ ys → cond b (x ∷ xs) xs ≡ ys
dropped_head x true xs ys e h = let bad : ◌≡◌ {A = Bool} true false = e in cc
dropped_head x false xs ys e h = h

-- where nothing passes, nothing is kept
pub none_kept : {X : Type 0} (test : X → Bool) (P : X → Type 0) → ((x : X) → P x → test x ≡ false) → (xs : List X) → AllByRecursion P xs → filter test xs ≡ []
none_kept test P h [] a = refl
none_kept test P h (x ∷ xs) a = dropped_head x (test x) (filter test xs) [] (h x a.0) (none_kept test P h xs a.1)

pub all_kept_by : {X : Type 0} (P : X → Type 0) (test : X → Bool) (xs : List X) → AllByRecursion P xs → AllByRecursion P (filter test xs)
all_kept_by P test [] a = tt
all_kept_by P test (x ∷ xs) a = search (rules, all_kept_by P test xs a.1)

-- two tests at once, or one after another
pub kept_again : {X : Type 0} (p q : X → Bool) (xs : List X) → filter (λ x. p x && q x) xs ≡ filter q (filter p xs)
kept_again p q [] = refl
kept_again p q (x ∷ xs) = search (rules, kept_again p q xs)

-- tests that agree keep the same
pub same_kept : {X : Type 0} (p q : X → Bool) → ((x : X) → p x ≡ q x) → (xs : List X) → filter p xs ≡ filter q xs
same_kept p q h [] = refl
same_kept p q h (x ∷ xs) = search (rules, same_kept p q h xs)

shorter_head : {X : Type 0} (x : X) (a b rest : Bool) (xs kept : List X) → a ≡ not b → length kept ≤ length xs → (rest ≡ true → length kept + 1 ≤ length xs) → (b || rest) ≡ true → length (cond a (x ∷ kept) kept) + 1 ≤ length (x ∷ xs)
shorter_head x true true rest xs kept e le on h = let bad : ◌≡◌ {A = Bool} true false = e in cc
shorter_head x false true rest xs kept e le on h = omega (arith, le)
shorter_head x true false rest xs kept e le on h = omega (arith, on h)
shorter_head x false false rest xs kept e le on h = let bad : ◌≡◌ {A = Bool} false true = e in cc

-- a test that one fails keeps fewer
pub fewer_kept : {X : Type 0} (test : X → Bool) (xs : List X) → list_any test xs ≡ true → length (filter (λ x. not (test x)) xs) + 1 ≤ length xs
fewer_kept test [] e = let bad : ◌≡◌ {A = Bool} false true = e in cc
fewer_kept test (x ∷ xs) e = shorter_head x (not (test x)) (test x) (list_any test xs) xs (filter (λ y. not (test y)) xs) refl (length_filter_le (λ y. not (test y)) xs) (fewer_kept test xs) e

one_or_none : {Y : Type 0} (o : Option Y) → cons_option o [] ≡ option_to_list o
one_or_none None = refl
one_or_none (Some y) = refl

pub option_of_one : {X Y : Type 0} (h : X → Option Y) (x : X) → filter_map h (x ∷ []) ≡ option_to_list (h x)
option_of_one h x = one_or_none (h x)

-- what one element more adds
pub map_with : {X Y : Type 0} (h : X → Option Y) (xs : List X) (x : X) → filter_map h (xs ++ x ∷ []) ≡ filter_map h xs ++ option_to_list (h x)
map_with h xs x = filter_map-append h xs (x ∷ []) ∙ ap (λ (ys : List _). filter_map h xs ++ ys) (option_of_one h x)

pub one_kept : {X : Type 0} (test : X → Bool) (x : X) → test x ≡ true → filter test (x ∷ []) ≡ x ∷ []
one_kept test x e = rw e refl

-- what holds of all elements holds of the one at a place
pub got : {A : Type 0} (P : A → Type 0) (xs : List A) (place : ℕ) (x : A) → AllByRecursion P xs → slice_get xs place ≡ Some x → P x
got P [] place x all e = let bad : ◌≡◌ {A = Option _} None (Some x) = e in cc
got P (y ∷ xs) zero x all e = let same : ◌≡◌ {A = Option _} (Some y) (Some x) = e in let is : y ≡ x = cc in subst P is all.0
got P (y ∷ xs) (suc place) x all e = got P xs place x all.1 e

-- an element that is there stays there with more elements behind it
pub still_there : {A : Type 0} (xs ys : List A) (place : ℕ) (x : A) → slice_get xs place ≡ Some x → slice_get (xs ++ ys) place ≡ Some x
still_there [] ys place x e = let bad : ◌≡◌ {A = Option _} None (Some x) = e in cc
still_there (y ∷ xs) ys zero x e = e
still_there (y ∷ xs) ys (suc place) x e = still_there xs ys place x e
