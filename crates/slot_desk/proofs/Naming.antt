-- The place of a name in a list of names that are read off other things.
use Rattle.std.proofs.Common.{◌≡◌, suc, ◌+◌, nat_lt, not, cond, Bool, List, [], ◌∷◌, map, length, Some, None, refl, ap}
use Rattle.std.specs.List.{position, prefix_len}

passed_names : {A B : Type 0} (test : B → Bool) (name : A → B) (xs : List A) → prefix_len test (map name xs) ≡ prefix_len (λ x. test (name x)) xs
passed_names test name [] = refl
passed_names test name (x ∷ xs) = ap (λ n. cond (test (name x)) (1 + n) 0) (passed_names test name xs)

as_many : {A B : Type 0} (name : A → B) (xs : List A) → length (map name xs) ≡ length xs
as_many name [] = refl
as_many name (x ∷ xs) = ap suc (as_many name xs)

-- where something stands among the names
pub position_named : {A B : Type 0} (test : B → Bool) (name : A → B) (xs : List A) → position test (map name xs) ≡ position (λ x. test (name x)) xs
position_named test name xs =
    let place = passed_names (λ y. not (test y)) name xs in
    let end_ = as_many name xs in
    λ i. cond (nat_lt (place i) (end_ i)) (Some (place i)) None
