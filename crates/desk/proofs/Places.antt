-- Lists of names that are read off other things.
use Rattle.std.proofs.Common.{◌≡◌, suc, ◌+◌, nat_lt, not, cond, Bool, List, [], ◌∷◌, ◌++◌, map, length, Some, None, refl, ap, sym, append_assoc}
use Rattle.std.specs.List.{position, prefix_len}

passed_names : {A B : Type 0} (test : B → Bool) (name : A → B) (xs : List A) → prefix_len test (map name xs) ≡ prefix_len (λ x. test (name x)) xs
passed_names test name [] = refl
passed_names test name (x ∷ xs) = ap (λ n. cond (test (name x)) (1 + n) 0) (passed_names test name xs)

as_many : {A B : Type 0} (name : A → B) (xs : List A) → length (map name xs) ≡ length xs
as_many name [] = refl
as_many name (x ∷ xs) = ap suc (as_many name xs)

-- where something stands among the names
pub position_named : {A B : Type 0} (test : B → Bool) (name : A → B) (xs : List A) → position test (map name xs) ≡ position (λ x. test (name x)) xs
position_named test name xs =
    let place = passed_names (λ y. not (test y)) name xs in
    let end_ = as_many name xs in
    λ i. cond (nat_lt (place i) (end_ i)) (Some (place i)) None

-- one name more on both sides
pub more_names : {A B C : Type 0} (f : A → C) (g : B → C) (xs : List A) (ys : List B) (x : A) (y : B) → map f xs ≡ map g ys → f x ≡ g y → map f (xs ++ x ∷ []) ≡ map g (ys ++ y ∷ [])
more_names f g [] [] x y same is = rw is refl
more_names f g [] (v ∷ ys) x y same is = let bad : ◌≡◌ {A = List _} [] (g v ∷ map g ys) = same in cc
more_names f g (u ∷ xs) [] x y same is = let bad : ◌≡◌ {A = List _} (f u ∷ map f xs) [] = same in cc
more_names f g (u ∷ xs) (v ∷ ys) x y same is =
    let both : ◌≡◌ {A = List _} (f u ∷ map f xs) (g v ∷ map g ys) = same in
    let head : f u ≡ g v = cc in
    let tail : map f xs ≡ map g ys = cc in
    rw (head, more_names f g xs ys x y tail is) refl

-- an element goes from the front of a list to the end of another
pub handed_on : {A : Type 0} (done : List A) (x : A) (later : List A) → done ++ (x ∷ later) ≡ (done ++ x ∷ []) ++ later
handed_on done x later = sym (append_assoc done (x ∷ []) later)
