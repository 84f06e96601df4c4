-- One service more, of a list that opens in order.
use Rattle.std.proofs.Common.{◌≡◌, ◌∙◌, ◌++◌, List, [], ◌∷◌, map, length, replicate, append_assoc, sym, ap, refl}

-- one name more on both sides
pub more_names : {A B C : Type 0} (f : A → C) (g : B → C) (xs : List A) (ys : List B) (x : A) (y : B) → map f xs ≡ map g ys → f x ≡ g y → map f (xs ++ x ∷ []) ≡ map g (ys ++ y ∷ [])
more_names f g [] [] x y same is = rw is refl
more_names f g [] (v ∷ ys) x y same is = let bad : ◌≡◌ {A = List _} [] (g v ∷ map g ys) = same in cc
more_names f g (u ∷ xs) [] x y same is = let bad : ◌≡◌ {A = List _} (f u ∷ map f xs) [] = same in cc
more_names f g (u ∷ xs) (v ∷ ys) x y same is =
    let both : ◌≡◌ {A = List _} (f u ∷ map f xs) (g v ∷ map g ys) = same in
    let head : f u ≡ g v = cc in
    let tail : map f xs ≡ map g ys = cc in
    rw (head, more_names f g xs ys x y tail is) refl

as_alike : {B C : Type 0} (z : C) (ys : List B) → map (λ y. z) ys ≡ replicate (length ys) z
as_alike z [] = refl
as_alike z (y ∷ ys) = ap (λ l. z ∷ l) (as_alike z ys)

-- one more of the same on both sides
pub more_alike : {A B C : Type 0} (f : A → C) (z : C) (xs : List A) (ys : List B) (x : A) (y : B) → map f xs ≡ replicate (length ys) z → f x ≡ z → map f (xs ++ x ∷ []) ≡ replicate (length (ys ++ y ∷ [])) z
more_alike f z xs ys x y same is = more_names f (λ y. z) xs ys x y (same ∙ sym (as_alike z ys)) is ∙ as_alike z (ys ++ y ∷ [])

-- an element goes from the front of a list to the end of another
pub handed_on : {A : Type 0} (done : List A) (x : A) (later : List A) → done ++ (x ∷ later) ≡ (done ++ x ∷ []) ++ later
handed_on done x later = sym (append_assoc done (x ∷ []) later)
