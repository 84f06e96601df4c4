-- Lists that begin alike.
use Rattle.std.proofs.Common.{◌≡◌, refl, ap, ◌∙◌, ℕ, zero, suc, List, [], ◌∷◌, ◌++◌, take}
use Rattle.bpf_asm.proofs.Relation.{head_same, tail_same}

pub longer_alike : {A : Type 0} (n : ℕ) (xs ys zs : List A) → take n xs ≡ take n ys → take n (xs ++ zs) ≡ take n (ys ++ zs)
longer_alike zero xs ys zs e = refl
longer_alike (suc n) [] [] zs e = refl
longer_alike (suc n) [] (y ∷ ys) zs e = absurd cc
longer_alike (suc n) (x ∷ xs) [] zs e = absurd cc
longer_alike {A} (suc n) (x ∷ xs) (y ∷ ys) zs e =
    ap (λ (a : A). a ∷ take n (xs ++ zs)) (head_same x y (take n xs) (take n ys) e)
    ∙ ap (λ (rest : List A). y ∷ rest) (longer_alike n xs ys zs (tail_same x y (take n xs) (take n ys) e))
