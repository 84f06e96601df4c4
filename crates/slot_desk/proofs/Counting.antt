-- How many places the slots have dealt and taken back.
use Rattle.std.proofs.Common.{◌≡◌, ℕ, zero, suc, ◌+◌, ◌<◌, ◌≤◌, List, [], ◌∷◌, ◌++◌, map, replicate, length, refl, sym, ap, ◌∙◌, arith}
use Rattle.std.proofs.Common.{take, drop}
use Rattle.std.proofs.lemmas.List.{length-map, length-replicate}
use Rattle.std.specs.List.{AllByRecursion}
use Rattle.book_slot.specs.Places.{SlotData}
use Rattle.slot_desk.specs.Slots.{dealt_of, back_of}

abbrev pub Leaves : ℕ → SlotData → Type 0
Leaves n d = d.back + n ≤ d.dealt

pub all_snoc : {A : Type 0} (P : A → Type 0) (xs : List A) (x : A) → AllByRecursion P xs → P x → AllByRecursion P (xs ++ x ∷ [])
all_snoc P [] x h p = (p, tt)
all_snoc P (y ∷ ys) x h p = (h.0, all_snoc P ys x h.1 p)

pub some_left : (n : ℕ) (ds : List SlotData) → 0 < n → AllByRecursion (Leaves n) ds → AllByRecursion (λ d. d.back < d.dealt) ds
some_left n [] less h = tt
some_left n (d ∷ ds) less h = let here = h.0 in (omega (arith, less, here), some_left n ds less h.1)

pub head_is : {A : Type 0} (x y : A) (xs ys : List A) → x ∷ xs ≡ y ∷ ys → x ≡ y
head_is x y xs ys e = cc

pub tail_is : {A : Type 0} (x y : A) (xs ys : List A) → x ∷ xs ≡ y ∷ ys → xs ≡ ys
tail_is x y xs ys e = cc

pub no_cons : {A : Type 0} (x : A) (xs : List A) → [] ≡ x ∷ xs → ⊥
no_cons x xs e = cc

-- each slot took one seat back
pub one_back : (n : ℕ) (ds es : List SlotData) → map back_of es ≡ map suc (map back_of ds) → map dealt_of es ≡ map dealt_of ds → AllByRecursion (Leaves (suc n)) ds → AllByRecursion (Leaves n) es
one_back n ds [] back dealt h = tt
one_back n [] (e ∷ es) back dealt h = absurd (no_cons _ _ (sym back))
one_back n (d ∷ ds) (e ∷ es) back dealt h =
    let b : e.back ≡ suc d.back = head_is _ _ (map back_of es) (map suc (map back_of ds)) back in
    let k : e.dealt ≡ d.dealt = head_is _ _ (map dealt_of es) (map dealt_of ds) dealt in
    let here = h.0 in
    (omega (arith, b, k, here), one_back n ds es (tail_is _ _ (map back_of es) (map suc (map back_of ds)) back) (tail_is _ _ (map dealt_of es) (map dealt_of ds) dealt) h.1)

pub more_back : (n : ℕ) (xs : List ℕ) → map (λ k. k + n) (map suc xs) ≡ map (λ k. k + suc n) xs
more_back n [] = refl
more_back n (x ∷ xs) = let e : suc x + n ≡ x + suc n = omega arith in λ i. e i ∷ more_back n xs i

pub none_back : (xs : List ℕ) → xs ≡ map (λ k. k + 0) xs
none_back [] = refl
none_back (x ∷ xs) = let e : x ≡ x + 0 = omega arith in λ i. e i ∷ none_back xs i

-- at the start, where all slots have given so many and taken none back
pub all_leave : (ds : List SlotData) (many given n : ℕ) → map dealt_of ds ≡ replicate many given → map back_of ds ≡ replicate many 0 → n ≤ given → AllByRecursion (Leaves n) ds
all_leave [] many given n dealt back less = tt
all_leave (d ∷ ds) zero given n dealt back less = absurd (no_cons _ _ (sym dealt))
all_leave (d ∷ ds) (suc many) given n dealt back less =
    let k : d.dealt ≡ given = head_is _ _ (map dealt_of ds) (replicate many given) dealt in
    let b : d.back ≡ 0 = head_is _ _ (map back_of ds) (replicate many 0) back in
    (omega (arith, k, b, less), all_leave ds many given n (tail_is _ _ (map dealt_of ds) (replicate many given) dealt) (tail_is _ _ (map back_of ds) (replicate many 0) back) less)

-- at the end, where each slot has taken as many back as it had given
pub all_back : (ds : List SlotData) (many given : ℕ) → map dealt_of ds ≡ replicate many given → map back_of ds ≡ map (λ k. k + given) (replicate many 0) → AllByRecursion (λ d. d.back ≡ d.dealt) ds
all_back [] many given dealt back = tt
all_back (d ∷ ds) zero given dealt back = absurd (no_cons _ _ (sym dealt))
all_back (d ∷ ds) (suc many) given dealt back =
    let k : d.dealt ≡ given = head_is _ _ (map dealt_of ds) (replicate many given) dealt in
    let b : d.back ≡ 0 + given = head_is _ _ (map back_of ds) (map (λ k. k + given) (replicate many 0)) back in
    (omega (arith, k, b), all_back ds many given (tail_is _ _ (map dealt_of ds) (replicate many given) dealt) (tail_is _ _ (map back_of ds) (map (λ k. k + given) (replicate many 0)) back))

-- a vector after its slice was lent whole
pub whole : {A : Type 0} (n : ℕ) (new old : List A) → length new ≡ length old → n ≡ length old → take n (new ++ drop (length new) old) ≡ new
whole zero [] [] l e = refl
whole (suc n) [] [] l e = refl
whole n [] (y ∷ ys) l e = absurd (omega (arith, l))
whole n (x ∷ xs) [] l e = absurd (omega (arith, l))
whole zero (x ∷ xs) (y ∷ ys) l e = absurd (omega (arith, e))
whole (suc n) (x ∷ xs) (y ∷ ys) l e = ap (λ zs. x ∷ zs) (whole n xs ys (omega (arith, l)) (omega (arith, e)))

pub as_long : {A B : Type 0} (f : A → B) (xs ys : List A) → map f xs ≡ map f ys → length xs ≡ length ys
as_long f xs ys e = sym (length-map xs f) ∙ (ap length e ∙ length-map ys f)

-- as many of one number as a vector has
pub numbered : {A : Type 0} (f : A → ℕ) (xs : List A) (len many n : ℕ) → len ≡ length xs → map f xs ≡ replicate many n → map f xs ≡ replicate len n
numbered f xs len many n long all = all ∙ ap (λ k. replicate k n) (sym (length-replicate many n) ∙ (ap length (sym all) ∙ (length-map xs f ∙ sym long)))
