-- Services one after another: their names, where one of a name stands, and what each answers to a reading.
use Rattle.std.proofs.Common.{◌≡◌, ℕ, zero, suc, ◌+◌, nat_lt, Bool, not, cond, List, [], ◌∷◌, ◌++◌, map, length, take, Bor, Some, None, refl, ap, sym, subst, ◌∙◌, arith}
use Rattle.std.proofs.lemmas.List.{map-append, length-map}
use Rattle.std.proofs.lemmas.Option.{get_or_from_slice_get}
use Rattle.std.proofs.Math.Seq.{map-set_same}
use Rattle.std.specs.List.{slice_get, slice_set, position, prefix_len}
use Rattle.service.specs.Asked.{RequestData, read, ResponseData}
use Rattle.http_front.specs.Answered.{AreRead}

module _ {A B : Type 0} (f : A → B) where
  passed : (test : B → Bool) (xs : List A) → prefix_len test (map f xs) ≡ prefix_len (λ x. test (f x)) xs
  passed test [] = refl
  passed test (x ∷ xs) = ap (λ n. cond (test (f x)) (1 + n) 0) (passed test xs)

  -- the first whose name passes
  pub position_map : (test : B → Bool) (xs : List A) → position test (map f xs) ≡ position (λ x. test (f x)) xs
  position_map test xs =
      let place = passed (λ y. not (test y)) xs in
      let end_ = length-map xs f in
      λ i. cond (nat_lt (place i) (end_ i)) (Some (place i)) None

  -- one is replaced by another with the same name
  pub map_same : (xs : List A) (k : ℕ) (x y : A) → slice_get xs k ≡ Some x → f y ≡ f x → map f (slice_set xs k y) ≡ map f xs
  map_same xs k x y is same = map-set_same f xs k y x (same ∙ ap f (sym (get_or_from_slice_get xs k x x is)))

-- one element more
take_next : {A : Type 0} (n : ℕ) (xs : List A) (x : A) → slice_get xs n ≡ Some x → take (suc n) xs ≡ take n xs ++ x ∷ []
take_next n [] x is = absurd (let never : None ≡ Some x = is in cc)
take_next zero (y ∷ xs) x is = let same : y ≡ x = cc in ap (λ z. z ∷ []) same
take_next (suc n) (y ∷ xs) x is = ap (λ zs. y ∷ zs) (take_next n xs x is)

take_more : {A : Type 0} (n : ℕ) (xs : List A) (x : A) → slice_get xs n ≡ Some x → take (n + 1) xs ≡ take n xs ++ x ∷ []
take_more n xs x is = let next : n + 1 ≡ suc n = omega arith in ap (λ m. take m xs) next ∙ take_next n xs x is

pub names_more : (n : ℕ) (names : List (List ℕ)) (held later : List (Bor (List ℕ))) (name : Bor (List ℕ))
    → map (λ (text : Bor (List ℕ)). text.now) held ≡ take n names → slice_get names n ≡ Some name.now → later ≡ held ++ name ∷ []
    → map (λ (text : Bor (List ℕ)). text.now) later ≡ take (n + 1) names
names_more n names held later name before is pushed =
    ap (map (λ (text : Bor (List ℕ)). text.now)) pushed
    ∙ map-append (λ (text : Bor (List ℕ)). text.now) held (name ∷ [])
    ∙ ap (λ ns. ns ++ name.now ∷ []) before
    ∙ sym (take_more n names name.now is)

module _ {S : Type 0} (answers : S → ℕ → ℕ → RequestData → ResponseData → S → Type 0) (moment : ℕ) where
  -- one more is read
  pub read_more : (state : S) (place : ℕ) (given : List ResponseData) (between : S) (answer : ResponseData) (after : S)
      → AreRead answers state place moment given between → answers between (place + length given) moment read answer after
      → AreRead answers state place moment (given ++ answer ∷ []) after
  read_more state place [] between answer after same answered =
      let here : place + 0 ≡ place = omega arith in
      (after, subst (λ s. answers s place moment read answer after) same (subst (λ p. answers between p moment read answer after) here answered), refl)
  read_more state place (first ∷ given) between answer after (next, one, later) answered =
      let there : place + suc (length given) ≡ suc place + length given = omega arith in
      (next, one, read_more next (suc place) given between answer after later (subst (λ p. answers between p moment read answer after) there answered))
