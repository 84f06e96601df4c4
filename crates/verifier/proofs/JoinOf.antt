-- The join of a list is the same in any order, and of two lists it is the join of theirs.
use Rattle.std.proofs.Common.{◌≡◌, ℕ, zero, suc, ◌<◌, List, [], ◌∷◌, ◌++◌, length, get_or, set, Option, Some, None, IsPermutation, refl, sym, ap, ◌∙◌, arith}
use Rattle.std.proofs.lemmas.List.Edits.{swap_is}
use Rattle.std.proofs.lemmas.List.Sorted.{IsPermutation-keeps}
use Rattle.std.specs.Prelude.{option_to_list}
use Rattle.verifier.specs.Joins.{join_of}

-- the join of what may be there
abbrev pub also : {A : Type 0} → (A → A → A) → Option A → Option A → Option A
also join None b = b
also join (Some a) None = Some a
also join (Some a) (Some b) = Some (join a b)

-- a join that knows no order
pub record Unordered {A : Type 0} (join : A → A → A) : Type 0 where
  pub symmetric : (a b : A) → join a b ≡ join b a
  pub associative : (a b c : A) → join (join a b) c ≡ join a (join b c)

pub also_none : {A : Type 0} (join : A → A → A) (a : Option A) → also join a None ≡ a
also_none join None = refl
also_none join (Some a) = refl

pub join_options : {A : Type 0} (join : A → A → A) (a b : Option A) → join_of join (option_to_list a ++ option_to_list b) ≡ also join a b
join_options join None None = refl
join_options join None (Some b) = refl
join_options join (Some a) None = refl
join_options join (Some a) (Some b) = refl

join_cons : {A : Type 0} (join : A → A → A) (a : A) (xs : List A) → join_of join (a ∷ xs) ≡ also join (Some a) (join_of join xs)
join_cons join a [] = refl
join_cons join a (x ∷ xs) = refl

module _ {A : Type 0} (join : A → A → A) (free : Unordered join) where
  also_symmetric : (a b : Option A) → also join a b ≡ also join b a
  also_symmetric None None = refl
  also_symmetric None (Some b) = refl
  also_symmetric (Some a) None = refl
  also_symmetric (Some a) (Some b) = ap Some (free.symmetric a b)

  pub also_associative : (a b c : Option A) → also join (also join a b) c ≡ also join a (also join b c)
  also_associative None b c = refl
  also_associative (Some a) None c = refl
  also_associative (Some a) (Some b) None = refl
  also_associative (Some a) (Some b) (Some c) = ap Some (free.associative a b c)

  pub join_append : (xs ys : List A) → join_of join (xs ++ ys) ≡ also join (join_of join xs) (join_of join ys)
  join_append [] ys = refl
  join_append (x ∷ xs) ys =
      join_cons join x (xs ++ ys)
      ∙ (ap (also join (Some x)) (join_append xs ys)
      ∙ (sym (also_associative (Some x) (join_of join xs) (join_of join ys))
      ∙ ap (λ (o : Option A). also join o (join_of join ys)) (sym (join_cons join x xs))))

  -- the first two in each other's place
  crossed : (a b c : Option A) → also join a (also join b c) ≡ also join b (also join a c)
  crossed a b c = sym (also_associative a b c) ∙ (ap (λ (o : Option A). also join o c) (also_symmetric a b) ∙ also_associative b a c)

  -- an element that is taken out and one that stands in its place
  replaced : (xs : List A) (k : ℕ) (v d : A) → k < length xs → join_of join (get_or xs k d ∷ set xs k v) ≡ join_of join (v ∷ xs)
  replaced xs k v d h = join_cons join (get_or xs k d) (set xs k v) ∙ (by_place xs k h ∙ sym (join_cons join v xs))
    where
      by_place : (xs : List A) (k : ℕ) → k < length xs → also join (Some (get_or xs k d)) (join_of join (set xs k v)) ≡ also join (Some v) (join_of join xs)
      by_place [] k h = absurd (omega arith)
      by_place (x ∷ xs) zero h =
          ap (also join (Some x)) (join_cons join v xs) ∙ (crossed (Some x) (Some v) (join_of join xs) ∙ ap (also join (Some v)) (sym (join_cons join x xs)))
      by_place (x ∷ xs) (suc k) h =
          ap (also join (Some (get_or xs k d))) (join_cons join x (set xs k v))
          ∙ (crossed (Some (get_or xs k d)) (Some x) (join_of join (set xs k v))
          ∙ (ap (also join (Some x)) (by_place xs k (omega arith))
          ∙ (crossed (Some x) (Some v) (join_of join xs)
          ∙ ap (also join (Some v)) (sym (join_cons join x xs)))))

  exchanged : (xs : List A) (i j : ℕ) (d : A) → i < length xs → j < length xs → join_of join (set (set xs i (get_or xs j d)) j (get_or xs i d)) ≡ join_of join xs
  exchanged [] i j d p q = absurd (omega arith)
  exchanged (x ∷ xs) zero zero d p q = refl
  exchanged (x ∷ xs) zero (suc j) d p q = replaced xs j x d (omega arith)
  exchanged (x ∷ xs) (suc i) zero d p q = replaced xs i x d (omega arith)
  exchanged (x ∷ xs) (suc i) (suc j) d p q =
      join_cons join x _ ∙ (ap (also join (Some x)) (exchanged xs i j d (omega arith) (omega arith)) ∙ sym (join_cons join x xs))

  -- an element of a list that has one
  some_of : (xs : List A) → 0 < length xs → A
  some_of [] h = absurd (omega arith)
  some_of (x ∷ xs) h = x

  pub join_permuted : (xs ys : List A) → IsPermutation xs ys → join_of join ys ≡ join_of join xs
  join_permuted xs ys = IsPermutation-keeps xs (λ l. join_of join l ≡ join_of join xs) refl
      (λ l i j p q h.
      let d : A = some_of l (omega arith) in
      ap (join_of join) (sym (swap_is l i j d p q)) ∙ (exchanged l i j d p q ∙ h)) ys
