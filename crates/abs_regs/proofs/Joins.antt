-- Lists that are joined element by element, in a loop.
use Rattle.std.proofs.Common.{◌≡◌, ◌≢◌, ℕ, zero, suc, ◌<◌, ◌≤◌, ◌+◌, List, [], ◌∷◌, length, get_or, inl, inr, refl, ap, sym, ◌∙◌, arith, length-set, get_or-set_other}
use Rattle.std.proofs.lemmas.Bool.{cases_lt}
use Rattle.std.proofs.lemmas.Grind.{get_or-set_at}
use Rattle.std.proofs.lemmas.List.{same_lists}
use Rattle.std.specs.List.{zip}
use Rattle.std.specs.Prelude.{map, slice_set}

abbrev pub joined_by : {A : Type 0} → (A → A → A) → List A → List A → List A
joined_by {A} f a b = map (λ (p : A × A). f p.0 p.1) (zip a b)

pub length-joined : {A : Type 0} (f : A → A → A) (a b : List A) → length a ≡ length b → length (joined_by f a b) ≡ length a
length-joined f [] b e = refl
length-joined f (x ∷ a) [] e = absurd (omega arith)
length-joined f (x ∷ a) (y ∷ b) e = ap suc (length-joined f a b (omega arith))

pub joined_at : {A : Type 0} (f : A → A → A) (a b : List A) (k : ℕ) (d x y : A) → k < length a → k < length b → get_or (joined_by f a b) k d ≡ f (get_or a k x) (get_or b k y)
joined_at f [] b k d x y p q = absurd (omega arith)
joined_at f (u ∷ a) [] k d x y p q = absurd (omega arith)
joined_at f (u ∷ a) (v ∷ b) zero d x y p q = refl
joined_at f (u ∷ a) (v ∷ b) (suc k) d x y p q = joined_at f a b k d x y (omega arith) (omega arith)

-- an element inside a list is the same whatever stands for those past its end
pub get_or-default : {A : Type 0} (xs : List A) (i k : ℕ) (d e : A) → k ≡ i → i < length xs → get_or xs i d ≡ get_or xs k e
get_or-default xs i k d e same h = at_one xs i d e h ∙ ap (λ (n : ℕ). get_or xs n e) (sym same)
  where
    at_one : {A : Type 0} (xs : List A) (i : ℕ) (d e : A) → i < length xs → get_or xs i d ≡ get_or xs i e
    at_one [] i d e h = absurd (omega arith)
    at_one (x ∷ xs) zero d e h = refl
    at_one (x ∷ xs) (suc i) d e h = at_one xs i d e (omega arith)

-- the elements below a counter are joined, and the others are still the first list's
pub record JoinedTo {A : Type 0} (f : A → A → A) (one other now : List A) (i : ℕ) : Type 0 where
  pub same : length now ≡ length one
  pub below : (k : ℕ) (d : A) → k < i → get_or now k d ≡ f (get_or one k d) (get_or other k d)
  pub above : (k : ℕ) (d : A) → i ≤ k → get_or now k d ≡ get_or one k d

pub joined_none : {A : Type 0} (f : A → A → A) (one other : List A) → JoinedTo f one other one 0
joined_none f one other = record { same = refl; below = λ k d h. absurd (omega arith); above = λ k d h. refl }

pub joined_more : {A : Type 0} (f : A → A → A) (one other now : List A) (i : ℕ) (x y v : A) → JoinedTo f one other now i → i < length one → i < length other
    → v ≡ f (get_or now i x) (get_or other i y) → JoinedTo f one other (slice_set now i v) (i + 1)
joined_more f one other now i x y v p h g e = record {
  same = length-set now i v ∙ p.same;
  below = λ k d lt. elim (cases_lt k i) [
    | inl before ↦ (let away : k ≢ i = omega arith in get_or-set_other now i k v d away ∙ p.below k d before)
    | inr after ↦
        (let same : k ≡ i = omega arith in
        let within : i < length now = (let s = p.same in omega (arith, s, h)) in
        get_or-set_at now i k v d same within
        ∙ (e
        ∙ (ap (λ (a : _). f a (get_or other i y)) (get_or-default now i k x d same within ∙ p.above k d after)
        ∙ ap (f (get_or one k d)) (get_or-default other i k y d same g))))
  ];
  above = λ k d le. (let away : k ≢ i = omega arith in get_or-set_other now i k v d away ∙ p.above k d (omega arith));
}

-- an element that its join leaves as it is
pub joined_kept : {A : Type 0} (f : A → A → A) (one other now : List A) (i : ℕ) (d : A) → JoinedTo f one other now i → i < length one
    → ((b : A) → f (get_or now i d) b ≡ get_or now i d) → JoinedTo f one other now (i + 1)
joined_kept f one other now i d p h kept = record {
  same = p.same;
  below = λ k e lt. elim (cases_lt k i) [
    | inl before ↦ p.below k e before
    | inr after ↦
        (let same : k ≡ i = omega arith in
        let within : i < length now = (let s = p.same in omega (arith, s, h)) in
        let here = get_or-default now k i e d (sym same) (omega (arith, same, within)) in
        here
        ∙ (sym (kept (get_or other k e))
        ∙ ap (λ (a : _). f a (get_or other k e)) (sym here ∙ p.above k e after)))
  ];
  above = λ k e le. p.above k e (omega arith);
}

pub joined_all : {A : Type 0} (f : A → A → A) (one other now : List A) (i : ℕ) → JoinedTo f one other now i → length one ≡ length other → length one ≤ i → now ≡ joined_by f one other
joined_all f one other now i p same all =
    same_lists _ _ (p.same ∙ sym (length-joined f one other same))
    (λ k d h. p.below k d (let s = p.same in omega (arith, s, h, all)) ∙ sym (joined_at f one other k d d d (let s = p.same in omega (arith, s, h)) (let s = p.same in omega (arith, s, h, same))))
