-- The views, where some of them change.
use Rattle.std.proofs.Common.{◌≡◌, ◌≢◌, ◌⊎◌, ℕ, zero, suc, ◌+◌, ◌≤◌, List, [], ◌∷◌, ◌++◌, length, set, Bool, true, false, true≢false, refl, sym, ap, ◌∙◌, subst, ⊎_elim, inl, inr, arith}
use mathlib.Core.Option.{some, some-injective, some-ne-none}
use lib.ListN.{get_elem?}
use Rattle.atomic_table.proofs.Lists.{at_set}
use Rattle.book_slot.specs.declared.view.View.{View}
use Rattle.book_slot.specs.Rules.{Each, card, Agree, Pairs, parts_of}

pub off : (b : Bool) → b ≡ true → b ≡ false → ⊥
off b t f = true≢false (sym t ∙ f)

pub never : false ≡ true → ⊥
never e = true≢false (sym e)

pub is_false : (b : Bool) → (b ≡ true → ⊥) → b ≡ false
is_false true n = absurd (n refl)
is_false false n = refl

pub set_same : {A : Type 0} (l : List A) (i : ℕ) (a b : A) → get_elem? l i ≡ some a → get_elem? (set l i b) i ≡ some b
set_same [] i a b e = absurd (some-ne-none a (sym e))
set_same (x ∷ xs) zero a b e = refl
set_same (x ∷ xs) (suc i) a b e = set_same xs i a b e

pub same_at : {A : Type 0} (l : List A) (i : ℕ) (a b : A) → get_elem? l i ≡ some a → get_elem? l i ≡ some b → a ≡ b
same_at l i a b e f = some-injective a b (sym e ∙ f)

-- what stands in a longer list: the last, or one of the others
pub at_end : {A : Type 0} (l : List A) (a b : A) (j : ℕ) → get_elem? (l ++ a ∷ []) j ≡ some b → (get_elem? l j ≡ some b) ⊎ ((j ≡ length l) × (a ≡ b))
at_end [] a b zero e = inr (refl, some-injective a b e)
at_end [] a b (suc j) e = absurd (some-ne-none b (sym e))
at_end (x ∷ xs) a b zero e = inl e
at_end (x ∷ xs) a b (suc j) e = ⊎_elim inl (λ (p : (j ≡ length xs) × (a ≡ b)). inr (ap suc p.0, p.1)) (at_end xs a b j e)

-- a fact of each view at its place stays, where the view that is changed has it again
pub places_set : (P : ℕ → View → Type 0) (views : List View) (at : ℕ) (w : View) → ((j : ℕ) (u : View) → j ≢ at → get_elem? views j ≡ some u → P j u) → P at w → (j : ℕ) (u : View) → get_elem? (set views at w) j ≡ some u → P j u
places_set P views at w others mine j u e =
    ⊎_elim
    (λ (x : (j ≡ at) × (w ≡ u)). subst (λ (y : ℕ × View). P y.0 y.1) (λ i. (sym x.0 i, x.1 i)) mine)
    (λ (x : (j ≢ at) × (get_elem? views j ≡ some u)). others j u x.0 x.1)
    (at_set views at j w u e)

pub each_set : (P : View → Type 0) (views : List View) (at : ℕ) (w : View) → Each P views → P w → Each P (set views at w)
each_set P views at w all mine = places_set (λ _. P) views at w (λ j u ne e. all j u e) mine

pub each_more : (P : View → Type 0) (views : List View) (w : View) → Each P views → P w → Each P (views ++ w ∷ [])
each_more P views w all mine j u e = ⊎_elim (all j u) (λ (x : (j ≡ length views) × (w ≡ u)). subst P x.1 mine) (at_end views w u j e)

abbrev pub void : Bool × ℕ × Bool × ℕ
void = (false, 0, false, 0)

pub agree_void-left : (j k : ℕ) (b : Bool × ℕ × Bool × ℕ) → Agree j k void b
agree_void-left j k b = record { apart = λ t. absurd (never t); below = λ t. absurd (never t); one = λ t. absurd (never t) }

pub agree_void-right : (j k : ℕ) (a : Bool × ℕ × Bool × ℕ) → Agree j k a void
agree_void-right j k a = record { apart = λ _ t. absurd (never t); below = λ _ t. absurd (never t); one = λ _ t. absurd (never t) }

-- the card of the view at a place, where the view there is changed: as it was, or none
abbrev pub Was : List View → ℕ → View → Type 0
Was views j x = ((u : View) × (get_elem? views j ≡ some u) × (card x ≡ card u)) ⊎ (card x ≡ void)

was_set : (views : List View) (at : ℕ) (v w : View) → get_elem? views at ≡ some v → (card w ≡ card v) ⊎ (card w ≡ void) → (j : ℕ) (x : View) → get_elem? (set views at w) j ≡ some x → Was views j x
was_set views at v w here kept j x e =
    places_set (Was views) views at w (λ i u ne f. inl (u, f, refl)) (⊎_elim (λ (c : card w ≡ card v). inl (v, here, c)) inr kept) j x e

pub was_agree : (views : List View) → Pairs views → (j k : ℕ) (x y : View) → Was views j x → Was views k y → Agree j k (card x) (card y)
was_agree views pairs j k x y (inl p) (inl q) = subst (λ (c : (Bool × ℕ × Bool × ℕ) × (Bool × ℕ × Bool × ℕ)). Agree j k c.0 c.1) (λ i. (sym p.2 i, sym q.2 i)) (pairs j k p.0 q.0 p.1 q.1)
was_agree views pairs j k x y (inr p) q = subst (λ c. Agree j k c (card y)) (sym p) (agree_void-left j k (card y))
was_agree views pairs j k x y (inl p) (inr q) = subst (λ c. Agree j k (card x) c) (sym q) (agree_void-right j k (card x))

-- the pairs stay in agreement, where a view keeps its card or gives it up
pub pairs_set : (views : List View) (at : ℕ) (v w : View) → get_elem? views at ≡ some v → (card w ≡ card v) ⊎ (card w ≡ void) → Pairs views → Pairs (set views at w)
pairs_set views at v w here kept pairs j k x y ej ek = was_agree views pairs j k x y (was_set views at v w here kept j x ej) (was_set views at v w here kept k y ek)

-- a view with no card comes in
pub pairs_more : (views : List View) (w : View) → card w ≡ void → Pairs views → Pairs (views ++ w ∷ [])
pairs_more views w none_left pairs j k x y ej ek = was_agree views pairs j k x y (was j x ej) (was k y ek)
  where
    was : (i : ℕ) (z : View) → get_elem? (views ++ w ∷ []) i ≡ some z → Was views i z
    was i z e = ⊎_elim (λ f. inl (z, f, refl)) (λ (p : (i ≡ length views) × (w ≡ z)). inr (ap card (sym p.1) ∙ none_left)) (at_end views w z i e)

-- the parts after a change of one view
pub parts_set : (views : List View) (at : ℕ) (v w : View) → get_elem? views at ≡ some v → parts_of (set views at w) + v.parts ≡ parts_of views + w.parts
parts_set [] at v w e = absurd (some-ne-none v (sym e))
parts_set (x ∷ xs) zero v w e = let s : x.parts ≡ v.parts = ap (λ (z : View). z.parts) (some-injective x v e) in omega (arith, s)
parts_set (x ∷ xs) (suc at) v w e = let i = parts_set xs at v w e in omega (arith, i)

pub parts_more : (views : List View) (w : View) → parts_of (views ++ w ∷ []) ≡ parts_of views + w.parts
parts_more [] w = omega arith
parts_more (x ∷ xs) w = let i = parts_more xs w in omega (arith, i)

pub parts_within : (views : List View) (j : ℕ) (v : View) → get_elem? views j ≡ some v → v.parts ≤ parts_of views
parts_within [] j v e = absurd (some-ne-none v (sym e))
parts_within (x ∷ xs) zero v e = let s : x.parts ≡ v.parts = ap (λ (z : View). z.parts) (some-injective x v e) in omega (arith, s)
parts_within (x ∷ xs) (suc j) v e = let i = parts_within xs j v e in omega (arith, i)

pub parts_both : (views : List View) (j k : ℕ) (v w : View) → j ≢ k → get_elem? views j ≡ some v → get_elem? views k ≡ some w → v.parts + w.parts ≤ parts_of views
parts_both [] j k v w ne e f = absurd (some-ne-none v (sym e))
parts_both (x ∷ xs) zero zero v w ne e f = absurd (ne refl)
parts_both (x ∷ xs) zero (suc k) v w ne e f = let s : x.parts ≡ v.parts = ap (λ (z : View). z.parts) (some-injective x v e) in let i = parts_within xs k w f in omega (arith, s, i)
parts_both (x ∷ xs) (suc j) zero v w ne e f = let s : x.parts ≡ w.parts = ap (λ (z : View). z.parts) (some-injective x w f) in let i = parts_within xs j v e in omega (arith, s, i)
parts_both (x ∷ xs) (suc j) (suc k) v w ne e f = let i = parts_both xs j k v w (λ h. ne (ap suc h)) e f in omega (arith, i)
