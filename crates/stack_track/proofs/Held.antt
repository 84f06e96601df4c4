-- The cells that are held, and those of the stack.
use Rattle.std.proofs.Common.{◌≡◌, ℕ, zero, suc, ◌<◌, ◌≤◌, ◌-◌, List, [], ◌∷◌, ◌++◌, length, get_or, inl, inr, refl, ap, sym, ◌∙◌, arith, length-set, get_or-set_other}
use Rattle.std.proofs.lemmas.Bool.{cases_lt, cases_eq}
use Rattle.std.proofs.lemmas.Grind.{get_or-set_at}
use Rattle.std.proofs.lemmas.List.{same_lists, get_or_past, get_or-take}
use Rattle.std.proofs.lemmas.Nat.{and_le_l, and_le_r}
use Rattle.std.specs.Prelude.{replicate, slice_set, take}
use Rattle.abs_domain.specs.declared.domain.Domain.{Ghosts}
use Rattle.abs_regs.proofs.Joins.{JoinedTo, joined_by, joined_at}
use Rattle.abs_regs.specs.declared.value.AbsVal.TheVariants as known
use Rattle.stack_track.specs.declared.cell.Cell.{Cell}
use Rattle.stack_track.specs.declared.cell.Cell.TheVariants as cell
use Rattle.stack_track.specs.Cells.{cell_in, joined_cell, joined_cells}
use Rattle.stack_track.specs.Held.{spread}

pub length_spread : {X : Type 0} (count : ℕ) (held : List (Cell X)) → length (spread count held) ≡ count
unfolding spread
length_spread zero held = refl
length_spread (suc count) held = ap suc (length_spread count held)

pub spread_at : {X : Type 0} (count k : ℕ) (held : List (Cell X)) (d : Cell X) → k < count → get_or (spread count held) k d ≡ cell_in held (count - suc k)
unfolding spread
spread_at zero k held d h = absurd (omega arith)
spread_at (suc count) zero held d h = ap (cell_in held) (let e : count ≡ suc count - suc zero = omega arith in e)
spread_at (suc count) (suc k) held d h = spread_at count k held d (omega arith) ∙ ap (cell_in held) (let e : count - suc k ≡ suc count - suc (suc k) = omega arith in e)

pub spread_none : {X : Type 0} (count : ℕ) → spread {X = X} count [] ≡ replicate count (cell.Bytes 0)
unfolding spread
spread_none zero = refl
spread_none (suc count) = ap (λ (more : List _). cell.Bytes 0 ∷ more) (spread_none count)

-- the stack is the same where each cell is
pub spread_same : {X : Type 0} (count : ℕ) (one other : List (Cell X)) → ((k : ℕ) → cell_in one k ≡ cell_in other k) → spread count one ≡ spread count other
unfolding spread
spread_same zero one other same = refl
spread_same {X} (suc count) one other same = ap (λ (c : Cell X). c ∷ spread count one) (same count) ∙ ap (λ (more : List (Cell X)). cell_in other count ∷ more) (spread_same count one other same)

-- a cell that is held is replaced
pub spread_set : {X : Type 0} (count number : ℕ) (held : List (Cell X)) (c : Cell X) → number < count → count - suc number < length held → spread count (slice_set held (count - suc number) c) ≡ slice_set (spread count held) number c
spread_set {X} count number held c h inside =
    same_lists _ _ (length_spread count _ ∙ sym (length-set (spread count held) number c ∙ length_spread count held))
    (λ k d lt. (let within : k < count = (let l = length_spread count (slice_set held (count - suc number) c) in omega (arith, l, lt)) in each k d within))
  where
    each : (k : ℕ) (d : Cell X) → k < count → get_or (spread count (slice_set held (count - suc number) c)) k d ≡ get_or (slice_set (spread count held) number c) k d
    each k d within = spread_at count k _ d within ∙ (elim (cases_eq k number) [
      | inl same ↦ (let at : count - suc k ≡ count - suc number = omega (arith, same) in get_or-set_at held (count - suc number) (count - suc k) c (cell.Bytes 0) at inside)
          ∙ sym (get_or-set_at (spread count held) number k c d same (let l = length_spread count held in omega (arith, l, h)))
      | inr away ↦ get_or-set_other held (count - suc number) (count - suc k) c (cell.Bytes 0) (omega (arith, away, within, h))
          ∙ (sym (spread_at count k held d within) ∙ sym (get_or-set_other (spread count held) number k c d away))
    ])

-- ---- joins

-- the join of a cell of which nothing is known
unset_joined : {X : Type 0} (domain : Ghosts X) (c : Cell X) → joined_cell domain (cell.Bytes 0) c ≡ cell.Bytes 0
unset_joined domain (cell.Bytes mask) = ap cell.Bytes (let le = and_le_l 0 mask in omega (arith, le))
unset_joined domain (cell.Kept known.Unset) = refl
unset_joined domain (cell.Kept (known.Number a)) = refl
unset_joined domain (cell.Kept (known.Stack offset)) = refl
unset_joined domain (cell.Kept (known.Context a)) = refl

joined_unset : {X : Type 0} (domain : Ghosts X) (c : Cell X) → joined_cell domain c (cell.Bytes 0) ≡ cell.Bytes 0
joined_unset domain (cell.Bytes mask) = ap cell.Bytes (let le = and_le_r mask 0 in omega (arith, le))
joined_unset domain (cell.Kept known.Unset) = refl
joined_unset domain (cell.Kept (known.Number a)) = refl
joined_unset domain (cell.Kept (known.Stack offset)) = refl
joined_unset domain (cell.Kept (known.Context a)) = refl

-- of a cell that isn't held in both nothing is known in the join
pub joined_held : {X : Type 0} (domain : Ghosts X) (one other : List (Cell X)) (k : ℕ) → cell_in (joined_cells domain one other) k ≡ joined_cell domain (cell_in one k) (cell_in other k)
joined_held domain [] other k = sym (unset_joined domain (cell_in other k))
joined_held domain (x ∷ one) [] k = sym (joined_unset domain (cell_in (x ∷ one) k))
joined_held domain (x ∷ one) (y ∷ other) zero = refl
joined_held domain (x ∷ one) (y ∷ other) (suc k) = joined_held domain one other k

spread_joined : {X : Type 0} (domain : Ghosts X) (count : ℕ) (one other : List (Cell X)) → spread count (joined_cells domain one other) ≡ joined_cells domain (spread count one) (spread count other)
unfolding spread
spread_joined domain zero one other = refl
spread_joined {X} domain (suc count) one other =
    ap (λ (c : Cell X). c ∷ spread count (joined_cells domain one other)) (joined_held domain one other count)
    ∙ ap (λ (more : List (Cell X)). joined_cell domain (cell_in one count) (cell_in other count) ∷ more) (spread_joined domain count one other)

-- the cells that are held in both are joined
pub spread_join : {X : Type 0} (domain : Ghosts X) (count : ℕ) (one other short joined : List (Cell X)) → short ≡ take (length other) one → joined ≡ joined_cells domain short other → spread count joined ≡ joined_cells domain (spread count one) (spread count other)
spread_join {X} domain count one other short joined cut e =
    spread_same count joined (joined_cells domain one other)
    (λ k. ap (λ (cells : List (Cell X)). cell_in cells k) e
    ∙ (joined_held domain short other k
    ∙ (ap (λ (cells : List (Cell X)). joined_cell domain (cell_in cells k) (cell_in other k)) cut
    ∙ (each k ∙ sym (joined_held domain one other k)))))
    ∙ spread_joined domain count one other
  where
    each : (k : ℕ) → joined_cell domain (cell_in (take (length other) one) k) (cell_in other k) ≡ joined_cell domain (cell_in one k) (cell_in other k)
    each k = elim (cases_lt k (length other)) [
      | inl within ↦ ap (λ (c : Cell X). joined_cell domain c (cell_in other k)) (get_or-take (length other) one k (cell.Bytes 0) within)
      | inr past ↦
          (let none : cell_in other k ≡ cell.Bytes 0 = get_or_past other k (cell.Bytes 0) past in
          ap (joined_cell domain (cell_in (take (length other) one) k)) none
          ∙ (joined_unset domain _
          ∙ sym (ap (joined_cell domain (cell_in one k)) none ∙ joined_unset domain (cell_in one k))))
    ]

length_joined : {A : Type 0} (f : A → A → A) (a b : List A) → length a ≤ length b → length (joined_by f a b) ≡ length a
length_joined f [] b h = refl
length_joined f (x ∷ a) [] h = absurd (omega arith)
length_joined f (x ∷ a) (y ∷ b) h = ap suc (length_joined f a b (omega arith))

-- all cells are joined
pub joined_whole : {A : Type 0} (f : A → A → A) (one other now : List A) (i : ℕ) → JoinedTo f one other now i → length one ≤ length other → length one ≤ i → now ≡ joined_by f one other
joined_whole f one other now i p long all =
    same_lists _ _ (p.same ∙ sym (length_joined f one other long))
    (λ k d h. p.below k d (let s = p.same in omega (arith, s, h, all)) ∙ sym (joined_at f one other k d d d (let s = p.same in omega (arith, s, h)) (let s = p.same in omega (arith, s, h, long))))

-- ---- one cell more is held

-- nothing is known of a cell that comes
pub held_more : {X : Type 0} (held : List (Cell X)) (k : ℕ) → cell_in (held ++ (cell.Bytes 0 ∷ [])) k ≡ cell_in held k
held_more [] zero = refl
held_more [] (suc k) = refl
held_more (x ∷ held) zero = refl
held_more (x ∷ held) (suc k) = held_more held k
