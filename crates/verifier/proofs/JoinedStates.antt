-- Joins of abstract states are symmetric and associative where those of the domain are.
use Rattle.std.proofs.Common.{◌≡◌, ℕ, ◌==◌, Bool, true, false, cond, List, [], ◌∷◌, map, refl, sym, ap, ◌∙◌}
use Rattle.std.proofs.lemmas.Bool.{eqb-true, eqb-false}
use Rattle.std.proofs.lemmas.Nat.{and_comm, and_assoc}
use Rattle.std.specs.Int.Bits.{and_zero_l, and_zero_r}
use Rattle.std.specs.List.{zip}
use Rattle.std.specs.Prelude.{bit_and}
use Rattle.abs_domain.specs.declared.domain.Domain.{Ghosts}
use Rattle.abs_regs.specs.declared.value.AbsVal.{AbsVal}
use Rattle.abs_regs.specs.declared.value.AbsVal.TheVariants as known
use Rattle.abs_regs.specs.Values.{joined_value}
use Rattle.abs_states.specs.declared.state.AbsState.{AbsState}
use Rattle.abs_states.specs.States.{joined_state}
use Rattle.stack_track.specs.Cells.{kept, joined_cell}
use Rattle.stack_track.specs.declared.cell.Cell.{Cell}
use Rattle.stack_track.specs.declared.cell.Cell.TheVariants as cell
use Rattle.verifier.proofs.JoinOf.{Unordered}

-- ---- lists that are joined element by element, as long as the shorter one

abbrev pairwise : {A : Type 0} → (A → A → A) → List A → List A → List A
pairwise {A} f a b = map (λ (p : A × A). f p.0 p.1) (zip a b)

pairs_symmetric : {A : Type 0} (f : A → A → A) → ((a b : A) → f a b ≡ f b a) → (a b : List A) → pairwise f a b ≡ pairwise f b a
pairs_symmetric f h [] [] = refl
pairs_symmetric f h [] (y ∷ b) = refl
pairs_symmetric f h (x ∷ a) [] = refl
pairs_symmetric f h (x ∷ a) (y ∷ b) = λ i. h x y i ∷ pairs_symmetric f h a b i

pairs_associative : {A : Type 0} (f : A → A → A) → ((a b c : A) → f (f a b) c ≡ f a (f b c)) → (a b c : List A) → pairwise f (pairwise f a b) c ≡ pairwise f a (pairwise f b c)
pairs_associative f h [] b c = refl
pairs_associative f h (x ∷ a) [] c = refl
pairs_associative f h (x ∷ a) (y ∷ b) [] = refl
pairs_associative f h (x ∷ a) (y ∷ b) (z ∷ c) = λ i. h x y z i ∷ pairs_associative f h a b c i

-- ---- values of registers

module _ {X : Type 0} (domain : Ghosts X) (free : Unordered domain.joined) where
  same_offsets : (a b : ℕ) (s t : Bool) → (a == b) ≡ s → (b == a) ≡ t → ◌≡◌ {A = AbsVal X} (cond s (known.Stack a) known.Unset) (cond t (known.Stack b) known.Unset)
  same_offsets a b true true p q = ap known.Stack (eqb-true a b p)
  same_offsets a b true false p q = absurd (eqb-false b a q (sym (eqb-true a b p)))
  same_offsets a b false true p q = absurd (eqb-false a b p (sym (eqb-true b a q)))
  same_offsets a b false false p q = refl

  value_symmetric : (a b : AbsVal X) → joined_value domain a b ≡ joined_value domain b a
  value_symmetric (known.Number a) (known.Number b) = ap known.Number (free.symmetric a b)
  value_symmetric (known.Context a) (known.Context b) = ap known.Context (free.symmetric a b)
  value_symmetric (known.Stack a) (known.Stack b) = same_offsets a b (a == b) (b == a) refl refl
  value_symmetric known.Unset (known.Number b) = refl
  value_symmetric a b = refl

  -- a pointer to the stack or nothing
  abbrev pointer_if : Bool → ℕ → AbsVal X
  pointer_if test a = cond test (known.Stack a) known.Unset

  three_offsets : (a b c : ℕ) (s t : Bool) → (a == b) ≡ s → (b == c) ≡ t → joined_value domain (pointer_if s a) (known.Stack c) ≡ joined_value domain (known.Stack a) (pointer_if t b)
  three_offsets a b c true true p q = ap (λ (n : ℕ). pointer_if (a == n) a) (sym (eqb-true b c q))
  three_offsets a b c true false p q = ap (λ (n : ℕ). pointer_if (n == c) a) (eqb-true a b p) ∙ ap (λ (test : Bool). pointer_if test a) q
  three_offsets a b c false true p q = ap (λ (test : Bool). pointer_if test a) (sym p)
  three_offsets a b c false false p q = refl

  value_associative : (a b c : AbsVal X) → joined_value domain (joined_value domain a b) c ≡ joined_value domain a (joined_value domain b c)
  value_associative (known.Number a) (known.Number b) (known.Number c) = ap known.Number (free.associative a b c)
  value_associative (known.Context a) (known.Context b) (known.Context c) = ap known.Context (free.associative a b c)
  value_associative (known.Stack a) (known.Stack b) (known.Stack c) = three_offsets a b c (a == b) (b == c) refl refl
  value_associative (known.Stack a) (known.Stack b) (known.Number c) = pointer_first (a == b)
    where
      pointer_first : (test : Bool) → joined_value domain (pointer_if test a) (known.Number c) ≡ known.Unset
      pointer_first true = refl
      pointer_first false = refl
  value_associative (known.Stack a) (known.Stack b) (known.Context c) = pointer_first (a == b)
    where
      pointer_first : (test : Bool) → joined_value domain (pointer_if test a) (known.Context c) ≡ known.Unset
      pointer_first true = refl
      pointer_first false = refl
  value_associative (known.Stack a) (known.Stack b) known.Unset = pointer_first (a == b)
    where
      pointer_first : (test : Bool) → joined_value domain (pointer_if test a) known.Unset ≡ known.Unset
      pointer_first true = refl
      pointer_first false = refl
  value_associative (known.Number a) (known.Stack b) (known.Stack c) = pointer_second (b == c)
    where
      pointer_second : (test : Bool) → known.Unset ≡ joined_value domain (known.Number a) (pointer_if test b)
      pointer_second true = refl
      pointer_second false = refl
  value_associative (known.Context a) (known.Stack b) (known.Stack c) = pointer_second (b == c)
    where
      pointer_second : (test : Bool) → known.Unset ≡ joined_value domain (known.Context a) (pointer_if test b)
      pointer_second true = refl
      pointer_second false = refl
  value_associative (known.Number a) (known.Context b) (known.Context c) = refl
  value_associative (known.Context a) (known.Number b) (known.Number c) = refl
  value_associative (known.Stack a) (known.Number b) (known.Number c) = refl
  value_associative (known.Stack a) (known.Context b) (known.Context c) = refl
  value_associative a b c = refl

  -- ---- cells of the stack

  cell_symmetric : (a b : Cell X) → joined_cell domain a b ≡ joined_cell domain b a
  cell_symmetric (cell.Kept a) (cell.Kept b) = ap kept (value_symmetric a b)
  cell_symmetric (cell.Bytes m) (cell.Bytes n) = ap cell.Bytes (and_comm m n)
  cell_symmetric (cell.Kept (known.Number a)) (cell.Bytes n) = refl
  cell_symmetric (cell.Bytes m) (cell.Kept (known.Number b)) = refl
  cell_symmetric a b = refl

  -- a cell that keeps a value, or nothing, joined with one that keeps a value
  kept_first : (v c : AbsVal X) → joined_cell domain (kept v) (cell.Kept c) ≡ kept (joined_value domain v c)
  kept_first known.Unset known.Unset = refl
  kept_first known.Unset (known.Number c) = refl
  kept_first known.Unset (known.Stack c) = refl
  kept_first known.Unset (known.Context c) = refl
  kept_first (known.Number v) c = refl
  kept_first (known.Stack v) c = refl
  kept_first (known.Context v) c = refl

  kept_second : (a v : AbsVal X) → joined_cell domain (cell.Kept a) (kept v) ≡ kept (joined_value domain a v)
  kept_second a v = cell_symmetric (cell.Kept a) (kept v) ∙ (kept_first v a ∙ ap kept (value_symmetric v a))

  -- a cell that keeps what two values have in common, joined with one of which bytes are known
  two_kept : (a b : AbsVal X) (m : ℕ) → joined_cell domain (kept (joined_value domain a b)) (cell.Bytes m) ≡ joined_cell domain (cell.Kept a) (joined_cell domain (cell.Kept b) (cell.Bytes m))
  two_kept (known.Number a) (known.Number b) m = refl
  two_kept (known.Context a) (known.Context b) m = refl
  two_kept (known.Stack a) (known.Stack b) m = by_test (a == b)
    where
      by_test : (test : Bool) → joined_cell domain (kept (pointer_if test a)) (cell.Bytes m) ≡ cell.Bytes 0
      by_test true = refl
      by_test false = ap cell.Bytes (and_zero_l m)
  two_kept (known.Context a) (known.Number b) m = ap cell.Bytes (and_zero_l m)
  two_kept (known.Stack a) (known.Number b) m = ap cell.Bytes (and_zero_l m)
  two_kept known.Unset (known.Number b) m = ap cell.Bytes (and_zero_l m)
  two_kept a b m = ap cell.Bytes (and_zero_l m)

  one_between : (a c : AbsVal X) (m : ℕ) → joined_cell domain (joined_cell domain (cell.Kept a) (cell.Bytes m)) (cell.Kept c) ≡ joined_cell domain (cell.Kept a) (joined_cell domain (cell.Bytes m) (cell.Kept c))
  one_between (known.Number a) (known.Number c) m = refl
  one_between (known.Context a) (known.Number c) m = refl
  one_between (known.Stack a) (known.Number c) m = refl
  one_between known.Unset (known.Number c) m = refl
  one_between a c m = refl

  first_kept : (a : AbsVal X) (m n : ℕ) → joined_cell domain (joined_cell domain (cell.Kept a) (cell.Bytes m)) (cell.Bytes n) ≡ joined_cell domain (cell.Kept a) (cell.Bytes (bit_and m n))
  first_kept (known.Number a) m n = refl
  first_kept a m n = ap cell.Bytes (and_zero_l n)

  second_kept : (b : AbsVal X) (m n : ℕ) → joined_cell domain (joined_cell domain (cell.Bytes m) (cell.Kept b)) (cell.Bytes n) ≡ joined_cell domain (cell.Bytes m) (joined_cell domain (cell.Kept b) (cell.Bytes n))
  second_kept (known.Number b) m n = refl
  second_kept b m n = ap cell.Bytes (and_zero_l n ∙ sym (and_zero_r m))

  -- where three may be joined from the left they may be from the right
  turned : (a b c : Cell X) → joined_cell domain (joined_cell domain c b) a ≡ joined_cell domain c (joined_cell domain b a) → joined_cell domain (joined_cell domain a b) c ≡ joined_cell domain a (joined_cell domain b c)
  turned a b c h =
      cell_symmetric (joined_cell domain a b) c
      ∙ (ap (joined_cell domain c) (cell_symmetric a b)
      ∙ (sym h
      ∙ (cell_symmetric (joined_cell domain c b) a
      ∙ ap (joined_cell domain a) (cell_symmetric c b))))

  cell_associative : (a b c : Cell X) → joined_cell domain (joined_cell domain a b) c ≡ joined_cell domain a (joined_cell domain b c)
  cell_associative (cell.Kept a) (cell.Kept b) (cell.Kept c) = kept_first (joined_value domain a b) c ∙ (ap kept (value_associative a b c) ∙ sym (kept_second a (joined_value domain b c)))
  cell_associative (cell.Kept a) (cell.Kept b) (cell.Bytes m) = two_kept a b m
  cell_associative (cell.Kept a) (cell.Bytes m) (cell.Kept c) = one_between a c m
  cell_associative (cell.Kept a) (cell.Bytes m) (cell.Bytes n) = first_kept a m n
  cell_associative (cell.Bytes m) (cell.Kept b) (cell.Kept c) = turned (cell.Bytes m) (cell.Kept b) (cell.Kept c) (two_kept c b m)
  cell_associative (cell.Bytes m) (cell.Kept b) (cell.Bytes n) = second_kept b m n
  cell_associative (cell.Bytes m) (cell.Bytes n) (cell.Kept c) = turned (cell.Bytes m) (cell.Bytes n) (cell.Kept c) (first_kept c n m)
  cell_associative (cell.Bytes m) (cell.Bytes n) (cell.Bytes o) = ap cell.Bytes (and_assoc o m n)

  -- ---- states

  pub state_symmetric : (a b : AbsState X) → joined_state domain a b ≡ joined_state domain b a
  state_symmetric a b = λ i. record {
    registers = pairs_symmetric (joined_value domain) value_symmetric a.registers b.registers i;
    stack = pairs_symmetric (joined_cell domain) cell_symmetric a.stack b.stack i;
  }

  pub state_associative : (a b c : AbsState X) → joined_state domain (joined_state domain a b) c ≡ joined_state domain a (joined_state domain b c)
  state_associative a b c = λ i. record {
    registers = pairs_associative (joined_value domain) value_associative a.registers b.registers c.registers i;
    stack = pairs_associative (joined_cell domain) cell_associative a.stack b.stack c.stack i;
  }

  pub states_unordered : Unordered (joined_state domain)
  states_unordered = record { symmetric = state_symmetric; associative = state_associative }
