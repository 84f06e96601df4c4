-- What stands before and behind the first element that passes a test.
use Rattle.std.proofs.Common.{◌≡◌, ℕ, ◌≤◌, ◌+◌, ◌-◌, Bool, true, false, cond, ltb, List, [], length, take, drop, Some, None, ap, sym, refl, ◌∙◌, arith}
use Rattle.std.proofs.lemmas.Bool.Decides.{nat_tests}
use Rattle.std.specs.List.{position_or_len, before_first, after_first}
use Rattle.std.proofs.lemmas.List.{take_all, drop_all, length-drop}

module _ {X : Type 0} (p : X → Bool) where
  place-found : (xs : List X) (end : ℕ) → Some end ≡ cond (ltb (position_or_len p xs) (length xs)) (Some (position_or_len p xs)) None → end ≡ position_or_len p xs
  place-found xs end e =
      elim (ltb (position_or_len p xs) (length xs)) as (λ c. Some end ≡ cond c (Some (position_or_len p xs)) None → end ≡ position_or_len p xs) [ true ↦ λ k. cc | false ↦ λ k. cc ] e

  pub before_first-found : (xs : List X) (end : ℕ) → Some end ≡ cond (ltb (position_or_len p xs) (length xs)) (Some (position_or_len p xs)) None → take end xs ≡ before_first p xs
  before_first-found xs end e = ap (λ n. take n xs) (place-found xs end e)

  pub after_first-found : (xs : List X) (end : ℕ) → Some end ≡ cond (ltb (position_or_len p xs) (length xs)) (Some (position_or_len p xs)) None → take (length xs - (end + 1)) (drop (end + 1) xs) ≡ after_first p xs
  after_first-found xs end e =
      take_all (length xs - (end + 1)) (drop (end + 1) xs) (omega (arith, length-drop (end + 1) xs))
      ∙ ap (λ n. drop (n + 1) xs) (place-found xs end e)

  past_all : (n m : ℕ) → None ≡ cond (ltb n m) (Some n) None → m ≤ n
  past_all n m e =
      elim (ltb n m) as (λ b. ltb n m ≡ b → None ≡ cond b (Some n) None → m ≤ n) [ true ↦ λ t k. cc | false ↦ λ t k. grind (arith, nat_tests) ] refl e

  pub before_first-none : (xs : List X) → None ≡ cond (ltb (position_or_len p xs) (length xs)) (Some (position_or_len p xs)) None → xs ≡ before_first p xs
  before_first-none xs e = sym (take_all (position_or_len p xs) xs (past_all (position_or_len p xs) (length xs) e))

  pub after_first-none : (xs : List X) → None ≡ cond (ltb (position_or_len p xs) (length xs)) (Some (position_or_len p xs)) None → [] ≡ after_first p xs
  after_first-none xs e =
      let past : length xs ≤ position_or_len p xs = past_all (position_or_len p xs) (length xs) e in
      sym (drop_all (position_or_len p xs + 1) xs (omega (arith, past)))
