use Rattle.std.proofs.Common.{◌≡◌, ℕ, ◌-◌, ◌/◌, ◌^◌, ◌≤◌, sym, ap, ◌∙◌, subst, rules}
use Rattle.std.proofs.lemmas.Nat.{leading_le}
use Rattle.std.proofs.lemmas.Nat.Bits.{ones_shr}
use Rattle.std.specs.Int.{w64, leading_zeros}
use Rattle.std.specs.Int.Count.{leading_of_zero}
use Rattle.ranges.proofs.OnesOver.{ones_over_is_ones, ones_over_is_over, ones_over_is_least}
use Rattle.ranges.specs.RangeTable.{IsOnes, ones_over}
use Rattle.ranges.proofs.range.bitwise.ones_over.Goals as goal

-- 0 is over 0
over_zero : (n : ℕ) → n ≡ 0 → 0 ≡ ones_over n
over_zero n e = ap (λ k. 2 ^ (64 - k) - 1) (sym (leading_of_zero 64)) ∙ ap ones_over (sym e)

shifted_is : (n : ℕ) → (2 ^ 64 - 1) / 2 ^ leading_zeros w64 n ≡ ones_over n
shifted_is n = ones_shr 64 (leading_zeros w64 n) (leading_le 64 n)

pub returns-then-word-eq0-clause-value : goal.returns-then-word-eq0-clause-value
returns-then-word-eq0-clause-value c = over_zero c.args.word c.if-word-eq0.true

pub returns-clause-value : goal.returns-clause-value
returns-clause-value c = shifted_is c.args.word

pub returns-clause-ones : goal.returns-clause-ones
returns-clause-ones c = subst IsOnes (sym (shifted_is c.args.word)) (ones_over_is_ones c.args.word)

pub returns-clause-over : goal.returns-clause-over
returns-clause-over c = subst (λ r. c.args.word ≤ r) (sym (shifted_is c.args.word)) (ones_over_is_over c.args.word (search rules))

pub returns-clause-least : goal.returns-clause-least
returns-clause-least c = λ m ones l. subst (λ r. r ≤ m) (sym (shifted_is c.args.word)) (ones_over_is_least c.args.word m (search rules) ones l)
