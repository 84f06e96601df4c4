use Rattle.std.proofs.Common.{◌∙◌, ◌<◌, ap, sym, subst, ℕ}
use Rattle.std.specs.Char.{digit_value}
use Rattle.bpf_asm.proofs.Digits.{ends_at, goes_on}
use Rattle.bpf_asm.proofs.tokens.numeral.Goals as goal

pub returns-in_err-digit : goal.returns-in_err-digit
returns-in_err-digit c =
    let fails = subst (λ (n : ℕ). digit_value n < c.args.radix → ⊥) c.from.ensures c.in_err-digit.ensures.value in
    c.from_residual.ensures ∙ sym (ends_at c.args.radix c.args.digits.now c.loop-digit.digit-index c.loop-digit-test.true fails)

pub loop-digit-preserved : goal.loop-digit-preserved
loop-digit-preserved c =
    let value = c.in_ok-digit.ensures.value in
    goes_on c.args.radix c.args.digits.now c.loop-digit.digit-index c.in_ok-digit.digit c.loop-digit.number c.with_digit-number.result c.requires.low c.loop-digit-test.true (value.1 ∙ ap digit_value c.from.ensures)
    (subst (λ (n : ℕ). n < c.args.radix) (sym value.1) value.0) c.loop-digit.invariant c.with_digit-number.ensures
