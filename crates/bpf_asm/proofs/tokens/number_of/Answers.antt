use Rattle.std.proofs.Common.{◌∙◌, ap, sym}
use Rattle.bpf_asm.specs.Tokens.{numeral}
use Rattle.bpf_asm.proofs.Letters.{small_x, large_x, no_x}
use Rattle.bpf_asm.proofs.tokens.number_of.Goals as goal

pub returns-in-Some : goal.returns-in-Some
returns-in-Some c = c.numeral.ensures ∙ ap (numeral 16) c.in-Some.ensures.cases.1 ∙ sym (small_x c.args.run.now c.in-Some.ensures.cases.0)

pub returns-in-Some-strip_prefix : goal.returns-in-Some-strip_prefix
returns-in-Some-strip_prefix c =
    c.numeral-in-Some-strip_prefix.ensures ∙ ap (numeral 16) c.in-Some-strip_prefix.ensures.cases.1
    ∙ sym (large_x c.args.run.now c.in_default.ensures.cases c.in-Some-strip_prefix.ensures.cases.0)

pub returns : goal.returns
returns c = c.numeral-2.ensures ∙ sym (no_x c.args.run.now c.in_default.ensures.cases c.in_default-strip_prefix.ensures.cases)
