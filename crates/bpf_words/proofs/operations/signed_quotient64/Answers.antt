use Rattle.bpf_words.proofs.Quotients.{quotient64}
use Rattle.bpf_words.proofs.operations.signed_quotient64.Goals as goal
use Rattle.std.proofs.Common.{rules}

pub returns : goal.returns
returns c =
    quotient64 c.args.a c.args.b c.cast_unsigned.result c.cast_signed.result c.cast_signed-2.result c.wrapping_div.result
    (search rules) (search rules) (search rules) (search rules) (search rules) (search rules)
    c.cast_signed.ensures c.cast_signed-2.ensures c.wrapping_div.ensures c.cast_unsigned.ensures
