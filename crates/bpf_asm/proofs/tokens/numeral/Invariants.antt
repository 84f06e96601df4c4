use Rattle.std.proofs.Common.{◌≡◌, take, true}
use Rattle.std.specs.Str.Parse.{digits_value}
use Rattle.bpf_asm.specs.Tokens.{all_digits, bounded}
use Rattle.bpf_asm.proofs.tokens.numeral.Given as goal

abbrev pub invariant-loop-digit : goal.invariant-loop-digit
invariant-loop-digit l = (all_digits l.radix (take l.digit-index l.digits) ≡ true) × (l.number ≡ bounded (digits_value l.radix (take l.digit-index l.digits)))
