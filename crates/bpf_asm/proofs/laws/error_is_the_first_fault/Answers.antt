use Rattle.bpf_asm.proofs.FirstFault.{first_from_error, error_from_first, empty_from_error, error_from_empty, faultless_from_ok, ok_from_faultless}
use Rattle.bpf_asm.proofs.laws.error_is_the_first_fault.Goals as goal

pub returns : goal.returns
returns c = record {
  at_a_line = λ text place kind. (first_from_error text place kind, error_from_first text place kind);
  at_no_line = λ text kind. (empty_from_error text kind, error_from_empty text kind);
  none = λ text. (faultless_from_ok text, ok_from_faultless text);
}
