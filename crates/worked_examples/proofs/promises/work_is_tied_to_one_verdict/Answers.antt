use Rattle.std.proofs.Common.{lit≤}
use Rattle.bpf_profile.specs.Meaning.{effect_of, step}
use Rattle.bpf_profile.specs.Opcodes.{operation_of, comparison_of, size_of, convert_opcode, arithmetic_opcode, jump_opcode, immediate_opcode, load_opcode, store_opcode, store_register_opcode, opcode_of}
use Rattle.bpf_profile.specs.Slots.{read_fields, instruction_of}
use Rattle.service_profile.specs.Verdicts.{ending_within, judgement}
use Rattle.worked_examples.specs.Promises.{zero_program}
use Rattle.worked_examples.specs.Services.{response}
use Rattle.worked_examples.proofs.Exists.{zero_bytes, zero_verified}
use Rattle.worked_examples.proofs.Small.{response_is_outcome, zero_untied}
use Rattle.worked_examples.proofs.promises.work_is_tied_to_one_verdict.Goals as goal

pub returns-clause-tied : goal.returns-clause-tied
unfolding judgement ending_within step effect_of instruction_of read_fields opcode_of operation_of comparison_of size_of convert_opcode arithmetic_opcode jump_opcode immediate_opcode load_opcode store_opcode store_register_opcode
returns-clause-tied c = c.judgements_are_the_meaning.ensures zero_program (response 503) (zero_bytes, zero_verified) (response_is_outcome 128 (lit≤ tt))

pub returns-clause-untied : goal.returns-clause-untied
returns-clause-untied c = zero_untied
