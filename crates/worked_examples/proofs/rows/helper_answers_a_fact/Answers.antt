use Rattle.std.proofs.Common.{refl}
use Rattle.bpf_profile.specs.Meaning.{effect_of, step}
use Rattle.bpf_profile.specs.Opcodes.{operation_of, comparison_of, size_of, convert_opcode, arithmetic_opcode, jump_opcode, immediate_opcode, load_opcode, store_opcode, store_register_opcode, opcode_of}
use Rattle.bpf_profile.specs.Slots.{read_fields, instruction_of}
use Rattle.book.proofs.Courses.{course}
use Rattle.service_profile.specs.Machine.{decision_by}
use Rattle.service_profile.specs.Verdicts.{ending_within, judgement}
use Rattle.service_profile.specs.Configured.{default_parts}
use Rattle.worked_examples.specs.Classifiers.{helper_is_called, helper_was_called}
use Rattle.worked_examples.proofs.Heard.{heard_on}
use Rattle.worked_examples.proofs.rows.helper_answers_a_fact.Goals as goal

pub returns : goal.returns
unfolding course decision_by judgement ending_within step effect_of instruction_of read_fields opcode_of operation_of comparison_of size_of convert_opcode arithmetic_opcode jump_opcode immediate_opcode load_opcode store_opcode store_register_opcode
returns c = heard_on default_parts helper_is_called helper_was_called refl
