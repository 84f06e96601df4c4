use Rattle.std.proofs.Common.{refl}
use Rattle.bpf_profile.specs.Meaning.{effect_of, step}
use Rattle.bpf_profile.specs.Opcodes.{operation_of, comparison_of, size_of, convert_opcode, arithmetic_opcode, jump_opcode, immediate_opcode, load_opcode, store_opcode, store_register_opcode, opcode_of}
use Rattle.bpf_profile.specs.Slots.{read_fields, instruction_of}
use Rattle.book.proofs.Courses.{course}
use Rattle.service_profile.specs.Machine.{decision_by}
use Rattle.service_profile.specs.Verdicts.{ending_within, judgement}
use Rattle.worked_examples.specs.Rows.{last_ticket_is_issued, last_ticket_was_issued}
use Rattle.worked_examples.proofs.Heard.{heard_from_ticket}
use Rattle.worked_examples.proofs.rows.worn_out_book_is_not_cut.Goals as goal

pub returns : goal.returns
unfolding course decision_by judgement ending_within step effect_of instruction_of read_fields opcode_of operation_of comparison_of size_of convert_opcode arithmetic_opcode jump_opcode immediate_opcode load_opcode store_opcode store_register_opcode
returns c = heard_from_ticket 9223372036854775808 last_ticket_is_issued last_ticket_was_issued refl
