-- The transfer function: the abstract state after an instruction, from the one before it, or the first check that the instruction fails.
use Rattle.std.specs.Prelude.{ℕ, nat_le, Bool, if◌then◌else◌, slice_set, Result, Ok, Err}
use Rattle.refusals.specs.declared.RefusalNumber.{RefusalNumber}
use Rattle.refusals.specs.declared.RefusalNumber.TheVariants as refusal
use Rattle.abs_domain.specs.declared.domain.Domain.{Ghosts}
use Rattle.abs_regs.specs.declared.value.AbsVal.{AbsVal}
use Rattle.abs_regs.specs.declared.value.AbsVal.TheVariants as known
use Rattle.abs_regs.specs.Transfers.{◌>>=◌, set_in, number_in, operand_in, result_in, negated_in, extended_in, reordered_in, branched_in, address_in}
use Rattle.abs_regs.specs.Values.{value_in}
use Rattle.abs_states.specs.Calls.{answer_in, called_values, written_in}
use Rattle.abs_states.specs.declared.state.AbsState.{AbsState}
use Rattle.bpf_profile.specs.declared.instruction.Comparison.{Comparison}
use Rattle.bpf_profile.specs.declared.instruction.Instruction.{Instruction}
use Rattle.bpf_profile.specs.declared.instruction.Instruction.TheVariants as instruction
use Rattle.bpf_profile.specs.declared.instruction.Operand.{Operand}
use Rattle.bpf_profile.specs.declared.instruction.Size.{Size}
use Rattle.bpf_profile.specs.declared.instruction.Width.{Width}
use Rattle.stack_track.specs.Accesses.{load_at, store_at}

-- a register that is set
abbrev pub sets_in : {X : Type 0} → AbsState X → ℕ → Result (AbsVal X) RefusalNumber → Result (AbsState X) RefusalNumber
sets_in s r value = value >>= (λ v. Ok (record { registers = slice_set s.registers r v; stack = s.stack }))

-- base and value have to be set before anything else is asked of them
abbrev pub stores_in : {X : Type 0} → Ghosts X → AbsState X → Size → ℕ → ℕ → Operand → Result (AbsState X) RefusalNumber
stores_in domain s size base distance operand =
    set_in (value_in s.registers base) >>= (λ pointer. set_in (operand_in domain s.registers operand) >>= (λ v. address_in domain pointer distance >>= (λ at. store_at s.stack at v size >>= (λ stack. Ok (record { registers = s.registers; stack = stack })))))

-- a conditional jump, whose comparison holds where it is taken
abbrev pub branches_in : {X : Type 0} → Ghosts X → AbsState X → Bool → Comparison → Width → ℕ → Operand → Result (AbsState X) RefusalNumber
branches_in domain s taken comparison width left right = branched_in domain comparison width taken s.registers left right >>= (λ registers. Ok (record { registers = registers; stack = s.stack }))

abbrev pub calls_in : {X : Type 0} → Ghosts X → ℕ → AbsState X → ℕ → Result (AbsState X) RefusalNumber
calls_in domain context s helper = answer_in domain context s helper >>= (λ a. Ok (record { registers = called_values s.registers a.answer; stack = written_in s.stack a.written }))

-- an answer is a number of at most 2
abbrev pub exits_in : {X : Type 0} → Ghosts X → AbsState X → Result (AbsState X) RefusalNumber
exits_in domain s = number_in (value_in s.registers 0) >>= (λ n. if nat_le (domain.bounds_of n).high 2 then Ok s else Err refusal.AnswerRange)

-- the abstract state on one edge of an instruction: the jump edge if `taken`, else the fall-through edge; the context has so many bytes
unfoldable pub transfer_in : {X : Type 0} → Ghosts X → ℕ → AbsState X → Bool → Instruction → Result (AbsState X) RefusalNumber
transfer_in domain context s taken (instruction.Arithmetic operation width dst operand) = sets_in s dst (result_in domain operation width (value_in s.registers dst) (operand_in domain s.registers operand))
transfer_in domain context s taken (instruction.Negate width dst) = sets_in s dst (negated_in domain width (value_in s.registers dst))
transfer_in domain context s taken (instruction.MoveSigned width size dst src) = sets_in s dst (extended_in domain width size (value_in s.registers src))
transfer_in domain context s taken (instruction.Convert order size dst) = sets_in s dst (reordered_in domain order size (value_in s.registers dst))
transfer_in domain context s taken (instruction.LoadImmediate dst n) = Ok (record { registers = slice_set s.registers dst (known.Number (domain.of_word n)); stack = s.stack })
transfer_in domain context s taken (instruction.Load size extension dst base distance) = sets_in s dst (address_in domain (value_in s.registers base) distance >>= (λ at. load_at domain context s.stack at extension size))
transfer_in domain context s taken (instruction.Store size base distance operand) = stores_in domain s size base distance operand
transfer_in domain context s taken (instruction.Jump width distance) = Ok s
transfer_in domain context s taken (instruction.Branch comparison width left right distance) = branches_in domain s taken comparison width left right
transfer_in domain context s taken (instruction.Call helper) = calls_in domain context s helper
transfer_in domain context s taken instruction.Exit = exits_in domain s
