-- The default classifier is accepted: its bytes, its flow and the pass over its slots have no fault, as they compute.
use Rattle.std.proofs.Common.{◌≡◌, ℕ, zero, suc, ◌+◌, ◌-◌, ◌<◌, ◌≤◌, inl, inr, List, [], ◌∷◌, Option, Some, None, refl, sym, ◌∙◌, subst, arith}
use Rattle.std.specs.Int.Count.{count_leading_zeros, count_trailing_zeros}
use Rattle.abs_domain.specs.declared.operations.Bits.{Bits}
use Rattle.abs_domain.specs.declared.operations.Bounds.{Bounds}
use Rattle.abs_states.specs.declared.state.AbsState.{AbsState}
use Rattle.abs_states.specs.Transfers.{transfer_in}
use Rattle.bpf_decode.proofs.Spelled.{spelled_slots}
use Rattle.bpf_profile.specs.declared.layout.Layout.TheVariants as layout
use Rattle.bpf_profile.specs.declared.slot.Slot.{Slot}
use Rattle.bpf_profile.specs.declared.slot.Slot.TheVariants.{Ins}
use Rattle.bpf_profile.specs.Flow.{successors}
use Rattle.bpf_profile.specs.FlowFaults.{flow_fault, flow_fault_from, flow_fault_at}
use Rattle.bpf_profile.specs.Meaning.{instruction_at}
use Rattle.bpf_profile.specs.Opcodes.{operation_of, comparison_of, size_of, arithmetic_opcode, jump_opcode, load_opcode, opcode_of}
use Rattle.bpf_profile.specs.Slots.{instruction_of, read_fields}
use Rattle.bpf_profile.specs.Spelling.{IsProgram}
use Rattle.bpf_profile.specs.SpellingFaults.{Fault, first_fault, fault_from as decoding_fault_from, slots_at}
use Rattle.known_bits.specs.KnownBitsTable.{without}
use Rattle.abs_domain.specs.declared.product.Both.{Both}
use Rattle.verifier.specs.Analysis.{sent_with, fault_with, fault_from, analysis_fault}
use Rattle.verifier.specs.DefaultClassifier.{default_classifier_bytes}
use Rattle.verifier.specs.Passes.{state_of, entry_states, delivered_all}
use Rattle.verifier.specs.Product.{product}
use Rattle.verifier.specs.Verifying.{IsProgramRefused, IsRefused}
use Rattle.verifier.proofs.Edges.{forward}
use Rattle.verifier.proofs.Known.{Sent, none_sent, sent_more, fault_here, fault_on, fault_done}

-- ---- its slots

abbrev slots : List Slot
slots =
    Ins 0x61 2 1 0 0
    ∷ Ins 0x55 2 0 4 0
    ∷ Ins 0x61 2 1 4 0
    ∷ Ins 0x35 2 0 2 500
    ∷ Ins 0xb7 0 0 0 0
    ∷ Ins 0x95 0 0 0 0
    ∷ Ins 0xb7 0 0 0 1
    ∷ Ins 0x95 0 0 0 0
    ∷ []

are_slots : slots_at 8 default_classifier_bytes ≡ slots
unfolding slots_at
are_slots = refl

decodes : first_fault default_classifier_bytes ≡ None
unfolding slots_at decoding_fault_from instruction_of read_fields opcode_of operation_of comparison_of size_of arithmetic_opcode jump_opcode load_opcode
decodes = refl

flows : flow_fault slots ≡ None
unfolding flow_fault_from flow_fault_at successors instruction_of read_fields opcode_of operation_of comparison_of size_of arithmetic_opcode jump_opcode load_opcode
flows = refl

-- ---- the pass over them

abbrev States : Type 0
States = List (Option (AbsState (Both Bounds Bits)))

abbrev passed : ℕ → States
passed zero = entry_states product 8
passed (suc n) = delivered_all product (passed n) (sent_with product 128 n (instruction_at slots n) (state_of (passed n) n))

sent : IsProgram slots → (n : ℕ) → n ≤ 8 → Sent product 128 slots (passed n) n
sent program zero h = none_sent product 128 slots (passed 0) (omega arith) refl
sent program (suc n) h = sent_more product 128 slots (passed n) (passed (suc n)) n (forward slots program flows) (omega arith) (sent program n (omega arith)) refl

fault_0 : fault_with product 128 (instruction_at slots 0) (state_of (passed 0) 0) ≡ None
unfolding transfer_in without count_leading_zeros count_trailing_zeros instruction_of read_fields opcode_of operation_of comparison_of size_of arithmetic_opcode jump_opcode load_opcode
fault_0 = refl

fault_1 : fault_with product 128 (instruction_at slots 1) (state_of (passed 1) 1) ≡ None
unfolding transfer_in without count_leading_zeros count_trailing_zeros instruction_of read_fields opcode_of operation_of comparison_of size_of arithmetic_opcode jump_opcode load_opcode
fault_1 = refl

fault_2 : fault_with product 128 (instruction_at slots 2) (state_of (passed 2) 2) ≡ None
unfolding transfer_in without count_leading_zeros count_trailing_zeros instruction_of read_fields opcode_of operation_of comparison_of size_of arithmetic_opcode jump_opcode load_opcode
fault_2 = refl

fault_3 : fault_with product 128 (instruction_at slots 3) (state_of (passed 3) 3) ≡ None
unfolding transfer_in without count_leading_zeros count_trailing_zeros instruction_of read_fields opcode_of operation_of comparison_of size_of arithmetic_opcode jump_opcode load_opcode
fault_3 = refl

fault_4 : fault_with product 128 (instruction_at slots 4) (state_of (passed 4) 4) ≡ None
unfolding transfer_in without count_leading_zeros count_trailing_zeros instruction_of read_fields opcode_of operation_of comparison_of size_of arithmetic_opcode jump_opcode load_opcode
fault_4 = refl

fault_5 : fault_with product 128 (instruction_at slots 5) (state_of (passed 5) 5) ≡ None
unfolding transfer_in without count_leading_zeros count_trailing_zeros instruction_of read_fields opcode_of operation_of comparison_of size_of arithmetic_opcode jump_opcode load_opcode
fault_5 = refl

fault_6 : fault_with product 128 (instruction_at slots 6) (state_of (passed 6) 6) ≡ None
unfolding transfer_in without count_leading_zeros count_trailing_zeros instruction_of read_fields opcode_of operation_of comparison_of size_of arithmetic_opcode jump_opcode load_opcode
fault_6 = refl

fault_7 : fault_with product 128 (instruction_at slots 7) (state_of (passed 7) 7) ≡ None
unfolding transfer_in without count_leading_zeros count_trailing_zeros instruction_of read_fields opcode_of operation_of comparison_of size_of arithmetic_opcode jump_opcode load_opcode
fault_7 = refl

-- one slot after the other
next : IsProgram slots → (n : ℕ) → n < 8 → fault_with product 128 (instruction_at slots n) (state_of (passed n) n) ≡ None
    → fault_from product 128 slots n (8 - n) ≡ fault_from product 128 slots (n + 1) (8 - (n + 1))
next program n h e = fault_on product 128 slots n h (fault_here product 128 slots (passed n) n h (sent program n (omega arith)) ∙ e)

analysed : IsProgram slots → analysis_fault product 128 slots ≡ None
analysed program =
    next program 0 (omega arith) fault_0
    ∙ (next program 1 (omega arith) fault_1
    ∙ (next program 2 (omega arith) fault_2
    ∙ (next program 3 (omega arith) fault_3
    ∙ (next program 4 (omega arith) fault_4
    ∙ (next program 5 (omega arith) fault_5
    ∙ (next program 6 (omega arith) fault_6
    ∙ (next program 7 (omega arith) fault_7
    ∙ fault_done product 128 slots 8 (omega arith))))))))

-- ---- so it is not refused

not_both : {o : Option Fault} {fault : Fault} → o ≡ None → o ≡ Some fault → ⊥
not_both {o} {fault} none some = let e : ◌≡◌ {A = Option Fault} None (Some fault) = sym none ∙ some in cc

never : (fault : Fault) → IsProgram slots → IsProgramRefused layout.One slots fault → ⊥
never fault program (inl e) = not_both flows e
never fault program (inr (accepted, e)) = not_both (analysed program) e

pub never_refused : (fault : Fault) → IsRefused layout.One default_classifier_bytes fault → ⊥
never_refused fault (inl e) = not_both decodes e
never_refused fault (inr (spelled, spells, refused)) =
    let same : spelled ≡ slots = sym (spelled_slots default_classifier_bytes spelled spells) ∙ are_slots in
    never fault (subst IsProgram same spells.program) (subst (λ (s : List Slot). IsProgramRefused layout.One s fault) same refused)
