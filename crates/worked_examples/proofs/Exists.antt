-- A program of two instructions that is accepted: it answers 0.
use Rattle.std.proofs.Common.{◌≡◌, ℕ, zero, suc, ◌≤◌, false, List, [], ◌∷◌, length, slice_get, Option, Some, None, IsOk, lit<, lit≤, arith, refl, sym, subst}
use Rattle.bpf_profile.specs.declared.slot.Slot.{Slot}
use Rattle.bpf_profile.specs.declared.slot.Slot.TheVariants.{Ins, Tail}
use Rattle.bpf_profile.specs.Flow.{successors, WalkFrom, IsWalk, IsBudget}
use Rattle.bpf_profile.specs.FlowFaults.{flow_fault_at, flow_fault_from, flow_fault}
use Rattle.bpf_profile.specs.Opcodes.{operation_of, comparison_of, size_of, convert_opcode, arithmetic_opcode, jump_opcode, immediate_opcode, load_opcode, store_opcode, store_register_opcode, opcode_of}
use Rattle.bpf_profile.specs.Slots.{read_fields, instruction_of}
use Rattle.bpf_profile.specs.Spelling.{is_tail, FollowsWide, IsProgram}
use Rattle.abs_states.specs.Transfers.{transfer_in}
use Rattle.verifier.specs.Analysis.{arriving, fault_at, fault_from, analysis_fault}
use Rattle.verifier.specs.Product.{product}
use Rattle.std.specs.Prelude.{Contains}
use Rattle.verifier.specs.Verifying.{IsVerification}
use Rattle.service_profile.specs.Openings.{IsOpening}
use Rattle.service_profile.specs.FirstOpening.{first_opening}
use Rattle.service_profile.specs.Configured.{default_parts}
use Rattle.worked_examples.specs.Promises.{zero_slots, zero_program}

abbrev pub zero_bytes : List ℕ
zero_bytes = 183 ∷ (0 ∷ (0 ∷ (0 ∷ (0 ∷ (0 ∷ (0 ∷ (0 ∷ (149 ∷ (0 ∷ (0 ∷ (0 ∷ (0 ∷ (0 ∷ (0 ∷ (0 ∷ [])))))))))))))))

zero_flow : flow_fault zero_slots ≡ None
unfolding successors flow_fault_at flow_fault_from instruction_of read_fields opcode_of operation_of comparison_of size_of convert_opcode arithmetic_opcode jump_opcode immediate_opcode load_opcode store_opcode store_register_opcode
zero_flow = refl

zero_analysis : analysis_fault product 128 zero_slots ≡ None
unfolding arriving fault_at fault_from transfer_in instruction_of read_fields opcode_of operation_of comparison_of size_of convert_opcode arithmetic_opcode jump_opcode immediate_opcode load_opcode store_opcode store_register_opcode
zero_analysis = refl

zero_instructions : (place : ℕ) (slot : Slot) → slice_get zero_slots place ≡ Some slot → is_tail slot ≡ false → IsOk (instruction_of slot (slice_get zero_slots (suc place)))
unfolding instruction_of read_fields opcode_of operation_of comparison_of size_of convert_opcode arithmetic_opcode jump_opcode immediate_opcode load_opcode store_opcode store_register_opcode
zero_instructions zero slot e h =
    let same : ◌≡◌ {A = Option Slot} (Some (Ins 183 0 0 0 0)) (Some slot) = e in
    let is : Ins 183 0 0 0 0 ≡ slot = cc in
    subst (λ (s : Slot). IsOk (instruction_of s (Some (Ins 149 0 0 0 0)))) is refl
zero_instructions (suc zero) slot e h =
    let same : ◌≡◌ {A = Option Slot} (Some (Ins 149 0 0 0 0)) (Some slot) = e in
    let is : Ins 149 0 0 0 0 ≡ slot = cc in
    subst (λ (s : Slot). IsOk (instruction_of s None)) is refl
zero_instructions (suc (suc place)) slot e h = let bad : ◌≡◌ {A = Option Slot} None (Some slot) = e in cc

zero_tails : (place high : ℕ) → slice_get zero_slots place ≡ Some (Tail high) → FollowsWide zero_slots place
zero_tails zero high e = let bad : ◌≡◌ {A = Option Slot} (Some (Ins 183 0 0 0 0)) (Some (Tail high)) = e in cc
zero_tails (suc zero) high e = let bad : ◌≡◌ {A = Option Slot} (Some (Ins 149 0 0 0 0)) (Some (Tail high)) = e in cc
zero_tails (suc (suc place)) high e = let bad : ◌≡◌ {A = Option Slot} None (Some (Tail high)) = e in cc

zero_is_program : IsProgram zero_slots
zero_is_program = record {
  some = lit< tt;
  few = lit≤ tt;
  fields = ((lit< tt, lit< tt, lit< tt, lit< tt, lit< tt), ((lit< tt, lit< tt, lit< tt, lit< tt, lit< tt), tt));
  instructions = zero_instructions;
  tails = zero_tails;
}

zero_after_first : successors zero_slots 0 ≡ 1 ∷ []
unfolding successors instruction_of read_fields opcode_of operation_of comparison_of size_of convert_opcode arithmetic_opcode jump_opcode immediate_opcode load_opcode store_opcode store_register_opcode
zero_after_first = refl

zero_after_second : successors zero_slots 1 ≡ []
unfolding successors instruction_of read_fields opcode_of operation_of comparison_of size_of convert_opcode arithmetic_opcode jump_opcode immediate_opcode load_opcode store_opcode store_register_opcode
zero_after_second = refl

none_in : (x : ℕ) → Contains [] x → ⊥
none_in x h = absurd (omega (arith, h.1))

one_in : (y x : ℕ) → Contains (y ∷ []) x → y ≡ x
one_in y x (zero, less, same) = same
one_in y x (suc k, less, same) = absurd (omega (arith, less))

-- no walk goes on from the second slot, and none goes past it
zero_ends : (walk : List ℕ) → WalkFrom zero_slots 1 walk → length walk ≤ 0
zero_ends [] h = omega arith
zero_ends (to ∷ walk) h = absurd (none_in to (subst (λ (slots : List ℕ). Contains slots to) zero_after_second h.0))

zero_goes_on : (walk : List ℕ) → WalkFrom zero_slots 0 walk → length walk ≤ 1
zero_goes_on [] h = omega arith
zero_goes_on (to ∷ walk) h =
    let is : 1 ≡ to = one_in 1 to (subst (λ (slots : List ℕ). Contains slots to) zero_after_first h.0) in
    let rest = zero_ends walk (subst (λ (n : ℕ). WalkFrom zero_slots n walk) (sym is) h.1) in
    omega (arith, rest)

zero_longest : (other : List ℕ) → IsWalk zero_slots other → length other ≤ 2
zero_longest [] h = omega arith
zero_longest (first ∷ walk) h = let rest = zero_goes_on walk (subst (λ (n : ℕ). WalkFrom zero_slots n walk) h.0 h.1) in omega (arith, rest)

zero_budget : IsBudget zero_slots 2
zero_budget = record {
  walk = 0 ∷ (1 ∷ []);
  walked = (refl, (subst (λ (slots : List ℕ). Contains slots 1) (sym zero_after_first) (0, lit< tt, refl), tt));
  reached = refl;
  longest = zero_longest;
}

pub zero_verified : IsVerification zero_bytes zero_program
zero_verified = record {
  spelled = record { program = zero_is_program; text = refl };
  accepted = (zero_flow, zero_analysis);
  budget = zero_budget;
}

pub zero_opening : IsOpening (first_opening default_parts zero_program)
zero_opening = record {
  config = refl;
  version = lit≤ tt;
  first_version = lit≤ tt;
  period = lit≤ tt;
  first_period = lit≤ tt;
  ticket = lit≤ tt;
  first_ticket = lit≤ tt;
  line = lit≤ tt;
  first_line = lit≤ tt;
  moment = lit< tt;
}
