-- What a slot stands for is encoded to the slot.
use Rattle.std.proofs.Common.{◌≡◌, refl, sym, ap, ◌∙◌, subst, ℕ, suc, ◌+◌, ◌-◌, ◌*◌, ◌/◌, ◌^◌, ◌<◌, ◌⊎◌, inl, inr, Bool, true, false, cond, eqb, ltb, Option, Some, None, Result, Ok, Err, pos, negsuc, ⊎_elim, arith}
use Rattle.std.specs.Prelude.{◌==◌, nat_lt, ◌&&◌, ◌||◌, IfSome}
use Rattle.std.proofs.lemmas.Bool.{eqb-true, ltb-true, ltb-false, and_parts}
use Rattle.refusals.specs.declared.RefusalNumber.{RefusalNumber}
use Rattle.refusals.specs.declared.RefusalNumber.TheVariants as refusal
use Rattle.bpf_profile.specs.declared.instruction.ByteOrder.{ByteOrder}
use Rattle.bpf_profile.specs.declared.instruction.Extension.{Extension}
use Rattle.bpf_profile.specs.declared.instruction.Extension.TheVariants as extension
use Rattle.bpf_profile.specs.declared.instruction.Instruction.{Instruction}
use Rattle.bpf_profile.specs.declared.instruction.Instruction.TheVariants as instruction
use Rattle.bpf_profile.specs.declared.instruction.Operand.TheVariants as operand
use Rattle.bpf_profile.specs.declared.instruction.Operation.{Operation}
use Rattle.bpf_profile.specs.declared.instruction.Operation.TheVariants as operation
use Rattle.bpf_profile.specs.declared.instruction.Size.{Size}
use Rattle.bpf_profile.specs.declared.instruction.Size.TheVariants as size
use Rattle.bpf_profile.specs.declared.instruction.Width.{Width}
use Rattle.bpf_profile.specs.declared.instruction.Width.TheVariants as width
use Rattle.bpf_profile.specs.declared.opcode.Opcode.{Opcode}
use Rattle.bpf_profile.specs.declared.opcode.Opcode.TheVariants as is
use Rattle.bpf_profile.specs.declared.opcode.Source.{Source}
use Rattle.bpf_profile.specs.declared.opcode.Source.TheVariants as source
use Rattle.bpf_profile.specs.declared.slot.Slot.{Slot}
use Rattle.bpf_profile.specs.declared.slot.Slot.TheVariants.{Ins, Tail}
use Rattle.bpf_profile.specs.Opcodes.{opcode_of}
use Rattle.bpf_profile.specs.Slots.{instruction_of, read_opcode, read_fields, instruction_with, wide_instruction, arithmetic_instruction, fields_fit, registers_fit, is_left_out, is_extending_variant, is_signed_variant, bits_size}
use Rattle.bpf_profile.specs.Spelling.{IsSlot}
use Rattle.bpf_profile.specs.Words.{low, bits_in, word_of, sign_extended}
use Rattle.bpf_decode.specs.OpcodeNumbers.{is_listed}
use Rattle.bpf_decode.specs.Encoding.{slot_of, unsigned_operation, variant_field, Stands, IsExtended, IsImmediate, IsOffset, IsLoaded, IsConverted}
use Rattle.bpf_decode.proofs.Numbers.{names_number}
use Rattle.bpf_decode.proofs.Readings.{Passes}

-- ---- words and fields

extended_from : (is_low : Bool) (n : ℕ) → n < 2 ^ 32 → ltb n (2 ^ 31) ≡ is_low → low 32 (word_of (cond is_low (pos n) (negsuc (2 ^ 32 - suc n)))) ≡ n
extended_from true n h e = omega arith
extended_from false n h e = let high = ltb-false n (2 ^ 31) e in omega arith

extended_from_16 : (is_low : Bool) (n : ℕ) → n < 2 ^ 16 → ltb n (2 ^ 15) ≡ is_low → low 16 (word_of (cond is_low (pos n) (negsuc (2 ^ 16 - suc n)))) ≡ n
extended_from_16 true n h e = omega arith
extended_from_16 false n h e = let high = ltb-false n (2 ^ 15) e in omega arith

pub immediate_back : (n : ℕ) → n < 2 ^ 32 → low 32 (sign_extended 32 n) ≡ n
immediate_back n h =
    let small : low 32 n ≡ n = omega arith in
    rw small (extended_from (ltb n (2 ^ 31)) n h refl)

pub offset_back : (n : ℕ) → n < 2 ^ 16 → low 16 (sign_extended 16 n) ≡ n
offset_back n h =
    let small : low 16 n ≡ n = omega arith in
    rw small (extended_from_16 (ltb n (2 ^ 15)) n h refl)

pub is_immediate : (n : ℕ) → n < 2 ^ 32 → IsImmediate (sign_extended 32 n)
is_immediate n h = ap (sign_extended 32) (immediate_back n h)

pub is_offset : (n : ℕ) → n < 2 ^ 16 → IsOffset (sign_extended 16 n)
is_offset n h = ap (sign_extended 16) (offset_back n h)

-- ---- tests that passed

or_true : (a b : Bool) → (a || b) ≡ true → (a ≡ true) ⊎ (b ≡ true)
or_true true b e = inl refl
or_true false b e = inr e

zero_and : (n : ℕ) (b : Bool) → ((n == 0) && b) ≡ true → (n ≡ 0) × (b ≡ true)
zero_and n b e = let parts = and_parts (eqb n 0) b e in (eqb-true n 0 parts.0, parts.1)

written : (dst src : ℕ) → (nat_lt dst 10 && nat_lt src 11) ≡ true → (dst < 10) × (src < 11)
written dst src e = let parts = and_parts (ltb dst 10) (ltb src 11) e in (ltb-true dst 10 parts.0, ltb-true src 11 parts.1)

read : (dst src : ℕ) → (nat_lt dst 11 && nat_lt src 11) ≡ true → (dst < 11) × (src < 11)
read dst src e = let parts = and_parts (ltb dst 11) (ltb src 11) e in (ltb-true dst 11 parts.0, ltb-true src 11 parts.1)

ok_same : {A E : Type 0} (a b : A) → ◌≡◌ {A = Result A E} (Ok a) (Ok b) → a ≡ b
ok_same a b e = cc

-- ---- one instruction after another, at the fields that it uses

plain : (o : Operation) (w : Width) (s : Source) → is_listed (is.Arithmetic o w s) ≡ true → (unsigned_operation o ≡ o) × (variant_field o ≡ 0)
plain operation.SignedDivide w s e = absurd cc
plain operation.SignedModulo w s e = absurd cc
plain o w s e = (refl, refl)

arithmetic_k : (o : Operation) (w : Width) (dst imm : ℕ) (next : Option Slot) → is_listed (is.Arithmetic o w source.Immediate) ≡ true → dst < 10 → imm < 2 ^ 32
    → Stands (slot_of (is.Arithmetic o w source.Immediate) dst 0 0 imm) next (instruction.Arithmetic o w dst (operand.Immediate (sign_extended 32 imm)))
arithmetic_k o w dst imm next listed d h =
    let p = plain o w source.Immediate listed in
    record {
      instruction = (d, is_immediate imm h);
      first = ap (λ (q : Operation). slot_of (is.Arithmetic q w source.Immediate) dst 0 (variant_field o) (low 32 (sign_extended 32 imm))) p.0
          ∙ ap (λ (n : ℕ). slot_of (is.Arithmetic o w source.Immediate) dst 0 n (low 32 (sign_extended 32 imm))) p.1
          ∙ ap (slot_of (is.Arithmetic o w source.Immediate) dst 0 0) (immediate_back imm h);
      second = tt;
    }

arithmetic_x : (o : Operation) (w : Width) (dst src : ℕ) (next : Option Slot) → is_listed (is.Arithmetic o w source.Register) ≡ true → dst < 10 → src < 11
    → Stands (slot_of (is.Arithmetic o w source.Register) dst src 0 0) next (instruction.Arithmetic o w dst (operand.Register src))
arithmetic_x o w dst src next listed d s =
    let p = plain o w source.Register listed in
    record {
      instruction = (d, s);
      first = ap (λ (q : Operation). slot_of (is.Arithmetic q w source.Register) dst src (variant_field o) 0) p.0
          ∙ ap (λ (n : ℕ). slot_of (is.Arithmetic o w source.Register) dst src n 0) p.1;
      second = tt;
    }

-- where a slot's fields are given by equations
same_fields : (opcode : Opcode) (dst src off imm dst' src' off' imm' : ℕ) (next : Option Slot) (i : Instruction) → dst ≡ dst' → src ≡ src' → off ≡ off' → imm ≡ imm'
    → Stands (slot_of opcode dst' src' off' imm') next i → Stands (slot_of opcode dst src off imm) next i
same_fields opcode dst src off imm dst' src' off' imm' next i a b c d stands = record {
  instruction = stands.instruction;
  first = stands.first ∙ (let e : slot_of opcode dst' src' off' imm' ≡ slot_of opcode dst src off imm = cc in e);
  second = stands.second;
}

same_instruction : (slot : Slot) (next : Option Slot) (i j : Instruction) → i ≡ j → Stands slot next i → Stands slot next j
same_instruction slot next i j e stands = subst (λ (k : Instruction). Stands slot next k) e stands

-- ---- arithmetic

signed_k : (o : Operation) (w : Width) (dst src off imm : ℕ) (next : Option Slot) → dst < 10 → imm < 2 ^ 32 → src ≡ 0 → is_signed_variant o off ≡ true
    → Stands (slot_of (is.Arithmetic o w source.Immediate) dst src off imm) next (arithmetic_instruction o w source.Immediate (record { dst = dst; src = src; off = off; imm = imm }))
signed_k operation.Divide w dst src off imm next d h z v =
    let one = eqb-true off 1 v in
    same_fields (is.Arithmetic operation.Divide w source.Immediate) dst src off imm dst 0 1 imm next _ refl z one refl
    (same_instruction (slot_of (is.Arithmetic operation.Divide w source.Immediate) dst 0 1 imm) next (instruction.Arithmetic operation.SignedDivide w dst (operand.Immediate (sign_extended 32 imm))) _
    (ap (λ (n : ℕ). arithmetic_instruction operation.Divide w source.Immediate (record { dst = dst; src = src; off = n; imm = imm })) (sym one))
    (record { instruction = (d, is_immediate imm h); first = ap (slot_of (is.Arithmetic operation.Divide w source.Immediate) dst 0 1) (immediate_back imm h); second = tt }))
signed_k operation.Modulo w dst src off imm next d h z v =
    let one = eqb-true off 1 v in
    same_fields (is.Arithmetic operation.Modulo w source.Immediate) dst src off imm dst 0 1 imm next _ refl z one refl
    (same_instruction (slot_of (is.Arithmetic operation.Modulo w source.Immediate) dst 0 1 imm) next (instruction.Arithmetic operation.SignedModulo w dst (operand.Immediate (sign_extended 32 imm))) _
    (ap (λ (n : ℕ). arithmetic_instruction operation.Modulo w source.Immediate (record { dst = dst; src = src; off = n; imm = imm })) (sym one))
    (record { instruction = (d, is_immediate imm h); first = ap (slot_of (is.Arithmetic operation.Modulo w source.Immediate) dst 0 1) (immediate_back imm h); second = tt }))
signed_k o w dst src off imm next d h z v = absurd cc

signed_x : (o : Operation) (w : Width) (dst src off imm : ℕ) (next : Option Slot) → dst < 10 → src < 11 → imm ≡ 0 → is_signed_variant o off ≡ true
    → Stands (slot_of (is.Arithmetic o w source.Register) dst src off imm) next (arithmetic_instruction o w source.Register (record { dst = dst; src = src; off = off; imm = imm }))
signed_x operation.Divide w dst src off imm next d s z v =
    let one = eqb-true off 1 v in
    same_fields (is.Arithmetic operation.Divide w source.Register) dst src off imm dst src 1 0 next _ refl refl one z
    (same_instruction (slot_of (is.Arithmetic operation.Divide w source.Register) dst src 1 0) next (instruction.Arithmetic operation.SignedDivide w dst (operand.Register src)) _
    (ap (λ (n : ℕ). arithmetic_instruction operation.Divide w source.Register (record { dst = dst; src = src; off = n; imm = imm })) (sym one))
    (record { instruction = (d, s); first = refl; second = tt }))
signed_x operation.Modulo w dst src off imm next d s z v =
    let one = eqb-true off 1 v in
    same_fields (is.Arithmetic operation.Modulo w source.Register) dst src off imm dst src 1 0 next _ refl refl one z
    (same_instruction (slot_of (is.Arithmetic operation.Modulo w source.Register) dst src 1 0) next (instruction.Arithmetic operation.SignedModulo w dst (operand.Register src)) _
    (ap (λ (n : ℕ). arithmetic_instruction operation.Modulo w source.Register (record { dst = dst; src = src; off = n; imm = imm })) (sym one))
    (record { instruction = (d, s); first = refl; second = tt }))
signed_x o w dst src off imm next d s z v = absurd cc

zero_k : (o : Operation) (w : Width) (dst src off imm : ℕ) (next : Option Slot) → is_listed (is.Arithmetic o w source.Immediate) ≡ true → dst < 10 → imm < 2 ^ 32 → src ≡ 0 → off ≡ 0
    → Stands (slot_of (is.Arithmetic o w source.Immediate) dst src off imm) next (arithmetic_instruction o w source.Immediate (record { dst = dst; src = src; off = off; imm = imm }))
zero_k o w dst src off imm next listed d h z none =
    same_fields (is.Arithmetic o w source.Immediate) dst src off imm dst 0 0 imm next _ refl z none refl
    (same_instruction (slot_of (is.Arithmetic o w source.Immediate) dst 0 0 imm) next (instruction.Arithmetic o w dst (operand.Immediate (sign_extended 32 imm))) _
    (ap (λ (n : ℕ). arithmetic_instruction o w source.Immediate (record { dst = dst; src = src; off = n; imm = imm })) (sym none))
    (arithmetic_k o w dst imm next listed d h))

zero_x : (o : Operation) (w : Width) (dst src off imm : ℕ) (next : Option Slot) → is_listed (is.Arithmetic o w source.Register) ≡ true → dst < 10 → src < 11 → imm ≡ 0 → off ≡ 0
    → Stands (slot_of (is.Arithmetic o w source.Register) dst src off imm) next (arithmetic_instruction o w source.Register (record { dst = dst; src = src; off = off; imm = imm }))
zero_x o w dst src off imm next listed d s z none =
    same_fields (is.Arithmetic o w source.Register) dst src off imm dst src 0 0 next _ refl refl none z
    (same_instruction (slot_of (is.Arithmetic o w source.Register) dst src 0 0) next (instruction.Arithmetic o w dst (operand.Register src)) _
    (ap (λ (n : ℕ). arithmetic_instruction o w source.Register (record { dst = dst; src = src; off = n; imm = imm })) (sym none))
    (arithmetic_x o w dst src next listed d s))

-- a move that extends so many bits
move_of : (w : Width) (size : Size) (dst src imm : ℕ) (next : Option Slot) (off : ℕ) → IsExtended w size → dst < 10 → src < 11 → imm ≡ 0 → off ≡ bits_in size
    → arithmetic_instruction operation.Move w source.Register (record { dst = dst; src = src; off = bits_in size; imm = imm }) ≡ instruction.MoveSigned w size dst src
    → Stands (slot_of (is.Arithmetic operation.Move w source.Register) dst src off imm) next (arithmetic_instruction operation.Move w source.Register (record { dst = dst; src = src; off = off; imm = imm }))
move_of w size dst src imm next off extended d s z e is_move =
    same_fields (is.Arithmetic operation.Move w source.Register) dst src off imm dst src (bits_in size) 0 next _ refl refl e z
    (same_instruction (slot_of (is.Arithmetic operation.Move w source.Register) dst src (bits_in size) 0) next (instruction.MoveSigned w size dst src) _
    (sym is_move ∙ ap (λ (n : ℕ). arithmetic_instruction operation.Move w source.Register (record { dst = dst; src = src; off = n; imm = imm })) (sym e))
    (record { instruction = (extended, d, s); first = refl; second = tt }))

extends_x : (o : Operation) (w : Width) (dst src off imm : ℕ) (next : Option Slot) → dst < 10 → src < 11 → imm ≡ 0 → is_extending_variant o w off ≡ true
    → Stands (slot_of (is.Arithmetic o w source.Register) dst src off imm) next (arithmetic_instruction o w source.Register (record { dst = dst; src = src; off = off; imm = imm }))
extends_x operation.Move width.Bits32 dst src off imm next d s z v =
    ⊎_elim (λ e. move_of width.Bits32 size.Byte dst src imm next off tt d s z (eqb-true off 8 e) refl)
    (λ e. move_of width.Bits32 size.HalfWord dst src imm next off tt d s z (eqb-true off 16 e) refl) (or_true (eqb off 8) (eqb off 16) v)
extends_x operation.Move width.Bits64 dst src off imm next d s z v =
    ⊎_elim (λ e. move_of width.Bits64 size.Byte dst src imm next off tt d s z (eqb-true off 8 e) refl)
    (λ v'. ⊎_elim (λ e. move_of width.Bits64 size.HalfWord dst src imm next off tt d s z (eqb-true off 16 e) refl)
    (λ e. move_of width.Bits64 size.Word dst src imm next off tt d s z (eqb-true off 32 e) refl) (or_true (eqb off 16) (eqb off 32) v'))
    (or_true (eqb off 8) ((off == 16) || (off == 32)) v)
extends_x o w dst src off imm next d s z v = absurd cc

arithmetic_stands : (o : Operation) (w : Width) (at : Source) (dst src off imm : ℕ) (next : Option Slot) → is_listed (is.Arithmetic o w at) ≡ true → dst < 10 → src < 11 → imm < 2 ^ 32
    → fields_fit (is.Arithmetic o w at) (record { dst = dst; src = src; off = off; imm = imm }) ≡ true
    → Stands (slot_of (is.Arithmetic o w at) dst src off imm) next (arithmetic_instruction o w at (record { dst = dst; src = src; off = off; imm = imm }))
arithmetic_stands o w source.Immediate dst src off imm next listed d s h fit =
    let parts = zero_and src ((off == 0) || is_signed_variant o off) fit in
    ⊎_elim (λ e. zero_k o w dst src off imm next listed d h parts.0 (eqb-true off 0 e))
    (λ v. signed_k o w dst src off imm next d h parts.0 v) (or_true (eqb off 0) (is_signed_variant o off) parts.1)
arithmetic_stands o w source.Register dst src off imm next listed d s h fit =
    let parts = zero_and imm ((off == 0) || (is_signed_variant o off || is_extending_variant o w off)) fit in
    ⊎_elim (λ e. zero_x o w dst src off imm next listed d s parts.0 (eqb-true off 0 e))
    (λ v. ⊎_elim (λ p. signed_x o w dst src off imm next d s parts.0 p) (λ p. extends_x o w dst src off imm next d s parts.0 p)
    (or_true (is_signed_variant o off) (is_extending_variant o w off) v))
    (or_true (eqb off 0) (is_signed_variant o off || is_extending_variant o w off) parts.1)

-- ---- the other opcodes

convert_stands : (order : ByteOrder) (dst src off imm : ℕ) (next : Option Slot) → dst < 10
    → fields_fit (is.Convert order) (record { dst = dst; src = src; off = off; imm = imm }) ≡ true
    → Stands (slot_of (is.Convert order) dst src off imm) next (instruction.Convert order (bits_size imm) dst)
convert_stands order dst src off imm next d fit =
    let a = zero_and src ((off == 0) && ((imm == 16) || ((imm == 32) || (imm == 64)))) fit in
    let b = zero_and off ((imm == 16) || ((imm == 32) || (imm == 64))) a.1 in
    ⊎_elim (λ e. sized size.HalfWord imm a.0 b.0 (eqb-true imm 16 e) tt)
    (λ v. ⊎_elim (λ e. sized size.Word imm a.0 b.0 (eqb-true imm 32 e) tt) (λ e. sized size.DoubleWord imm a.0 b.0 (eqb-true imm 64 e) tt) (or_true (eqb imm 32) (eqb imm 64) v))
    (or_true (eqb imm 16) ((imm == 32) || (imm == 64)) b.1)
  where
    sized : (size : Size) (bits : ℕ) → src ≡ 0 → off ≡ 0 → bits ≡ bits_in size → IsConverted size → Stands (slot_of (is.Convert order) dst src off bits) next (instruction.Convert order (bits_size bits) dst)
    sized size.Byte bits zs zo e converted = absurd converted
    sized size.HalfWord bits zs zo e converted = rw (zs, zo, e) (record { instruction = (tt, d); first = refl; second = tt })
    sized size.Word bits zs zo e converted = rw (zs, zo, e) (record { instruction = (tt, d); first = refl; second = tt })
    sized size.DoubleWord bits zs zo e converted = rw (zs, zo, e) (record { instruction = (tt, d); first = refl; second = tt })

wide_low : (high imm : ℕ) → imm < 2 ^ 32 → low 32 (high * 2 ^ 32 + imm) ≡ imm
wide_low high imm h = omega arith

wide_high : (high imm : ℕ) → imm < 2 ^ 32 → (high * 2 ^ 32 + imm) / 2 ^ 32 ≡ high
wide_high high imm h = omega arith

wide_stands : (dst src off imm : ℕ) (next : Option Slot) (i : Instruction) → dst < 10 → imm < 2 ^ 32 → IfSome next IsSlot → src ≡ 0 → off ≡ 0
    → wide_instruction (record { dst = dst; src = src; off = off; imm = imm }) next ≡ Ok i → Stands (slot_of is.LoadImmediate dst src off imm) next i
wide_stands dst src off imm None i d h fits zs zo e = absurd (let g : ◌≡◌ {A = Result Instruction RefusalNumber} (Err refusal.BadTail) (Ok i) = e in cc)
wide_stands dst src off imm (Some (Ins op' dst' src' off' imm')) i d h fits zs zo e = absurd (let g : ◌≡◌ {A = Result Instruction RefusalNumber} (Err refusal.BadTail) (Ok i) = e in cc)
wide_stands dst src off imm (Some (Tail high)) i d h fits zs zo e =
    same_fields is.LoadImmediate dst src off imm dst 0 0 imm (Some (Tail high)) i refl zs zo refl
    (same_instruction (slot_of is.LoadImmediate dst 0 0 imm) (Some (Tail high)) (instruction.LoadImmediate dst (high * 2 ^ 32 + imm)) i (ok_same {E = RefusalNumber} _ _ e)
    (record {
      instruction = (d, omega arith);
      first = ap (slot_of is.LoadImmediate dst 0 0) (wide_low high imm h);
      second = ap (λ (n : ℕ). Some (Tail n)) (sym (wide_high high imm h));
    }))

loaded : (size : Size) (e : Extension) → is_listed (is.Load size e) ≡ true → IsLoaded size e
loaded size.DoubleWord extension.Sign h = absurd cc
loaded size.DoubleWord extension.Zero h = tt
loaded size.Byte e h = tt
loaded size.HalfWord e h = tt
loaded size.Word e h = tt

-- ---- any opcode

opcode_stands : (opcode : Opcode) (dst src off imm : ℕ) (next : Option Slot) (i : Instruction) → is_listed opcode ≡ true → off < 2 ^ 16 → imm < 2 ^ 32 → IfSome next IsSlot
    → Passes opcode dst src off imm → instruction_with opcode (record { dst = dst; src = src; off = off; imm = imm }) next ≡ Ok i
    → Stands (slot_of opcode dst src off imm) next i
opcode_stands (is.Arithmetic o w at) dst src off imm next i listed ho hi fits passes e =
    let r = written dst src passes.registers in
    same_instruction _ next _ i (ok_same {E = RefusalNumber} _ _ e) (arithmetic_stands o w at dst src off imm next listed r.0 r.1 hi passes.fit)
opcode_stands (is.Negate w) dst src off imm next i listed ho hi fits passes e =
    let r = written dst src passes.registers in
    let a = zero_and src ((off == 0) && (imm == 0)) passes.fit in
    let b = zero_and off (imm == 0) a.1 in
    same_fields (is.Negate w) dst src off imm dst 0 0 0 next i refl a.0 b.0 (eqb-true imm 0 b.1)
    (same_instruction (slot_of (is.Negate w) dst 0 0 0) next _ i (ok_same {E = RefusalNumber} _ _ e) (record { instruction = r.0; first = refl; second = tt }))
opcode_stands (is.Convert order) dst src off imm next i listed ho hi fits passes e =
    let r = written dst src passes.registers in
    same_instruction _ next _ i (ok_same {E = RefusalNumber} _ _ e) (convert_stands order dst src off imm next r.0 passes.fit)
opcode_stands is.LoadImmediate dst src off imm next i listed ho hi fits passes e =
    let r = written dst src passes.registers in
    let a = zero_and src (off == 0) passes.fit in
    wide_stands dst src off imm next i r.0 hi fits a.0 (eqb-true off 0 a.1) e
opcode_stands (is.Load size extension) dst src off imm next i listed ho hi fits passes e =
    let r = written dst src passes.registers in
    same_fields (is.Load size extension) dst src off imm dst src off 0 next i refl refl refl (eqb-true imm 0 passes.fit)
    (same_instruction (slot_of (is.Load size extension) dst src off 0) next _ i (ok_same {E = RefusalNumber} _ _ e)
    (record { instruction = (loaded size extension listed, r.0, r.1, is_offset off ho); first = ap (λ (n : ℕ). slot_of (is.Load size extension) dst src n 0) (offset_back off ho); second = tt }))
opcode_stands (is.Store size source.Immediate) dst src off imm next i listed ho hi fits passes e =
    let r = read dst src passes.registers in
    same_fields (is.Store size source.Immediate) dst src off imm dst 0 off imm next i refl (eqb-true src 0 passes.fit) refl refl
    (same_instruction (slot_of (is.Store size source.Immediate) dst 0 off imm) next _ i (ok_same {E = RefusalNumber} _ _ e)
    (record {
      instruction = (r.0, is_offset off ho, is_immediate imm hi);
      first = ap (λ (n : ℕ). slot_of (is.Store size source.Immediate) dst 0 n (low 32 (sign_extended 32 imm))) (offset_back off ho)
          ∙ ap (slot_of (is.Store size source.Immediate) dst 0 off) (immediate_back imm hi);
      second = tt;
    }))
opcode_stands (is.Store size source.Register) dst src off imm next i listed ho hi fits passes e =
    let r = read dst src passes.registers in
    same_fields (is.Store size source.Register) dst src off imm dst src off 0 next i refl refl refl (eqb-true imm 0 passes.fit)
    (same_instruction (slot_of (is.Store size source.Register) dst src off 0) next _ i (ok_same {E = RefusalNumber} _ _ e)
    (record { instruction = (r.0, is_offset off ho, r.1); first = ap (λ (n : ℕ). slot_of (is.Store size source.Register) dst src n 0) (offset_back off ho); second = tt }))
opcode_stands (is.Jump width.Bits32) dst src off imm next i listed ho hi fits passes e =
    let a = zero_and dst ((src == 0) && (off == 0)) passes.fit in
    let b = zero_and src (off == 0) a.1 in
    same_fields (is.Jump width.Bits32) dst src off imm 0 0 0 imm next i a.0 b.0 (eqb-true off 0 b.1) refl
    (same_instruction (slot_of (is.Jump width.Bits32) 0 0 0 imm) next _ i (ok_same {E = RefusalNumber} _ _ e)
    (record { instruction = is_immediate imm hi; first = ap (slot_of (is.Jump width.Bits32) 0 0 0) (immediate_back imm hi); second = tt }))
opcode_stands (is.Jump width.Bits64) dst src off imm next i listed ho hi fits passes e =
    let a = zero_and dst ((src == 0) && (imm == 0)) passes.fit in
    let b = zero_and src (imm == 0) a.1 in
    same_fields (is.Jump width.Bits64) dst src off imm 0 0 off 0 next i a.0 b.0 refl (eqb-true imm 0 b.1)
    (same_instruction (slot_of (is.Jump width.Bits64) 0 0 off 0) next _ i (ok_same {E = RefusalNumber} _ _ e)
    (record { instruction = is_offset off ho; first = ap (λ (n : ℕ). slot_of (is.Jump width.Bits64) 0 0 n 0) (offset_back off ho); second = tt }))
opcode_stands (is.Branch c w source.Immediate) dst src off imm next i listed ho hi fits passes e =
    let r = read dst src passes.registers in
    same_fields (is.Branch c w source.Immediate) dst src off imm dst 0 off imm next i refl (eqb-true src 0 passes.fit) refl refl
    (same_instruction (slot_of (is.Branch c w source.Immediate) dst 0 off imm) next _ i (ok_same {E = RefusalNumber} _ _ e)
    (record {
      instruction = (r.0, is_immediate imm hi, is_offset off ho);
      first = ap (λ (n : ℕ). slot_of (is.Branch c w source.Immediate) dst 0 n (low 32 (sign_extended 32 imm))) (offset_back off ho)
          ∙ ap (slot_of (is.Branch c w source.Immediate) dst 0 off) (immediate_back imm hi);
      second = tt;
    }))
opcode_stands (is.Branch c w source.Register) dst src off imm next i listed ho hi fits passes e =
    let r = read dst src passes.registers in
    same_fields (is.Branch c w source.Register) dst src off imm dst src off 0 next i refl refl refl (eqb-true imm 0 passes.fit)
    (same_instruction (slot_of (is.Branch c w source.Register) dst src off 0) next _ i (ok_same {E = RefusalNumber} _ _ e)
    (record { instruction = (r.0, r.1, is_offset off ho); first = ap (λ (n : ℕ). slot_of (is.Branch c w source.Register) dst src n 0) (offset_back off ho); second = tt }))
opcode_stands is.Call dst src off imm next i listed ho hi fits passes e =
    let a = zero_and dst ((src == 0) && (off == 0)) passes.fit in
    let b = zero_and src (off == 0) a.1 in
    same_fields is.Call dst src off imm 0 0 0 imm next i a.0 b.0 (eqb-true off 0 b.1) refl
    (same_instruction (slot_of is.Call 0 0 0 imm) next _ i (ok_same {E = RefusalNumber} _ _ e) (record { instruction = hi; first = refl; second = tt }))
opcode_stands is.Exit dst src off imm next i listed ho hi fits passes e =
    let a = zero_and dst ((src == 0) && ((off == 0) && (imm == 0))) passes.fit in
    let b = zero_and src ((off == 0) && (imm == 0)) a.1 in
    let c = zero_and off (imm == 0) b.1 in
    same_fields is.Exit dst src off imm 0 0 0 0 next i a.0 b.0 c.0 (eqb-true imm 0 c.1)
    (same_instruction (slot_of is.Exit 0 0 0 0) next _ i (ok_same {E = RefusalNumber} _ _ e) (record { instruction = tt; first = refl; second = tt }))

-- ---- any slot

-- tests in a row that end in an instruction all passed
tests_pass : (a b c : Bool) (r : Result Instruction RefusalNumber) (i : Instruction) → cond a (Err refusal.LeftOut) (cond b (cond c r (Err refusal.BadRegister)) (Err refusal.BadField)) ≡ Ok i
    → (a ≡ false) × (b ≡ true) × (c ≡ true) × (r ≡ Ok i)
tests_pass true b c r i e = absurd (let g : ◌≡◌ {A = Result Instruction RefusalNumber} (Err refusal.LeftOut) (Ok i) = e in cc)
tests_pass false false c r i e = absurd (let g : ◌≡◌ {A = Result Instruction RefusalNumber} (Err refusal.BadField) (Ok i) = e in cc)
tests_pass false true false r i e = absurd (let g : ◌≡◌ {A = Result Instruction RefusalNumber} (Err refusal.BadRegister) (Ok i) = e in cc)
tests_pass false true true r i e = (refl, refl, refl, e)

slot_stands : (op dst src off imm : ℕ) (next : Option Slot) (i : Instruction) (r : Result Opcode RefusalNumber) → op < 2 ^ 8 → off < 2 ^ 16 → imm < 2 ^ 32 → IfSome next IsSlot → opcode_of op ≡ r
    → read_opcode r (record { dst = dst; src = src; off = off; imm = imm }) next ≡ Ok i → Stands (Ins op dst src off imm) next i
unfolding read_fields
slot_stands op dst src off imm next i (Err number) small ho hi fits named e = absurd (let g : ◌≡◌ {A = Result Instruction RefusalNumber} (Err number) (Ok i) = e in cc)
slot_stands op dst src off imm next i (Ok opcode) small ho hi fits named e =
    let number = names_number op opcode small named in
    let tests = tests_pass (is_left_out opcode src) (fields_fit opcode (record { dst = dst; src = src; off = off; imm = imm })) (registers_fit opcode (record { dst = dst; src = src; off = off; imm = imm })) _ i e in
    subst (λ (n : ℕ). Stands (Ins n dst src off imm) next i) number.0
    (opcode_stands opcode dst src off imm next i number.1 ho hi fits (record { kept = tests.0; fit = tests.1; registers = tests.2 }) tests.3)

pub stands : (slot : Slot) (next : Option Slot) (i : Instruction) → IsSlot slot → IfSome next IsSlot → instruction_of slot next ≡ Ok i → Stands slot next i
unfolding instruction_of
stands (Ins op dst src off imm) next i is fits e = slot_stands op dst src off imm next i (opcode_of op) is.0 is.3 is.4 fits refl e
stands (Tail imm) next i is fits e = absurd (let g : ◌≡◌ {A = Result Instruction RefusalNumber} (Err refusal.UnknownOpcode) (Ok i) = e in cc)
