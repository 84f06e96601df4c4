-- What the machine computes of values that are as known doesn't trap, and is as known.
use Rattle.std.proofs.Common.{◌≡◌, ℕ, ◌-◌, ◌+◌, ◌%◌, ◌^◌, ◌==◌, Bool, true, false, cond, List, Result, Ok, Err, refl, sym, ap, ◌∙◌, subst, arith}
use Rattle.std.proofs.Math.Nat.{mod-eq_of_lt}
use Rattle.std.proofs.lemmas.Bool.{eqb-true}
use Rattle.refusals.specs.declared.RefusalNumber.{RefusalNumber}
use Rattle.refusals.specs.declared.RefusalNumber.TheVariants as refusal
use Rattle.abs_domain.specs.Arithmetic.{move_in}
use Rattle.abs_domain.proofs.Contained.{arithmetic_kept, negation_kept, signed_move_kept, byte_order_kept}
use Rattle.abs_domain.specs.declared.domain.Domain.{Ghosts}
use Rattle.abs_domain.specs.declared.operations.Binary.TheVariants as binary
use Rattle.abs_domain.specs.Operations.{word_operation}
use Rattle.abs_regs.specs.declared.value.AbsVal.{AbsVal}
use Rattle.abs_regs.specs.declared.value.AbsVal.TheVariants as known
use Rattle.abs_regs.specs.Steps.{AreAs, Gives, HasWord}
use Rattle.abs_regs.specs.Transfers.{number_in, operand_in, moved_stack, moved_context, added_stack, added_context, combined_in, moved_in, result_in, negated_in, extended_in, reordered_in}
use Rattle.abs_regs.specs.Transfers.{◌>>=◌ as ◌then◌}
use Rattle.abs_regs.specs.Values.{IsAs, value_in}
use Rattle.abs_regs.proofs.Described.{Lawful, err_not_ok, same_ok, set_held, number_held, value_of_operand, operand_held, operand_read}
use Rattle.bpf_profile.specs.declared.instruction.ByteOrder.{ByteOrder}
use Rattle.bpf_profile.specs.declared.instruction.Operand.{Operand}
use Rattle.bpf_profile.specs.declared.instruction.Operation.{Operation}
use Rattle.bpf_profile.specs.declared.instruction.Operation.TheVariants as operation
use Rattle.bpf_profile.specs.declared.instruction.Size.{Size}
use Rattle.bpf_profile.specs.declared.instruction.Width.{Width}
use Rattle.bpf_profile.specs.declared.instruction.Width.TheVariants as width
use Rattle.bpf_profile.specs.declared.machine.Region.TheVariants as region
use Rattle.bpf_profile.specs.declared.machine.TrapReason.{TrapReason}
use Rattle.bpf_profile.specs.declared.machine.TrapReason.TheVariants as trap
use Rattle.bpf_profile.specs.declared.machine.Value.{Value}
use Rattle.bpf_profile.specs.declared.machine.Value.TheVariants as value
use Rattle.bpf_profile.specs.Machine.{State, register_of, set_value, number_or, computed, moved, arithmetic_value, number_value, ◌>>=◌}
use Rattle.bpf_profile.specs.Words.{IsWord, word_sum, low, arithmetic, negation, moved_signed, converted}

-- ---- sums of words

sum_is : (a b : ℕ) → IsWord a → IsWord b → word_operation binary.Add a b ≡ word_sum a b
sum_is a b p q = ap (λ (n : ℕ). (n + low 64 b) % 2 ^ 64) (mod-eq_of_lt p) ∙ ap (λ (n : ℕ). (a + n) % 2 ^ 64) (mod-eq_of_lt q)

difference_is : (a b : ℕ) → IsWord a → IsWord b → word_operation binary.Subtract a b ≡ word_sum a (2 ^ 64 - b)
difference_is a b p q = ap (λ (n : ℕ). (n + (2 ^ 64 - low 64 b)) % 2 ^ 64) (mod-eq_of_lt p) ∙ ap (λ (n : ℕ). (a + (2 ^ 64 - n)) % 2 ^ 64) (mod-eq_of_lt q)

-- the domain's sum of an offset and a number contains where the pointer leads
pub sum_kept : {X : Type 0} (domain : Ghosts X) → Lawful domain → (a b : X) (n m : ℕ) → domain.contains a n → domain.contains b m → domain.contains (domain.computed binary.Add a b) (word_sum n m)
sum_kept domain laws a b n m h k = subst (domain.contains (domain.computed binary.Add a b)) (sum_is n m (laws.sound.words a n h) (laws.sound.words b m k)) (laws.sound.operations binary.Add a b n m h k)

difference_kept : {X : Type 0} (domain : Ghosts X) → Lawful domain → (a b : X) (n m : ℕ) → domain.contains a n → domain.contains b m → domain.contains (domain.computed binary.Subtract a b) (word_sum n (2 ^ 64 - m))
difference_kept domain laws a b n m h k = subst (domain.contains (domain.computed binary.Subtract a b)) (difference_is n m (laws.sound.words a n h) (laws.sound.words b m k)) (laws.sound.operations binary.Subtract a b n m h k)

-- a number whose bounds are equal is known
constant_is : {X : Type 0} (domain : Ghosts X) → Lawful domain → (b : X) (m : ℕ) → domain.contains b m → ((domain.bounds_of b).low == (domain.bounds_of b).high) ≡ true → (domain.bounds_of b).low ≡ m
constant_is domain laws b m k e =
    let inside = laws.sound.bounds b m k in
    let same = eqb-true (domain.bounds_of b).low (domain.bounds_of b).high e in
    omega (arith, same, inside.0, inside.1)

if_ok : {A E : Type 0} (t : Bool) (a b : A) (e : E) → cond t (Ok a) (Err e) ≡ Ok b → (t ≡ true) × (a ≡ b)
if_ok true a b e h = (refl, same_ok a b h)
if_ok false a b e h = absurd (err_not_ok e b h)

-- ---- two values

abbrev pub computed_of : Operation → Width → Value → Value → Result Value TrapReason
computed_of o w x y = set_value x >>= (λ (a : Value). set_value y >>= (λ (b : Value). computed o w a b))

gives : {X : Type 0} (domain : Ghosts X) (a b : AbsVal X) (r : Result Value TrapReason) (v : Value) → a ≡ b → r ≡ Ok v → IsAs domain a v → Gives domain b r
gives domain a b r v same is h = (v, is, subst (λ (k : AbsVal _). IsAs domain k v) same h)

stack_moved : {X : Type 0} (domain : Ghosts X) → Lawful domain → (o : Operation) (w : Width) (offset : ℕ) (b : X) (r : AbsVal X) (m : ℕ) → domain.contains b m
    → moved_stack domain o w offset b ≡ Ok r → Gives domain r (computed o w (value.Pointer region.Stack offset) (value.Number m))
stack_moved domain laws operation.Add width.Bits64 offset b r m k e =
    let ok = if_ok _ _ r refusal.BadPointerSum e in
    gives domain _ r _ (value.Pointer region.Stack (word_sum offset m)) ok.1 refl (ap (λ (n : ℕ). value.Pointer region.Stack (word_sum offset n)) (sym (constant_is domain laws b m k ok.0)))
stack_moved domain laws operation.Subtract width.Bits64 offset b r m k e =
    let ok = if_ok _ _ r refusal.BadPointerSum e in
    gives domain _ r _ (value.Pointer region.Stack (word_sum offset (2 ^ 64 - m))) ok.1 refl (ap (λ (n : ℕ). value.Pointer region.Stack (word_sum offset (2 ^ 64 - n))) (sym (constant_is domain laws b m k ok.0)))
stack_moved domain laws o w offset b r m k e = absurd (err_not_ok refusal.PointerUsed r e)

context_moved : {X : Type 0} (domain : Ghosts X) → Lawful domain → (o : Operation) (w : Width) (a b : X) (r : AbsVal X) (n m : ℕ) → domain.contains a n → domain.contains b m
    → moved_context domain o w a b ≡ Ok r → Gives domain r (computed o w (value.Pointer region.Context n) (value.Number m))
context_moved domain laws operation.Add width.Bits64 a b r n m h k e = gives domain _ r _ (value.Pointer region.Context (word_sum n m)) (same_ok _ _ e) refl (word_sum n m, refl, sum_kept domain laws a b n m h k)
context_moved domain laws operation.Subtract width.Bits64 a b r n m h k e =
    gives domain _ r _ (value.Pointer region.Context (word_sum n (2 ^ 64 - m))) (same_ok _ _ e) refl (word_sum n (2 ^ 64 - m), refl, difference_kept domain laws a b n m h k)
context_moved domain laws o w a b r n m h k e = absurd (err_not_ok refusal.PointerUsed r e)

stack_added : {X : Type 0} (domain : Ghosts X) → Lawful domain → (o : Operation) (w : Width) (a : X) (offset : ℕ) (r : AbsVal X) (n : ℕ) → domain.contains a n
    → added_stack domain o w a offset ≡ Ok r → Gives domain r (computed o w (value.Number n) (value.Pointer region.Stack offset))
stack_added domain laws operation.Add width.Bits64 a offset r n h e = stack_moved domain laws operation.Add width.Bits64 offset a r n h e
stack_added domain laws o w a offset r n h e = absurd (err_not_ok refusal.PointerUsed r e)

context_added : {X : Type 0} (domain : Ghosts X) → Lawful domain → (o : Operation) (w : Width) (a b : X) (r : AbsVal X) (n m : ℕ) → domain.contains a n → domain.contains b m
    → added_context domain o w a b ≡ Ok r → Gives domain r (computed o w (value.Number n) (value.Pointer region.Context m))
context_added domain laws operation.Add width.Bits64 a b r n m h k e = context_moved domain laws operation.Add width.Bits64 b a r m n k h e
context_added domain laws o w a b r n m h k e = absurd (err_not_ok refusal.PointerUsed r e)

-- the values that stand for two that are as known
computed_at : (o : Operation) (w : Width) (x y u v : Value) → x ≡ u → y ≡ v → computed_of o w x y ≡ computed_of o w u v
computed_at o w x y u v p q = ap (λ (a : Value). computed_of o w a y) p ∙ ap (computed_of o w u) q

given_at : {X : Type 0} (domain : Ghosts X) (r : AbsVal X) (a b : Result Value TrapReason) → a ≡ b → Gives domain r b → Gives domain r a
given_at domain r a b e g = (g.0, e ∙ g.1, g.2)

combined_gives : {X : Type 0} (domain : Ghosts X) → Lawful domain → (o : Operation) (w : Width) (a b r : AbsVal X) (x y : Value) → IsAs domain a x → IsAs domain b y
    → combined_in domain o w a b ≡ Ok r → Gives domain r (computed_of o w x y)
combined_gives domain laws o w known.Unset b r x y h k e = absurd (err_not_ok refusal.UnsetRegister r e)
combined_gives domain laws o w (known.Number a) known.Unset r x y h k e = absurd (err_not_ok refusal.UnsetRegister r e)
combined_gives domain laws o w (known.Number a) (known.Number b) r x y h k e =
    given_at domain r _ _ (computed_at o w x y _ _ h.1 k.1)
    (gives domain _ r _ (value.Number (arithmetic o w h.0 k.0)) (same_ok _ _ e) refl (arithmetic o w h.0 k.0, refl, arithmetic_kept domain laws.sound o w a b h.0 k.0 h.2 k.2))
combined_gives domain laws o w (known.Number a) (known.Stack p) r x y h k e = given_at domain r _ _ (computed_at o w x y _ _ h.1 k) (stack_added domain laws o w a p r h.0 h.2 e)
combined_gives domain laws o w (known.Number a) (known.Context b) r x y h k e = given_at domain r _ _ (computed_at o w x y _ _ h.1 k.1) (context_added domain laws o w a b r h.0 k.0 h.2 k.2 e)
combined_gives domain laws o w (known.Stack p) known.Unset r x y h k e = absurd (err_not_ok refusal.UnsetRegister r e)
combined_gives domain laws o w (known.Stack p) (known.Number b) r x y h k e = given_at domain r _ _ (computed_at o w x y _ _ h k.1) (stack_moved domain laws o w p b r k.0 k.2 e)
combined_gives domain laws o w (known.Stack p) (known.Stack q) r x y h k e = absurd (err_not_ok refusal.PointerUsed r e)
combined_gives domain laws o w (known.Stack p) (known.Context b) r x y h k e = absurd (err_not_ok refusal.PointerUsed r e)
combined_gives domain laws o w (known.Context a) known.Unset r x y h k e = absurd (err_not_ok refusal.UnsetRegister r e)
combined_gives domain laws o w (known.Context a) (known.Number b) r x y h k e = given_at domain r _ _ (computed_at o w x y _ _ h.1 k.1) (context_moved domain laws o w a b r h.0 k.0 h.2 k.2 e)
combined_gives domain laws o w (known.Context a) (known.Stack q) r x y h k e = absurd (err_not_ok refusal.PointerUsed r e)
combined_gives domain laws o w (known.Context a) (known.Context b) r x y h k e = absurd (err_not_ok refusal.PointerUsed r e)

-- ---- one value

-- a number and what becomes of it
then_ok : {A B : Type 0} (r : Result A RefusalNumber) (f : A → B) (b : B) → (r then (λ (a : A). Ok (f a))) ≡ Ok b → (a : A) × (r ≡ Ok a) × (f a ≡ b)
then_ok (Ok a) f b h = (a, refl, same_ok _ _ h)
then_ok (Err number) f b h = absurd (err_not_ok number b h)

abbrev number_of : (ℕ → ℕ) → Value → Result Value TrapReason
number_of f x = set_value x >>= (λ (v : Value). number_or trap.Pointer v >>= (λ (n : ℕ). Ok (value.Number (f n))))

number_gives : {X : Type 0} (domain : Ghosts X) (f : X → X) (g : ℕ → ℕ) → ((a : X) (n : ℕ) → domain.contains a n → domain.contains (f a) (g n)) → (a r : AbsVal X) (x : Value) → IsAs domain a x
    → (number_in a then (λ n. Ok (known.Number (f n)))) ≡ Ok r → Gives domain r (number_of g x)
number_gives domain f g keeps a r x h e =
    let ok = then_ok (number_in a) (λ n. known.Number (f n)) r e in
    let held = number_held domain a ok.0 x h ok.1 in
    given_at domain r _ _ (ap (number_of g) held.1) (gives domain _ r _ (value.Number (g held.0)) ok.2 refl (g held.0, refl, keeps ok.0 held.0 held.2))

moved_gives : {X : Type 0} (domain : Ghosts X) → Lawful domain → (w : Width) (b r : AbsVal X) (y : Value) → IsAs domain b y → moved_in domain w b ≡ Ok r → Gives domain r (set_value y >>= moved w)
moved_gives domain laws width.Bits64 b r y k e =
    let set = set_held domain b r y k e in
    gives domain b r _ y set.1 (ap (λ (v : Result Value TrapReason). v >>= moved width.Bits64) set.0) k
moved_gives domain laws width.Bits32 b r y k e =
    number_gives domain (move_in domain width.Bits32) (low 32) (λ a n h. arithmetic_kept domain laws.sound operation.Move width.Bits32 a a n n h h) b r y k e

-- ---- instructions

pub arithmetic_gives : {X : Type 0} (domain : Ghosts X) → Lawful domain → (s : State) (registers : List (AbsVal X)) (o : Operation) (w : Width) (dst : ℕ) (b : Operand) (r : AbsVal X)
    → AreAs domain registers s.registers → HasWord b → result_in domain o w (value_in registers dst) (operand_in domain registers b) ≡ Ok r → Gives domain r (arithmetic_value s o w dst b)
arithmetic_gives domain laws s registers operation.Move w dst b r p word e =
    given_at domain r _ _ (ap (λ (v : Result Value TrapReason). v >>= moved w) (operand_read s b))
    (moved_gives domain laws w (operand_in domain registers b) r (value_of_operand s b) (operand_held domain laws s registers b p word) e)
arithmetic_gives domain laws s registers o w dst b r p word e =
    given_at domain r _ _ (ap (λ (v : Result Value TrapReason). set_value (register_of s dst) >>= (λ (x : Value). v >>= (λ (y : Value). computed o w x y))) (operand_read s b))
    (combined_gives domain laws o w (value_in registers dst) (operand_in domain registers b) r (register_of s dst) (value_of_operand s b) (p.each dst) (operand_held domain laws s registers b p word) e)

pub negation_gives : {X : Type 0} (domain : Ghosts X) → Lawful domain → (s : State) (registers : List (AbsVal X)) (w : Width) (dst : ℕ) (r : AbsVal X) → AreAs domain registers s.registers
    → negated_in domain w (value_in registers dst) ≡ Ok r → Gives domain r (number_value s dst (negation w))
negation_gives domain laws s registers w dst r p e = number_gives domain _ (negation w) (λ a n h. negation_kept domain laws.sound w a n h) (value_in registers dst) r (register_of s dst) (p.each dst) e

pub signed_move_gives : {X : Type 0} (domain : Ghosts X) → Lawful domain → (s : State) (registers : List (AbsVal X)) (w : Width) (size : Size) (src : ℕ) (r : AbsVal X) → AreAs domain registers s.registers
    → extended_in domain w size (value_in registers src) ≡ Ok r → Gives domain r (number_value s src (moved_signed w size))
signed_move_gives domain laws s registers w size src r p e = number_gives domain _ (moved_signed w size) (λ a n h. signed_move_kept domain laws.sound w size a n h) (value_in registers src) r (register_of s src) (p.each src) e

pub byte_order_gives : {X : Type 0} (domain : Ghosts X) → Lawful domain → (s : State) (registers : List (AbsVal X)) (order : ByteOrder) (size : Size) (dst : ℕ) (r : AbsVal X) → AreAs domain registers s.registers
    → reordered_in domain order size (value_in registers dst) ≡ Ok r → Gives domain r (number_value s dst (converted order size))
byte_order_gives domain laws s registers order size dst r p e = number_gives domain _ (converted order size) (λ a n h. byte_order_kept domain laws.sound order size a n h) (value_in registers dst) r (register_of s dst) (p.each dst) e
