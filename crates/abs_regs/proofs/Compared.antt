-- What conditional jumps leave of the registers is as known, and where loads and stores go.
use Rattle.std.proofs.Common.{◌≡◌, ℕ, ◌^◌, ◌+◌, ◌==◌, Bool, true, false, cond, List, Result, Ok, Err, refl, sym, ap, ◌∙◌, subst, arith}
use Rattle.std.proofs.Math.Nat.{mod-eq_of_lt}
use Rattle.std.proofs.lemmas.Nat.{pow_pos, mod_below}
use Rattle.std.specs.Prelude.{slice_set, if◌then◌else◌}
use Rattle.refusals.specs.declared.RefusalNumber.{RefusalNumber}
use Rattle.refusals.specs.declared.RefusalNumber.TheVariants as refusal
use Rattle.abs_domain.specs.Branches.{branch_first, branch_second}
use Rattle.abs_domain.proofs.Branched.{first_kept, second_kept}
use Rattle.abs_domain.specs.declared.domain.Domain.{Ghosts}
use Rattle.abs_regs.specs.declared.address.Address.{Address}
use Rattle.abs_regs.specs.declared.value.AbsVal.{AbsVal}
use Rattle.abs_regs.specs.declared.value.AbsVal.TheVariants as known
use Rattle.abs_regs.specs.Steps.{AreAs, HasWord, IsAt, Branches}
use Rattle.abs_regs.specs.Transfers.{numbers_in, compared_in, learnt_in, branched_in, address_in}
use Rattle.abs_regs.specs.Transfers.{◌>>=◌ as ◌then◌}
use Rattle.abs_regs.specs.Values.{IsAs, value_in}
use Rattle.abs_regs.proofs.Computed.{sum_kept}
use Rattle.abs_regs.proofs.Described.{Lawful, err_not_ok, same_ok, narrow_described, value_of_operand, operand_read}
use Rattle.bpf_profile.specs.declared.instruction.Comparison.{Comparison}
use Rattle.bpf_profile.specs.declared.instruction.Operand.{Operand}
use Rattle.bpf_profile.specs.declared.instruction.Operand.TheVariants as operand
use Rattle.bpf_profile.specs.declared.instruction.Width.{Width}
use Rattle.bpf_profile.specs.declared.instruction.Width.TheVariants as width
use Rattle.bpf_profile.specs.declared.machine.Region.TheVariants as region
use Rattle.bpf_profile.specs.declared.machine.TrapReason.{TrapReason}
use Rattle.bpf_profile.specs.declared.machine.TrapReason.TheVariants as trap
use Rattle.bpf_profile.specs.declared.machine.Value.{Value}
use Rattle.bpf_profile.specs.declared.machine.Value.TheVariants as value
use Rattle.bpf_profile.specs.Machine.{State, Effect, Address as Place, register_of, set_value, number_or, address_of, jumps, target_of, ◌>>=◌}
use Rattle.bpf_profile.specs.Words.{IsWord, word_sum, low, bits_of, holds, holds_at}

-- ---- two numbers

pub record BothNumbers {X : Type 0} (domain : Ghosts X) (a b : X) (x y : Value) : Type 0 where
  pub left : ℕ
  pub right : ℕ
  pub is_left : x ≡ value.Number left
  pub is_right : y ≡ value.Number right
  pub in_left : domain.contains a left
  pub in_right : domain.contains b right

numbers_held : {X : Type 0} (domain : Ghosts X) (a b : AbsVal X) (n : X × X) (x y : Value) → IsAs domain a x → IsAs domain b y → numbers_in a b ≡ Ok n → BothNumbers domain n.0 n.1 x y
numbers_held domain known.Unset b n x y h k e = absurd (err_not_ok refusal.UnsetRegister n e)
numbers_held domain (known.Number a) known.Unset n x y h k e = absurd (err_not_ok refusal.UnsetRegister n e)
numbers_held domain (known.Number a) (known.Number b) n x y h k e = (
    let same : ◌≡◌ {A = _ × _} (a, b) n = same_ok _ n e in
    record {
      left = h.0;
      right = k.0;
      is_left = h.1;
      is_right = k.1;
      in_left = subst (λ (p : _ × _). domain.contains p.0 h.0) same h.2;
      in_right = subst (λ (p : _ × _). domain.contains p.1 k.0) same k.2;
    })
numbers_held domain (known.Number a) (known.Stack q) n x y h k e = absurd (err_not_ok refusal.PointerUsed n e)
numbers_held domain (known.Number a) (known.Context b) n x y h k e = absurd (err_not_ok refusal.PointerUsed n e)
numbers_held domain (known.Stack p) known.Unset n x y h k e = absurd (err_not_ok refusal.UnsetRegister n e)
numbers_held domain (known.Stack p) (known.Number b) n x y h k e = absurd (err_not_ok refusal.PointerUsed n e)
numbers_held domain (known.Stack p) (known.Stack q) n x y h k e = absurd (err_not_ok refusal.PointerUsed n e)
numbers_held domain (known.Stack p) (known.Context b) n x y h k e = absurd (err_not_ok refusal.PointerUsed n e)
numbers_held domain (known.Context a) known.Unset n x y h k e = absurd (err_not_ok refusal.UnsetRegister n e)
numbers_held domain (known.Context a) (known.Number b) n x y h k e = absurd (err_not_ok refusal.PointerUsed n e)
numbers_held domain (known.Context a) (known.Stack q) n x y h k e = absurd (err_not_ok refusal.PointerUsed n e)
numbers_held domain (known.Context a) (known.Context b) n x y h k e = absurd (err_not_ok refusal.PointerUsed n e)

-- ---- what is compared with: an immediate counts as many bits as the width has

abbrev compared_value : State → Width → Operand → Value
compared_value s w (operand.Register r) = register_of s r
compared_value s w (operand.Immediate n) = value.Number (low (bits_of w) n)

compared_held : {X : Type 0} (domain : Ghosts X) → Lawful domain → (s : State) (registers : List (AbsVal X)) (w : Width) (b : Operand) → AreAs domain registers s.registers → HasWord b
    → IsAs domain (compared_in domain w registers b) (compared_value s w b)
compared_held domain laws s registers w (operand.Register r) p word = p.each r
compared_held domain laws s registers w (operand.Immediate n) p word = (low (bits_of w) n, refl, laws.sound.constants (low (bits_of w) n) (fits w))
  where
    fits : (w : Width) → IsWord (low (bits_of w) n)
    fits width.Bits32 = (let h = mod_below n (2 ^ 32) (pow_pos 32) in omega (arith, h))
    fits width.Bits64 = mod_below n (2 ^ 64) (pow_pos 64)

low_of_low : (w : Width) (n : ℕ) → low (bits_of w) (low (bits_of w) n) ≡ low (bits_of w) n
low_of_low width.Bits32 n = mod-eq_of_lt (mod_below n (2 ^ 32) (pow_pos 32))
low_of_low width.Bits64 n = mod-eq_of_lt (mod_below n (2 ^ 64) (pow_pos 64))

-- the number that the machine compares with, and that it compares alike
record Compared (c : Comparison) (w : Width) (x : ℕ) (b : Value) (y : ℕ) : Type 0 where
  number : ℕ
  is : b ≡ value.Number number
  alike : holds c w x number ≡ holds c w x y

same_number : (a b : ℕ) → ◌≡◌ {A = Value} (value.Number a) (value.Number b) → a ≡ b
same_number a b h = cc

compares : (s : State) (c : Comparison) (w : Width) (b : Operand) (x y : ℕ) → compared_value s w b ≡ value.Number y → Compared c w x (value_of_operand s b) y
compares s c w (operand.Register r) x y e = record { number = y; is = e; alike = refl }
compares s c w (operand.Immediate n) x y e = record {
  number = n;
  is = refl;
  alike = ap (holds_at c (bits_of w) (low (bits_of w) x)) (sym (low_of_low w n) ∙ ap (low (bits_of w)) (same_number _ _ e));
}

-- ---- what is learnt

learnt_held : {X : Type 0} (domain : Ghosts X) → Lawful domain → (s : State) (registers : List (AbsVal X)) (c : Comparison) (w : Width) (taken : Bool) (left : ℕ) (right : Operand) (a b : X) (x y : ℕ)
    → AreAs domain registers s.registers → register_of s left ≡ value.Number x → compared_value s w right ≡ value.Number y → domain.contains a x → domain.contains b y → holds c w x y ≡ taken
    → AreAs domain (learnt_in domain c w taken registers left right a b) s.registers
learnt_held {X} domain laws s registers c w taken left (operand.Register r) a b x y p e f h k t = by_test (left == r)
  where
    by_test : (same : Bool) → AreAs domain (cond same registers (slice_set (slice_set registers left (known.Number (branch_first domain c w taken a b))) r (known.Number (branch_second domain c w taken a b)))) s.registers
    by_test true = p
    by_test false =
        narrow_described domain _ s.registers r _ (narrow_described domain registers s.registers left _ p (x, e, first_kept domain laws.refines c w taken a b x y h k t))
        (y, f, second_kept domain laws.refines c w taken a b x y h k t)
learnt_held domain laws s registers c w taken left (operand.Immediate n) a b x y p e f h k t =
    narrow_described domain registers s.registers left _ p (x, e, first_kept domain laws.refines c w taken a b x y h k t)

then_ok : {A B : Type 0} (r : Result A RefusalNumber) (f : A → B) (b : B) → (r then (λ (a : A). Ok (f a))) ≡ Ok b → (a : A) × (r ≡ Ok a) × (f a ≡ b)
then_ok (Ok a) f b h = (a, refl, same_ok _ _ h)
then_ok (Err number) f b h = absurd (err_not_ok number b h)

abbrev branch_of : State → Comparison → Width → ℕ → Value → Value → Result Effect TrapReason
branch_of s c w distance x y =
    set_value x >>= (λ (a : Value). set_value y >>= (λ (b : Value). number_or trap.Pointer a >>= (λ (m : ℕ). number_or trap.Pointer b >>= (λ (n : ℕ). Ok (jumps s (if holds c w m n then target_of s.slot distance else s.slot + 1))))))

pub branch_follows : {X : Type 0} (domain : Ghosts X) → Lawful domain → (s : State) (registers after : List (AbsVal X)) (c : Comparison) (w : Width) (taken : Bool) (left : ℕ) (right : Operand) (distance : ℕ)
    → AreAs domain registers s.registers → HasWord right → branched_in domain c w taken registers left right ≡ Ok after → Branches domain s registers c w left right distance
branch_follows {X} domain laws s registers after c w taken left right distance p word e =
    let ok = then_ok (numbers_in (value_in registers left) (compared_in domain w registers right)) (λ (n : X × X). learnt_in domain c w taken registers left right n.0 n.1) after e in
    let n = ok.0 in
    let held = numbers_held domain (value_in registers left) (compared_in domain w registers right) n (register_of s left) (compared_value s w right) (p.each left) (compared_held domain laws s registers w right p word) ok.1 in
    let with = compares s c w right held.left held.right held.is_right in
    record {
      holds = holds c w held.left held.right;
      goes =
          ap (λ (r : Result Value TrapReason). set_value (register_of s left) >>= (λ (u : Value). r >>= (λ (v : Value). number_or trap.Pointer u >>= (λ (m : ℕ). number_or trap.Pointer v >>= (λ (k : ℕ). Ok (jumps s (if holds c w m k then target_of s.slot distance else s.slot + 1))))))) (operand_read s right)
          ∙ (ap (λ (u : Value). branch_of s c w distance u (value_of_operand s right)) held.is_left
          ∙ (ap (branch_of s c w distance (value.Number held.left)) with.is
          ∙ ap (λ (t : Bool). Ok (jumps s (cond t (target_of s.slot distance) (s.slot + 1)))) with.alike));
      follows = λ found learnt.
          let its = then_ok (numbers_in (value_in registers left) (compared_in domain w registers right)) (λ (k : X × X). learnt_in domain c w (holds c w held.left held.right) registers left right k.0 k.1) found learnt in
          let same : n ≡ its.0 = same_ok n its.0 (sym ok.1 ∙ its.1) in
          subst (λ (k : List (AbsVal X)). AreAs domain k s.registers) (ap (λ (k : X × X). learnt_in domain c w (holds c w held.left held.right) registers left right k.0 k.1) same ∙ its.2)
          (learnt_held domain laws s registers c w (holds c w held.left held.right) left right n.0 n.1 held.left held.right p held.is_left held.is_right held.in_left held.in_right refl);
    }

-- ---- addresses

pub address_follows : {X : Type 0} (domain : Ghosts X) → Lawful domain → (a : AbsVal X) (found : Address X) (v : Value) (distance : ℕ) → IsAs domain a v → IsWord distance → address_in domain a distance ≡ Ok found
    → (set_value v ≡ Ok v) × (at : Place) × (address_of v distance ≡ Ok at) × IsAt domain found at
address_follows domain laws known.Unset found v distance h word e = absurd (err_not_ok refusal.UnsetRegister found e)
address_follows domain laws (known.Number a) found v distance h word e = absurd (err_not_ok refusal.NotPointer found e)
address_follows {X} domain laws (known.Stack o) found v distance h word e = (
  subst (λ (x : Value). set_value x ≡ Ok x) (sym h) refl,
  record { region = region.Stack; offset = word_sum o distance },
  ap (λ (x : Value). address_of x distance) h,
  subst (λ (k : Address X). IsAt domain k (record { region = region.Stack; offset = word_sum o distance })) (same_ok _ found e) refl,
)
address_follows {X} domain laws (known.Context a) found v distance h word e = (
  subst (λ (x : Value). set_value x ≡ Ok x) (sym h.1) refl,
  record { region = region.Context; offset = word_sum h.0 distance },
  ap (λ (x : Value). address_of x distance) h.1,
  subst (λ (k : Address X). IsAt domain k (record { region = region.Context; offset = word_sum h.0 distance })) (same_ok _ found e)
      (word_sum h.0 distance, refl, sum_kept domain laws a (domain.of_word distance) h.0 distance h.2 (laws.sound.constants distance word)),
)
