-- Values and registers that are as known, also where two paths were joined or a register was set.
use Rattle.std.proofs.Common.{◌≡◌, ℕ, zero, suc, ◌≤◌, ◌==◌, Bool, true, false, cond, List, [], ◌∷◌, length, get_or, Result, Ok, Err, refl, sym, subst, arith, length-set}
use Rattle.std.proofs.lemmas.Bool.{eqb-true}
use Rattle.std.specs.Prelude.{slice_set}
use Rattle.refusals.specs.declared.RefusalNumber.TheVariants as refusal
use Rattle.abs_domain.proofs.Branched.{Refines}
use Rattle.abs_domain.proofs.Contained.{Sound}
use Rattle.abs_domain.specs.declared.domain.Domain.{Ghosts}
use Rattle.abs_regs.specs.declared.value.AbsVal.{AbsVal}
use Rattle.abs_regs.specs.declared.value.AbsVal.TheVariants as known
use Rattle.abs_regs.specs.Steps.{AreAs, HasWord}
use Rattle.abs_regs.specs.Transfers.{set_in, number_in, operand_in}
use Rattle.abs_regs.specs.Values.{IsAs, joined_value, joined_values, value_in, entry_values}
use Rattle.bpf_profile.specs.declared.instruction.Operand.{Operand}
use Rattle.bpf_profile.specs.declared.instruction.Operand.TheVariants as operand
use Rattle.bpf_profile.specs.declared.machine.Value.{Value}
use Rattle.bpf_profile.specs.declared.machine.Value.TheVariants as value
use Rattle.bpf_profile.specs.Machine.{State, register_of, set_value, read_operand}
use Rattle.bpf_profile.specs.Meaning.{entry}

-- the laws of a domain that an analysis of registers stands on
pub record Lawful {X : Type 0} (domain : Ghosts X) : Type 0 where
  pub sound : Sound domain
  pub refines : Refines domain
  pub first : (a b : X) (n : ℕ) → domain.contains a n → domain.contains (domain.joined a b) n
  pub second : (a b : X) (n : ℕ) → domain.contains b n → domain.contains (domain.joined a b) n

pub err_not_ok : {A E : Type 0} (e : E) (a : A) → ◌≡◌ {A = Result A E} (Err e) (Ok a) → ⊥
err_not_ok e a h = cc

pub same_ok : {A E : Type 0} (a b : A) → ◌≡◌ {A = Result A E} (Ok a) (Ok b) → a ≡ b
same_ok a b h = cc

-- ---- joins

first_kept : {X : Type 0} (domain : Ghosts X) → Lawful domain → (a b : AbsVal X) (v : Value) → IsAs domain a v → IsAs domain (joined_value domain a b) v
first_kept domain laws known.Unset b v h = tt
first_kept domain laws (known.Number a) known.Unset v h = tt
first_kept domain laws (known.Number a) (known.Number b) v h = (h.0, h.1, laws.first a b h.0 h.2)
first_kept domain laws (known.Number a) (known.Stack o) v h = tt
first_kept domain laws (known.Number a) (known.Context b) v h = tt
first_kept domain laws (known.Stack o) known.Unset v h = tt
first_kept domain laws (known.Stack o) (known.Number b) v h = tt
first_kept {X} domain laws (known.Stack o) (known.Stack p) v h = by_test (o == p) h
  where
    by_test : (t : Bool) → IsAs domain (known.Stack o) v → IsAs domain (cond t (known.Stack o) known.Unset) v
    by_test true h = h
    by_test false h = tt
first_kept domain laws (known.Stack o) (known.Context b) v h = tt
first_kept domain laws (known.Context a) known.Unset v h = tt
first_kept domain laws (known.Context a) (known.Number b) v h = tt
first_kept domain laws (known.Context a) (known.Stack o) v h = tt
first_kept domain laws (known.Context a) (known.Context b) v h = (h.0, h.1, laws.first a b h.0 h.2)

second_kept : {X : Type 0} (domain : Ghosts X) → Lawful domain → (a b : AbsVal X) (v : Value) → IsAs domain b v → IsAs domain (joined_value domain a b) v
second_kept domain laws known.Unset b v h = tt
second_kept domain laws (known.Number a) known.Unset v h = tt
second_kept domain laws (known.Number a) (known.Number b) v h = (h.0, h.1, laws.second a b h.0 h.2)
second_kept domain laws (known.Number a) (known.Stack o) v h = tt
second_kept domain laws (known.Number a) (known.Context b) v h = tt
second_kept domain laws (known.Stack o) known.Unset v h = tt
second_kept domain laws (known.Stack o) (known.Number b) v h = tt
second_kept {X} domain laws (known.Stack o) (known.Stack p) v h = by_test (o == p) refl h
  where
    by_test : (t : Bool) → (o == p) ≡ t → IsAs domain (known.Stack p) v → IsAs domain (cond t (known.Stack o) known.Unset) v
    by_test true e h = subst (λ (n : ℕ). IsAs domain (known.Stack n) v) (sym (eqb-true o p e)) h
    by_test false e h = tt
second_kept domain laws (known.Stack o) (known.Context b) v h = tt
second_kept domain laws (known.Context a) known.Unset v h = tt
second_kept domain laws (known.Context a) (known.Number b) v h = tt
second_kept domain laws (known.Context a) (known.Stack o) v h = tt
second_kept domain laws (known.Context a) (known.Context b) v h = (h.0, h.1, laws.second a b h.0 h.2)

first_at : {X : Type 0} (domain : Ghosts X) → Lawful domain → (a b : List (AbsVal X)) (r : ℕ) (v : Value) → IsAs domain (value_in a r) v → IsAs domain (value_in (joined_values domain a b) r) v
first_at domain laws [] b r v h = tt
first_at domain laws (x ∷ a) [] r v h = tt
first_at domain laws (x ∷ a) (y ∷ b) zero v h = first_kept domain laws x y v h
first_at domain laws (x ∷ a) (y ∷ b) (suc r) v h = first_at domain laws a b r v h

second_at : {X : Type 0} (domain : Ghosts X) → Lawful domain → (a b : List (AbsVal X)) (r : ℕ) (v : Value) → IsAs domain (value_in b r) v → IsAs domain (value_in (joined_values domain a b) r) v
second_at domain laws [] b r v h = tt
second_at domain laws (x ∷ a) [] r v h = tt
second_at domain laws (x ∷ a) (y ∷ b) zero v h = second_kept domain laws x y v h
second_at domain laws (x ∷ a) (y ∷ b) (suc r) v h = second_at domain laws a b r v h

length_first : {X : Type 0} (domain : Ghosts X) (a b : List (AbsVal X)) → length (joined_values domain a b) ≤ length a
length_first domain [] b = omega arith
length_first domain (x ∷ a) [] = omega arith
length_first domain (x ∷ a) (y ∷ b) = (let h = length_first domain a b in omega arith)

length_second : {X : Type 0} (domain : Ghosts X) (a b : List (AbsVal X)) → length (joined_values domain a b) ≤ length b
length_second domain [] b = omega arith
length_second domain (x ∷ a) [] = omega arith
length_second domain (x ∷ a) (y ∷ b) = (let h = length_second domain a b in omega arith)

-- where either of two paths was taken
pub first_joined : {X : Type 0} (domain : Ghosts X) → Lawful domain → (a b : List (AbsVal X)) (values : List Value) → AreAs domain a values → AreAs domain (joined_values domain a b) values
first_joined domain laws a b values p = record {
  long = (let h = length_first domain a b in let l = p.long in omega (arith, h, l));
  each = λ r. first_at domain laws a b r _ (p.each r);
}

pub second_joined : {X : Type 0} (domain : Ghosts X) → Lawful domain → (a b : List (AbsVal X)) (values : List Value) → AreAs domain b values → AreAs domain (joined_values domain a b) values
second_joined domain laws a b values p = record {
  long = (let h = length_second domain a b in let l = p.long in omega (arith, h, l));
  each = λ r. second_at domain laws a b r _ (p.each r);
}

-- ---- a register that is set

set_each : {X : Type 0} (domain : Ghosts X) (registers : List (AbsVal X)) (values : List Value) (dst : ℕ) (k : AbsVal X) (v : Value) (r : ℕ) → length registers ≤ length values
    → ((i : ℕ) → IsAs domain (value_in registers i) (get_or values i value.Unset)) → IsAs domain k v
    → IsAs domain (value_in (slice_set registers dst k) r) (get_or (slice_set values dst v) r value.Unset)
set_each domain [] values dst k v r e each h = tt
set_each domain (x ∷ registers) [] dst k v r e each h = absurd (omega arith)
set_each domain (x ∷ registers) (y ∷ values) zero k v zero e each h = h
set_each domain (x ∷ registers) (y ∷ values) zero k v (suc r) e each h = each (suc r)
set_each domain (x ∷ registers) (y ∷ values) (suc dst) k v zero e each h = each zero
set_each domain (x ∷ registers) (y ∷ values) (suc dst) k v (suc r) e each h = set_each domain registers values dst k v r (omega arith) (λ i. each (suc i)) h

pub set_described : {X : Type 0} (domain : Ghosts X) (registers : List (AbsVal X)) (values : List Value) (dst : ℕ) (k : AbsVal X) (v : Value) → AreAs domain registers values → IsAs domain k v
    → AreAs domain (slice_set registers dst k) (slice_set values dst v)
set_described domain registers values dst k v p h = record {
  long = (let a = length-set registers dst k in let b = length-set values dst v in let l = p.long in omega (arith, a, b, l));
  each = λ r. set_each domain registers values dst k v r p.long p.each h;
}

-- more that is known of a register
narrow_each : {X : Type 0} (domain : Ghosts X) (registers : List (AbsVal X)) (values : List Value) (dst : ℕ) (k : AbsVal X) (r : ℕ)
    → ((i : ℕ) → IsAs domain (value_in registers i) (get_or values i value.Unset)) → IsAs domain k (get_or values dst value.Unset)
    → IsAs domain (value_in (slice_set registers dst k) r) (get_or values r value.Unset)
narrow_each domain [] values dst k r each h = tt
narrow_each domain (x ∷ registers) values zero k zero each h = h
narrow_each domain (x ∷ registers) values zero k (suc r) each h = each (suc r)
narrow_each domain (x ∷ registers) values (suc dst) k zero each h = each zero
narrow_each domain (x ∷ registers) [] (suc dst) k (suc r) each h = narrow_each domain registers [] dst k r (λ i. each (suc i)) h
narrow_each domain (x ∷ registers) (y ∷ values) (suc dst) k (suc r) each h = narrow_each domain registers values dst k r (λ i. each (suc i)) h

pub narrow_described : {X : Type 0} (domain : Ghosts X) (registers : List (AbsVal X)) (values : List Value) (dst : ℕ) (k : AbsVal X) → AreAs domain registers values → IsAs domain k (get_or values dst value.Unset)
    → AreAs domain (slice_set registers dst k) values
narrow_described domain registers values dst k p h = record {
  long = (let a = length-set registers dst k in let l = p.long in omega (arith, a, l));
  each = λ r. narrow_each domain registers values dst k r p.each h;
}

-- ---- values that are read

-- a value that is known to be set
pub set_held : {X : Type 0} (domain : Ghosts X) (a b : AbsVal X) (v : Value) → IsAs domain a v → set_in a ≡ Ok b → (set_value v ≡ Ok v) × (a ≡ b)
set_held domain known.Unset b v h e = absurd (err_not_ok refusal.UnsetRegister b e)
set_held domain (known.Number a) b v h e = (subst (λ (x : Value). set_value x ≡ Ok x) (sym h.1) refl, same_ok _ _ e)
set_held domain (known.Stack o) b v h e = (subst (λ (x : Value). set_value x ≡ Ok x) (sym h) refl, same_ok _ _ e)
set_held domain (known.Context a) b v h e = (subst (λ (x : Value). set_value x ≡ Ok x) (sym h.1) refl, same_ok _ _ e)

-- a value that is known to be a number
pub number_held : {X : Type 0} (domain : Ghosts X) (a : AbsVal X) (n : X) (v : Value) → IsAs domain a v → number_in a ≡ Ok n → (m : ℕ) × (v ≡ value.Number m) × domain.contains n m
number_held domain known.Unset n v h e = absurd (err_not_ok refusal.UnsetRegister n e)
number_held domain (known.Number a) n v h e = (h.0, h.1, subst (λ (x : _). domain.contains x h.0) (same_ok a n e) h.2)
number_held domain (known.Stack o) n v h e = absurd (err_not_ok refusal.PointerUsed n e)
number_held domain (known.Context a) n v h e = absurd (err_not_ok refusal.PointerUsed n e)

abbrev pub value_of_operand : State → Operand → Value
value_of_operand s (operand.Register r) = register_of s r
value_of_operand s (operand.Immediate n) = value.Number n

pub operand_held : {X : Type 0} (domain : Ghosts X) → Lawful domain → (s : State) (registers : List (AbsVal X)) (b : Operand) → AreAs domain registers s.registers → HasWord b
    → IsAs domain (operand_in domain registers b) (value_of_operand s b)
operand_held domain laws s registers (operand.Register r) p w = p.each r
operand_held domain laws s registers (operand.Immediate n) p w = (n, refl, laws.sound.constants n w)

pub operand_read : (s : State) (b : Operand) → read_operand s b ≡ set_value (value_of_operand s b)
operand_read s (operand.Register r) = refl
operand_read s (operand.Immediate n) = refl

-- ---- the entry

pub entry_described : {X : Type 0} (domain : Ghosts X) → Lawful domain → AreAs domain (entry_values domain) entry.registers
entry_described domain laws = record { long = omega arith; each = each }
  where
    each : (r : ℕ) → IsAs domain (value_in (entry_values domain) r) (get_or entry.registers r value.Unset)
    each zero = tt
    each (suc zero) = (0, refl, laws.sound.constants 0 (omega arith))
    each (suc (suc zero)) = tt
    each (suc (suc (suc zero))) = tt
    each (suc (suc (suc (suc zero)))) = tt
    each (suc (suc (suc (suc (suc zero))))) = tt
    each (suc (suc (suc (suc (suc (suc zero)))))) = tt
    each (suc (suc (suc (suc (suc (suc (suc zero))))))) = tt
    each (suc (suc (suc (suc (suc (suc (suc (suc zero)))))))) = tt
    each (suc (suc (suc (suc (suc (suc (suc (suc (suc zero))))))))) = tt
    each (suc (suc (suc (suc (suc (suc (suc (suc (suc (suc zero)))))))))) = refl
    each (suc (suc (suc (suc (suc (suc (suc (suc (suc (suc (suc r))))))))))) = tt
