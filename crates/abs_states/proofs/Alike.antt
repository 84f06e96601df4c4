-- An instruction has the same fault on both ways.
use Rattle.std.proofs.Common.{◌≡◌, ℕ, Bool, true, false, Result, Ok, Err, refl}
use Rattle.refusals.specs.declared.RefusalNumber.{RefusalNumber}
use Rattle.abs_domain.specs.declared.domain.Domain.{Ghosts}
use Rattle.abs_regs.specs.Transfers.{◌>>=◌, numbers_in, compared_in}
use Rattle.abs_regs.specs.Values.{value_in}
use Rattle.abs_states.specs.declared.state.AbsState.{AbsState}
use Rattle.abs_states.specs.Transfers.{transfer_in}
use Rattle.bpf_profile.specs.declared.instruction.Instruction.{Instruction}
use Rattle.bpf_profile.specs.declared.instruction.Instruction.TheVariants as instruction

-- two results of one kind
abbrev Same : {A : Type 0} → Result A RefusalNumber → Result A RefusalNumber → Type 0
Same (Ok a) (Ok b) = Unit {0}
Same (Err m) (Err n) = m ≡ n
Same r q = ⊥

same_itself : {A : Type 0} (r : Result A RefusalNumber) → Same r r
same_itself (Ok a) = tt
same_itself (Err number) = refl

same_after : {A B : Type 0} (r : Result A RefusalNumber) (f g : A → B) → Same (r >>= (λ (a : A). Ok (f a))) (r >>= (λ (a : A). Ok (g a)))
same_after (Ok a) f g = tt
same_after (Err number) f g = refl

same_then : {A B : Type 0} (r q : Result A RefusalNumber) (f g : A → B) → Same r q → Same (r >>= (λ (a : A). Ok (f a))) (q >>= (λ (a : A). Ok (g a)))
same_then (Ok a) (Ok b) f g h = tt
same_then (Err m) (Err n) f g h = h
same_then (Ok a) (Err n) f g h = absurd (elim h [ ])
same_then (Err m) (Ok b) f g h = absurd (elim h [ ])

alike : {X : Type 0} (domain : Ghosts X) (context : ℕ) (a : AbsState X) (i : Instruction) → Same (transfer_in domain context a false i) (transfer_in domain context a true i)
unfolding transfer_in
alike domain context a (instruction.Branch c w left right distance) = same_then _ _ _ _ (same_after (numbers_in (value_in a.registers left) (compared_in domain w a.registers right)) _ _)
alike domain context a (instruction.Arithmetic o w dst b) = same_itself (transfer_in domain context a false (instruction.Arithmetic o w dst b))
alike domain context a (instruction.Negate w dst) = same_itself (transfer_in domain context a false (instruction.Negate w dst))
alike domain context a (instruction.MoveSigned w count dst src) = same_itself (transfer_in domain context a false (instruction.MoveSigned w count dst src))
alike domain context a (instruction.Convert order count dst) = same_itself (transfer_in domain context a false (instruction.Convert order count dst))
alike domain context a (instruction.LoadImmediate dst n) = same_itself (transfer_in domain context a false (instruction.LoadImmediate dst n))
alike domain context a (instruction.Load count x dst base distance) = same_itself (transfer_in domain context a false (instruction.Load count x dst base distance))
alike domain context a (instruction.Store count base distance b) = same_itself (transfer_in domain context a false (instruction.Store count base distance b))
alike domain context a (instruction.Jump w distance) = same_itself (transfer_in domain context a false (instruction.Jump w distance))
alike domain context a (instruction.Call helper) = same_itself (transfer_in domain context a false (instruction.Call helper))
alike domain context a instruction.Exit = same_itself (transfer_in domain context a false instruction.Exit)

same_ok : {A : Type 0} (r q : Result A RefusalNumber) (a : A) → Same r q → r ≡ Ok a → (b : A) × (q ≡ Ok b)
same_ok (Ok a) (Ok b) c h e = (b, refl)
same_ok (Ok a) (Err n) c h e = absurd (elim h [ ])
same_ok {A} (Err m) q c h e = absurd (let f : ◌≡◌ {A = Result A RefusalNumber} (Err m) (Ok c) = e in cc)

-- what passes on one way passes on the other
pub passes_alike : {X : Type 0} (domain : Ghosts X) (context : ℕ) (a after : AbsState X) (taken : Bool) (i : Instruction) → transfer_in domain context a false i ≡ Ok after → (b : AbsState X) × (transfer_in domain context a taken i ≡ Ok b)
passes_alike domain context a after true i e = same_ok (transfer_in domain context a false i) (transfer_in domain context a true i) after (alike domain context a i) e
passes_alike domain context a after false i e = (after, e)
