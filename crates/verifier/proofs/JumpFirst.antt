-- What is sent along two edges to different slots may be delivered in either order.
use Rattle.std.proofs.Common.{◌≡◌, ◌≢◌, ℕ, zero, suc, ◌++◌, List, [], ◌∷◌, Option, Some, None, Result, Ok, Err, true, refl, sym, ap, ◌∙◌, get_or, get_or-set_other}
use Rattle.std.specs.Prelude.{slice_set, option_map, Box, box_value}
use Rattle.refusals.specs.declared.RefusalNumber.{RefusalNumber}
use Rattle.abs_domain.specs.declared.domain.Domain.{Ghosts}
use Rattle.abs_states.specs.declared.state.AbsState.{AbsState}
use Rattle.verifier.specs.Analysis.{Message, message_to, joined_into}
use Rattle.abs_states.specs.States.{joined_state}
use Rattle.abs_states.specs.Joining.{joined_with}
use Rattle.abs_states.specs.Transfers.{branches_in, transfer_in}
use Rattle.bpf_profile.specs.declared.instruction.Comparison.{Comparison}
use Rattle.bpf_profile.specs.declared.instruction.Instruction.{Instruction}
use Rattle.bpf_profile.specs.declared.instruction.Instruction.TheVariants as instruction
use Rattle.bpf_profile.specs.declared.instruction.Operand.{Operand}
use Rattle.bpf_profile.specs.declared.instruction.Width.{Width}
use Rattle.verifier.specs.Passes.{seen, delivered, delivered_all}
use Rattle.verifier.proofs.Taken.{set_twice, seen_twice, seen_at}

set_either : {A : Type 0} (xs : List A) (i j : ℕ) (a b : A) → i ≢ j → slice_set (slice_set xs i a) j b ≡ slice_set (slice_set xs j b) i a
set_either [] i j a b away = refl
set_either (x ∷ xs) zero zero a b away = absurd (away refl)
set_either (x ∷ xs) zero (suc j) a b away = refl
set_either (x ∷ xs) (suc i) zero a b away = refl
set_either (x ∷ xs) (suc i) (suc j) a b away = ap (λ (more : List _). x ∷ more) (set_either xs i j a b (λ e. away (ap suc e)))

set_same : {A : Type 0} (xs : List A) (i : ℕ) (a d : A) → get_or xs i d ≡ a → slice_set xs i a ≡ xs
set_same [] i a d e = refl
set_same (x ∷ xs) zero a d e = ap (λ y. y ∷ xs) (sym e)
set_same (x ∷ xs) (suc i) a d e = ap (λ (more : List _). x ∷ more) (set_same xs i a d e)

-- a state is put back as it was
pub put_back : {X Z : Type 0} (states : List (Option (Box (AbsState X) Z))) (to : ℕ) (taken : Option (Box (AbsState X) Z)) (before after : Box (AbsState X) Z)
    → get_or states to None ≡ Some before → box_value after ≡ box_value before → seen (slice_set (slice_set states to taken) to (Some after)) ≡ seen states
put_back {X} states to taken before after there same =
    seen_twice states to taken (Some after)
    ∙ (set_twice (seen states) to (option_map box_value taken) (Some (box_value after))
    ∙ (ap (λ (s : AbsState X). slice_set (seen states) to (Some s)) same
    ∙ set_same (seen states) to (Some (box_value before)) None (seen_at states to ∙ ap (option_map box_value) there)))

-- a conditional jump's state was joined with another
pub branch_joined : {X : Type 0} (domain : Ghosts X) (a before after : AbsState X) (i : Instruction) (comparison : Comparison) (width : Width) (left : ℕ) (right : Operand) (distance : ℕ)
    → i ≡ instruction.Branch comparison width left right distance → joined_with domain before (branches_in domain a true comparison width left right) ≡ Ok after
    → (s : AbsState X) × ((context : ℕ) → transfer_in domain context a true i ≡ Ok s) × (after ≡ joined_state domain before s)
unfolding transfer_in
branch_joined {X} domain a before after i comparison width left right distance is e =
    let found = passed (branches_in domain a true comparison width left right) e in
    (found.0, λ context. ap (transfer_in domain context a true) is ∙ (branches context ∙ found.1), found.2)
  where
    same_ok : (s t : AbsState X) → ◌≡◌ {A = Result (AbsState X) RefusalNumber} (Ok s) (Ok t) → t ≡ s
    same_ok s t h = cc

    passed : (r : Result (AbsState X) RefusalNumber) → joined_with domain before r ≡ Ok after → (s : AbsState X) × (r ≡ Ok s) × (after ≡ joined_state domain before s)
    passed (Ok s) h = (s, refl, same_ok (joined_state domain before s) after h)
    passed (Err number) h = absurd (let f : ◌≡◌ {A = Result (AbsState X) RefusalNumber} (Err number) (Ok after) = h in cc)

    branches : (context : ℕ) → transfer_in domain context a true (instruction.Branch comparison width left right distance) ≡ branches_in domain a true comparison width left right
    branches context = refl

delivered_either : {X : Type 0} (domain : Ghosts X) (states : List (Option (AbsState X))) (m k : Message X) → m.to ≢ k.to → delivered domain (delivered domain states m) k ≡ delivered domain (delivered domain states k) m
delivered_either {X} domain states m k away =
    ap (λ (o : Option (AbsState X)). slice_set (delivered domain states m) k.to (Some (joined_into domain o k.state))) (get_or-set_other states m.to k.to _ None (λ e. away (sym e)))
    ∙ (set_either states m.to k.to _ _ away
    ∙ sym (ap (λ (o : Option (AbsState X)). slice_set (delivered domain states k) m.to (Some (joined_into domain o m.state))) (get_or-set_other states k.to m.to _ None away)))

-- the jump edge's message was delivered first
pub jump_first : {X : Type 0} (domain : Ghosts X) (states joined after : List (Option (AbsState X))) (next : Option ℕ) (target : ℕ) (r q : Result (AbsState X) RefusalNumber) (s : AbsState X)
    → ((slot : ℕ) → next ≡ Some slot → slot ≢ target) → q ≡ Ok s → joined ≡ delivered domain states (record { to = target; state = s })
    → after ≡ delivered_all domain joined (message_to next r)
    → after ≡ delivered_all domain states (message_to next r ++ message_to (Some target) q)
jump_first {X} domain states joined after next target r q s away passes first then =
    then
    ∙ (ap (λ (l : List (Option (AbsState X))). delivered_all domain l (message_to next r)) first
    ∙ (either next r away
    ∙ ap (λ (o : Result (AbsState X) RefusalNumber). delivered_all domain states (message_to next r ++ message_to (Some target) o)) (sym passes)))
  where
    either : (n : Option ℕ) (o : Result (AbsState X) RefusalNumber) → ((slot : ℕ) → n ≡ Some slot → slot ≢ target)
        → delivered_all domain (delivered domain states (record { to = target; state = s })) (message_to n o) ≡ delivered_all domain states (message_to n o ++ message_to (Some target) (Ok s))
    either None (Ok a) h = refl
    either None (Err number) h = refl
    either (Some n) (Err number) h = refl
    either (Some n) (Ok a) h = delivered_either domain states (record { to = target; state = s }) (record { to = n; state = a }) (λ e. h n refl (sym e))
