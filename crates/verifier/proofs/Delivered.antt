-- States into which messages were delivered.
use Rattle.std.proofs.Common.{◌≡◌, ℕ, ◌<◌, ◌==◌, Bool, true, false, cond, inl, inr, List, [], ◌∷◌, ◌++◌, length, Option, Some, None, Result, Ok, Err, refl, sym, ap, ◌∙◌, subst, arith, length-set, get_or-set_other}
use Rattle.std.proofs.lemmas.Bool.{eq-eqb, ne_eqb, cases_eq}
use Rattle.std.proofs.lemmas.List.{get_or-set_same}
use Rattle.std.specs.Prelude.{option_to_list}
use Rattle.refusals.specs.declared.RefusalNumber.{RefusalNumber}
use Rattle.abs_domain.specs.declared.domain.Domain.{Ghosts}
use Rattle.abs_states.specs.declared.state.AbsState.{AbsState}
use Rattle.abs_states.specs.Transfers.{transfer_in}
use Rattle.bpf_profile.specs.declared.instruction.Instruction.{Instruction}
use Rattle.bpf_profile.specs.declared.instruction.Instruction.TheVariants as instruction
use Rattle.bpf_profile.specs.Flow.{edges_of}
use Rattle.verifier.specs.Analysis.{Message, message_to, joined_into, received_one, received, sent_with}
use Rattle.verifier.specs.Passes.{state_of, delivered, delivered_all}

-- all messages go to slots below a count
abbrev pub AreWithin : {X : Type 0} → ℕ → List (Message X) → Type 0
AreWithin count [] = Unit {0}
AreWithin count (m ∷ more) = (m.to < count) × AreWithin count more

pub length-delivered : {X : Type 0} (domain : Ghosts X) (states : List (Option (AbsState X))) (messages : List (Message X)) → length (delivered_all domain states messages) ≡ length states
length-delivered domain states [] = refl
length-delivered domain states (m ∷ more) = length-delivered domain (delivered domain states m) more ∙ length-set states m.to _

cond_is : {A : Type 0} (t s : Bool) (a b : A) → t ≡ s → cond t a b ≡ cond s a b
cond_is t s a b e = ap (λ (x : Bool). cond x a b) e

delivered_at : {X : Type 0} (domain : Ghosts X) (states : List (Option (AbsState X))) (m : Message X) (to : ℕ) → m.to < length states → state_of (delivered domain states m) to ≡ received_one domain to (state_of states to) m
delivered_at domain states m to h = elim (cases_eq to m.to) [
  | inl same ↦
      (let value = Some (joined_into domain (state_of states m.to) m.state) in
      ap (state_of (delivered domain states m)) same
      ∙ (get_or-set_same states m.to value None h
      ∙ (ap (λ (n : ℕ). Some (joined_into domain (state_of states n) m.state)) (sym same)
      ∙ sym (cond_is (m.to == to) true _ (state_of states to) (eq-eqb m.to to (sym same))))))
  | inr other ↦
      (get_or-set_other states m.to to _ None other
      ∙ sym (cond_is (m.to == to) false (Some (joined_into domain (state_of states to) m.state)) (state_of states to) (ne_eqb m.to to (λ e. other (sym e)))))
]

-- a slot holds what it received of the messages
pub delivered_all_at : {X : Type 0} (domain : Ghosts X) (states : List (Option (AbsState X))) (messages : List (Message X)) (to : ℕ) → AreWithin (length states) messages
    → state_of (delivered_all domain states messages) to ≡ received domain to (state_of states to) messages
delivered_all_at domain states [] to h = refl
delivered_all_at domain states (m ∷ more) to h =
    delivered_all_at domain (delivered domain states m) more to (subst (λ (n : ℕ). AreWithin n more) (sym (length-set states m.to _)) h.1)
    ∙ ap (λ (o : Option (AbsState _)). received domain to o more) (delivered_at domain states m to h.0)

-- ---- along the edges that a flow has for an instruction

-- one edge, whichever it counts as
one_edge : {X : Type 0} (x : ℕ) (r : Result (AbsState X) RefusalNumber) (next target : Option ℕ) → (option_to_list next ++ option_to_list target) ≡ x ∷ [] → (message_to next r ++ message_to target r) ≡ (message_to (Some x) r ++ [])
one_edge x (Err number) None None e = refl
one_edge x (Err number) None (Some b) e = refl
one_edge x (Err number) (Some a) None e = refl
one_edge x (Err number) (Some a) (Some b) e = refl
one_edge x (Ok s) None None e = absurd (let l = ap length e in omega (arith, l))
one_edge x (Ok s) None (Some b) e = ap (λ (n : ℕ). (record { to = n; state = s }) ∷ []) (first_is b x [] [] e)
  where
    first_is : (a b : ℕ) (u v : List ℕ) → ◌≡◌ {A = List ℕ} (a ∷ u) (b ∷ v) → a ≡ b
    first_is a b u v e = cc
one_edge x (Ok s) (Some a) None e = ap (λ (n : ℕ). (record { to = n; state = s }) ∷ []) (first_is a x [] [] e)
  where
    first_is : (a b : ℕ) (u v : List ℕ) → ◌≡◌ {A = List ℕ} (a ∷ u) (b ∷ v) → a ≡ b
    first_is a b u v e = cc
one_edge x (Ok s) (Some a) (Some b) e = absurd (let l = ap length e in omega (arith, l))

no_edge : {X : Type 0} (r q : Result (AbsState X) RefusalNumber) (next target : Option ℕ) → (option_to_list next ++ option_to_list target) ≡ [] → (message_to next r ++ message_to target q) ≡ []
no_edge r q None None e = refl
no_edge r q None (Some b) e = absurd (let l = ap length e in omega (arith, l))
no_edge r q (Some a) None e = absurd (let l = ap length e in omega (arith, l))
no_edge r q (Some a) (Some b) e = absurd (let l = ap length e in omega (arith, l))

two_edges : {X : Type 0} (x y : ℕ) (r q : Result (AbsState X) RefusalNumber) (next target : Option ℕ) → (option_to_list next ++ option_to_list target) ≡ x ∷ (y ∷ []) → (message_to next r ++ message_to target q) ≡ (message_to (Some x) r ++ message_to (Some y) q)
two_edges x y r q None None e = absurd (let l = ap length e in omega (arith, l))
two_edges x y r q None (Some b) e = absurd (let l = ap length e in omega (arith, l))
two_edges x y r q (Some a) None e = absurd (let l = ap length e in omega (arith, l))
two_edges x y r q (Some a) (Some b) e = ap (λ (n : ℕ). message_to (Some n) r ++ message_to (Some b) q) (first_is a x e) ∙ ap (λ (n : ℕ). message_to (Some x) r ++ message_to (Some n) q) (second_is b y e)
  where
    first_is : (a b : ℕ) {c d : ℕ} → ◌≡◌ {A = List ℕ} (a ∷ (c ∷ [])) (b ∷ (d ∷ [])) → a ≡ b
    first_is a b e = cc

    second_is : (c d : ℕ) {a b : ℕ} → ◌≡◌ {A = List ℕ} (a ∷ (c ∷ [])) (b ∷ (d ∷ [])) → c ≡ d
    second_is c d e = cc

-- what is sent along the edges of a flow is what the instruction sends
pub sent_along : {X : Type 0} (domain : Ghosts X) (context place : ℕ) (i : Instruction) (a : AbsState X) (next target : Option ℕ) → (option_to_list next ++ option_to_list target) ≡ edges_of place i
    → (message_to next (transfer_in domain context a false i) ++ message_to target (transfer_in domain context a true i)) ≡ sent_with domain context place (Some i) (Some a)
unfolding transfer_in
sent_along domain context place (instruction.Arithmetic o w dst b) a next target e = one_edge _ _ next target e
sent_along domain context place (instruction.Negate w dst) a next target e = one_edge _ _ next target e
sent_along domain context place (instruction.MoveSigned w count dst src) a next target e = one_edge _ _ next target e
sent_along domain context place (instruction.Convert order count dst) a next target e = one_edge _ _ next target e
sent_along domain context place (instruction.LoadImmediate dst n) a next target e = one_edge _ _ next target e
sent_along domain context place (instruction.Load count x dst base distance) a next target e = one_edge _ _ next target e
sent_along domain context place (instruction.Store count base distance b) a next target e = one_edge _ _ next target e
sent_along domain context place (instruction.Jump w distance) a next target e = one_edge _ _ next target e
sent_along domain context place (instruction.Branch c w left right distance) a next target e = two_edges _ _ _ _ next target e
sent_along domain context place (instruction.Call helper) a next target e = one_edge _ _ next target e
sent_along domain context place instruction.Exit a next target e = no_edge _ _ next target e
