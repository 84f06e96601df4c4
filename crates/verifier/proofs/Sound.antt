-- A program that passes flow and analysis is safe.
use Rattle.std.proofs.Common.{◌≡◌, ℕ, zero, suc, ◌+◌, ◌-◌, ◌<◌, ◌≤◌, ◌==◌, ◌⊎◌, inl, inr, Bool, true, false, cond, List, [], ◌∷◌, ◌++◌, length, Option, Some, None, Result, Ok, Err, refl, sym, ap, ◌∙◌, subst, arith}
use Rattle.std.proofs.lemmas.Bool.{cases_eq, eq-eqb}
use Rattle.std.specs.Option.{option_map_or, option_or}
use Rattle.std.specs.Prelude.{IsSome, slice_get, option_map}
use Rattle.refusals.specs.declared.RefusalNumber.{RefusalNumber}
use Rattle.abs_domain.specs.declared.domain.Domain.{Ghosts}
use Rattle.abs_regs.specs.Steps.{HasWord}
use Rattle.abs_states.proofs.Alike.{passes_alike}
use Rattle.abs_states.proofs.Answering.{Lawful}
use Rattle.abs_states.proofs.Follows.{follows, first_known, second_known, entry_known}
use Rattle.abs_states.specs.declared.state.AbsState.{AbsState}
use Rattle.abs_states.specs.States.{IsKnown, entry_state}
use Rattle.abs_states.specs.Steps.{HasWords, Goes, edge_of}
use Rattle.abs_states.specs.Transfers.{transfer_in}
use Rattle.bpf_profile.specs.declared.instruction.Instruction.{Instruction}
use Rattle.bpf_profile.specs.declared.instruction.Instruction.TheVariants as instruction
use Rattle.bpf_profile.specs.declared.instruction.Operand.{Operand}
use Rattle.bpf_profile.specs.declared.instruction.Operand.TheVariants as operand
use Rattle.bpf_profile.specs.declared.slot.Slot.{Slot}
use Rattle.bpf_profile.specs.declared.slot.Slot.TheVariants.{Ins, Tail}
use Rattle.bpf_profile.specs.declared.machine.TrapReason.{TrapReason}
use Rattle.bpf_profile.specs.Flow.{Edge, WalkFrom, IsBudget}
use Rattle.bpf_profile.specs.FlowFaults.{flow_fault, is_tail_at}
use Rattle.bpf_profile.specs.Machine.{State, Effect, goes, answers}
use Rattle.bpf_profile.specs.Meaning.{step, effect_of, effect_at, instruction_at, entry, Reaches}
use Rattle.bpf_profile.specs.Outcomes.{Outcome, IsOutcome}
use Rattle.bpf_profile.specs.Safety.{IsSafe}
use Rattle.bpf_profile.specs.Spelling.{IsProgram, is_tail}
use Rattle.bpf_profile.specs.SpellingFaults.{Fault}
use Rattle.bpf_profile.proofs.Edges.{edges_forward, instruction_there}
use Rattle.bpf_profile.proofs.Immediates.{OperandIsWord, InWords, in_words}
use Rattle.verifier.specs.Analysis.{Message, message_to, joined_into, received_one, received, sent_with, arriving, known_at, fault_in, fault_with, fault_at, fault_from, analysis_fault}
use Rattle.verifier.proofs.Edges.{to_instruction, within, forward, edge_at}
use Rattle.verifier.proofs.Known.{way_edge}

-- ---- what is known of a state of the machine

-- something is known, and it is so
abbrev Knows : {X : Type 0} → Ghosts X → Option (AbsState X) → State → Type 0
Knows {X} domain o s = (a : AbsState X) × (o ≡ Some a) × IsKnown domain a s

-- one of the messages goes to a slot, and what it says is so
abbrev Tells : {X : Type 0} → Ghosts X → List (Message X) → ℕ → State → Type 0
Tells domain [] to s = ⊥
Tells domain (m ∷ more) to s = ((m.to ≡ to) × IsKnown domain m.state s) ⊎ Tells domain more to s

tells_first : {X : Type 0} (domain : Ghosts X) (a b : List (Message X)) (to : ℕ) (s : State) → Tells domain a to s → Tells domain (a ++ b) to s
tells_first domain [] b to s h = absurd (elim h [ ])
tells_first domain (m ∷ a) b to s (inl h) = inl h
tells_first domain (m ∷ a) b to s (inr h) = inr (tells_first domain a b to s h)

tells_second : {X : Type 0} (domain : Ghosts X) (a b : List (Message X)) (to : ℕ) (s : State) → Tells domain b to s → Tells domain (a ++ b) to s
tells_second domain [] b to s h = h
tells_second domain (m ∷ a) b to s h = inr (tells_second domain a b to s h)

joined_keeps : {X : Type 0} (domain : Ghosts X) → Lawful domain → (o : Option (AbsState X)) (a : AbsState X) (s : State) → Knows domain o s → IsKnown domain (joined_into domain o a) s
joined_keeps {X} domain laws o a s (b, e, h) = subst (λ (k : Option (AbsState X)). IsKnown domain (joined_into domain k a) s) (sym e) (first_known domain laws b a s h)

joined_takes : {X : Type 0} (domain : Ghosts X) → Lawful domain → (o : Option (AbsState X)) (a : AbsState X) (s : State) → IsKnown domain a s → IsKnown domain (joined_into domain o a) s
joined_takes domain laws None a s h = h
joined_takes domain laws (Some b) a s h = second_known domain laws b a s h

one_keeps : {X : Type 0} (domain : Ghosts X) → Lawful domain → (to : ℕ) (o : Option (AbsState X)) (m : Message X) (s : State) → Knows domain o s → Knows domain (received_one domain to o m) s
one_keeps {X} domain laws to o m s h = by_test (m.to == to)
  where
    by_test : (t : Bool) → Knows domain (cond t (Some (joined_into domain o m.state)) o) s
    by_test true = (joined_into domain o m.state, refl, joined_keeps domain laws o m.state s h)
    by_test false = h

one_takes : {X : Type 0} (domain : Ghosts X) → Lawful domain → (to : ℕ) (o : Option (AbsState X)) (m : Message X) (s : State) → m.to ≡ to → IsKnown domain m.state s → Knows domain (received_one domain to o m) s
one_takes {X} domain laws to o m s e h =
    subst (λ (t : Bool). Knows domain (cond t (Some (joined_into domain o m.state)) o) s) (sym (eq-eqb m.to to e)) (joined_into domain o m.state, refl, joined_takes domain laws o m.state s h)

received_keeps : {X : Type 0} (domain : Ghosts X) → Lawful domain → (to : ℕ) (o : Option (AbsState X)) (messages : List (Message X)) (s : State) → Knows domain o s → Knows domain (received domain to o messages) s
received_keeps domain laws to o [] s h = h
received_keeps domain laws to o (m ∷ more) s h = received_keeps domain laws to (received_one domain to o m) more s (one_keeps domain laws to o m s h)

received_takes : {X : Type 0} (domain : Ghosts X) → Lawful domain → (to : ℕ) (o : Option (AbsState X)) (messages : List (Message X)) (s : State) → Tells domain messages to s → Knows domain (received domain to o messages) s
received_takes domain laws to o [] s h = absurd (elim h [ ])
received_takes domain laws to o (m ∷ more) s (inl h) = received_keeps domain laws to (received_one domain to o m) more s (one_takes domain laws to o m s h.0 h.1)
received_takes domain laws to o (m ∷ more) s (inr h) = received_takes domain laws to (received_one domain to o m) more s h

-- what is known of what some slots send is known of what more of them send
arriving_keeps : {X : Type 0} (domain : Ghosts X) → Lawful domain → (context : ℕ) (slots : List Slot) (to from count extra : ℕ) (s : State) → count ≡ extra + from → Knows domain (arriving domain context slots from to) s → Knows domain (arriving domain context slots count to) s
unfolding arriving
arriving_keeps {X} domain laws context slots to from count zero s e h = subst (λ (n : ℕ). Knows domain (arriving domain context slots n to) s) (omega (arith, e)) h
arriving_keeps domain laws context slots to from zero (suc extra) s e h = absurd (omega (arith, e))
arriving_keeps domain laws context slots to from (suc count) (suc extra) s e h =
    received_keeps domain laws to (arriving domain context slots count to) (sent_with domain context count (instruction_at slots count) (arriving domain context slots count count)) s (arriving_keeps domain laws context slots to from count extra s (omega (arith, e)) h)

-- ---- what an instruction sends

told : {X : Type 0} (domain : Ghosts X) (o : Option ℕ) (r : Result (AbsState X) RefusalNumber) (to : ℕ) (a : AbsState X) (s : State) → o ≡ Some to → r ≡ Ok a → IsKnown domain a s → Tells domain (message_to o r) to s
told {X} domain o r to a s p q h =
    subst (λ (k : Option ℕ). Tells domain (message_to k r) to s) (sym p) (subst (λ (k : Result (AbsState X) RefusalNumber). Tells domain (message_to (Some to) k) to s) (sym q) (inl (refl, h)))

sends : {X : Type 0} (domain : Ghosts X) (context place : ℕ) (i : Instruction) (a after : AbsState X) (taken : Bool) (to : ℕ) (s : State) → edge_of place i taken ≡ Some to → transfer_in domain context a taken i ≡ Ok after → IsKnown domain after s
    → Tells domain (sent_with domain context place (Some i) (Some a)) to s
sends domain context place i a after false to s e passes h = tells_first domain (message_to (edge_of place i false) (transfer_in domain context a false i)) (message_to (edge_of place i true) (transfer_in domain context a true i)) to s (told domain _ _ to after s e passes h)
sends domain context place i a after true to s e passes h = tells_second domain (message_to (edge_of place i false) (transfer_in domain context a false i)) (message_to (edge_of place i true) (transfer_in domain context a true i)) to s (told domain _ _ to after s e passes h)

-- ---- no fault

no_fault : {X : Type 0} (domain : Ghosts X) (context : ℕ) (slots : List Slot) (from count place : ℕ) → fault_from domain context slots from count ≡ None → from ≤ place → place < from + count → fault_at domain context slots place ≡ None
unfolding fault_from
no_fault domain context slots from zero place e low high = absurd (omega (arith, low, high))
no_fault {X} domain context slots from (suc count) place e low high =
    let both = by_option (fault_at domain context slots from) (fault_from domain context slots (suc from) count) e in
    elim (cases_eq place from) [
      | inl same ↦ ap (fault_at domain context slots) same ∙ both.0
      | inr other ↦ no_fault domain context slots (suc from) count place both.1 (omega (arith, low, other)) (omega (arith, high))
    ]
  where
    by_option : (o : Option RefusalNumber) (rest : Option Fault) → option_or (option_map (λ number. record { slot = from; number = number }) o) rest ≡ None → (o ≡ None) × (rest ≡ None)
    by_option None rest e = (refl, e)
    by_option (Some number) rest e = absurd (let f : ◌≡◌ {A = Option Fault} (Some (record { slot = from; number = number })) None = e in cc)

passes : {X : Type 0} (domain : Ghosts X) (context : ℕ) (slots : List Slot) (place : ℕ) (i : Instruction) (a : AbsState X) → fault_at domain context slots place ≡ None → instruction_at slots place ≡ Some i → known_at domain context slots place ≡ Some a
    → (after : AbsState X) × (transfer_in domain context a false i ≡ Ok after)
unfolding fault_at
passes {X} domain context slots place i a e at known =
    by_result (transfer_in domain context a false i) refl
    (sym (ap (λ (o : Option Instruction). fault_with domain context o (known_at domain context slots place)) at ∙ ap (fault_with domain context (Some i)) known) ∙ e)
  where
    by_result : (r : Result (AbsState X) RefusalNumber) → transfer_in domain context a false i ≡ r → fault_in r ≡ None → (after : AbsState X) × (transfer_in domain context a false i ≡ Ok after)
    by_result (Ok after) is h = (after, is)
    by_result (Err number) is h = absurd (let f : ◌≡◌ {A = Option RefusalNumber} (Some number) None = h in cc)

-- ---- runs

-- immediates and offsets of the program's instructions are words
abbrev pub AreWords : List Slot → Type 0
AreWords slots = (place : ℕ) (i : Instruction) → instruction_at slots place ≡ Some i → HasWords i

-- they are, by how they stand in slots
pub are_words : (slots : List Slot) → IsProgram slots → AreWords slots
are_words slots program place i at = has_words i (in_words slots program place i at)
  where
    operand_word : (b : Operand) → OperandIsWord b → HasWord b
    operand_word (operand.Register r) h = h
    operand_word (operand.Immediate n) h = h

    has_words : (i : Instruction) → InWords i → HasWords i
    has_words (instruction.Arithmetic o w dst b) h = operand_word b h
    has_words (instruction.Negate w dst) h = tt
    has_words (instruction.MoveSigned w count dst src) h = tt
    has_words (instruction.Convert order count dst) h = tt
    has_words (instruction.LoadImmediate dst n) h = h
    has_words (instruction.Load count x dst base distance) h = h
    has_words (instruction.Store count base distance b) h = (h.0, operand_word b h.1)
    has_words (instruction.Jump w distance) h = tt
    has_words (instruction.Branch c w left right distance) h = operand_word right h
    has_words (instruction.Call helper) h = tt
    has_words instruction.Exit h = tt

step_is : (context : ℕ) (slots : List Slot) (outcome : Outcome) (s : State) (i : Instruction) → instruction_at slots s.slot ≡ Some i → step context slots outcome s ≡ effect_of context outcome s i
unfolding step
step_is context slots outcome s i at = ap (effect_at context outcome s) at

-- a state that is as known at a slot that has an instruction
pub record Stands {X : Type 0} (domain : Ghosts X) (context : ℕ) (slots : List Slot) (s : State) : Type 0 where
  pub i : Instruction
  pub at : instruction_at slots s.slot ≡ Some i
  pub state : AbsState X
  pub there : known_at domain context slots s.slot ≡ Some state
  pub known : IsKnown domain state s

-- a run from a state to an answer, and the walk that it makes
record RunsOut (context : ℕ) (slots : List Slot) (outcome : Outcome) (s : State) : Type 0 where
  count : ℕ
  last : State
  answer : ℕ
  walk : List ℕ
  reached : Reaches context slots outcome s count last
  answered : step context slots outcome last ≡ Ok (answers answer)
  small : answer ≤ 2
  walked : WalkFrom slots s.slot walk
  long : length walk ≡ count

-- on the way that a step takes what was sent is known
stands_next : {X : Type 0} (domain : Ghosts X) → Lawful domain → (context : ℕ) (slots : List Slot) → IsProgram slots → flow_fault slots ≡ None → (s : State) (k : Stands domain context slots s) (after : AbsState X)
    → transfer_in domain context k.state false k.i ≡ Ok after → (effect : Result Effect TrapReason) (g : Goes domain context s.slot k.i k.state effect) → Edge slots s.slot g.next.slot → Stands domain context slots g.next
unfolding arriving
stands_next {X} domain laws context slots program accepted s k after ok effect g edge =
    let way = passes_alike domain context k.state after g.taken k.i ok in
    let there = to_instruction slots g.next.slot (edges_forward slots program accepted s.slot g.next.slot edge).1 in
    let later = (forward slots program accepted s.slot g.next.slot edge).0 in
    let tells = sends domain context s.slot k.i k.state way.0 g.taken g.next.slot g.next g.edge way.1 (g.known way.0 way.1) in
    let sent : Tells domain (sent_with domain context s.slot (instruction_at slots s.slot) (arriving domain context slots s.slot s.slot)) g.next.slot g.next =
    subst (λ (o : Option Instruction). Tells domain (sent_with domain context s.slot o (arriving domain context slots s.slot s.slot)) g.next.slot g.next) (sym k.at)
    (subst (λ (o : Option (AbsState X)). Tells domain (sent_with domain context s.slot (Some k.i) o) g.next.slot g.next) (sym k.there) tells) in
    let arrived : Knows domain (arriving domain context slots (suc s.slot) g.next.slot) g.next =
    received_takes domain laws g.next.slot (arriving domain context slots s.slot g.next.slot) (sent_with domain context s.slot (instruction_at slots s.slot) (arriving domain context slots s.slot s.slot)) g.next sent in
    let known = arriving_keeps domain laws context slots g.next.slot (suc s.slot) g.next.slot (g.next.slot - suc s.slot) g.next (omega (arith, later)) arrived in
    record { i = there.0; at = there.1; state = known.0; there = known.1; known = known.2 }

runs_out : {X : Type 0} (domain : Ghosts X) → Lawful domain → (context : ℕ) (slots : List Slot) → IsProgram slots → flow_fault slots ≡ None → analysis_fault domain context slots ≡ None → AreWords slots
    → (outcome : Outcome) → IsOutcome context outcome → (fuel : ℕ) (s : State) → length slots ≤ fuel + s.slot → Stands domain context slots s → RunsOut context slots outcome s
unfolding Reaches
runs_out domain laws context slots program accepted analysed words outcome is zero s h k = absurd (let w = within slots s.slot k.i k.at in omega arith)
runs_out {X} domain laws context slots program accepted analysed words outcome is (suc fuel) s h k =
    let here = within slots s.slot k.i k.at in
    let ok = passes domain context slots s.slot k.i k.state (no_fault domain context slots 0 (length slots) s.slot analysed (omega arith) (omega arith)) k.at k.there in
    let does = step_is context slots outcome s k.i k.at in
    elim (follows domain laws context outcome s k.state ok.0 k.i k.known is (words s.slot k.i k.at) ok.1) [
      | inl a ↦ record {
        count = 0;
        last = s;
        answer = a.answer;
        walk = [];
        reached = refl;
        answered = does ∙ a.answers;
        small = a.small;
        walked = tt;
        long = refl;
      }
      | inr g ↦
          (let edge = edge_at slots s.slot g.next.slot k.i k.at (way_edge s.slot k.i g.taken g.next.slot g.edge) in
          let next = stands_next domain laws context slots program accepted s k ok.0 ok.1 _ g edge in
          let later = (forward slots program accepted s.slot g.next.slot edge).0 in
          let rest = runs_out domain laws context slots program accepted analysed words outcome is fuel g.next (omega arith) next in
          record {
            count = suc rest.count;
            last = rest.last;
            answer = rest.answer;
            walk = g.next.slot ∷ rest.walk;
            reached = (g.next, does ∙ g.goes, rest.reached);
            answered = rest.answered;
            small = rest.small;
            walked = (edge, rest.walked);
            long = ap suc rest.long;
          })
    ]

-- ---- from the entry

-- a program starts with an instruction, since it doesn't start with a tail
pub starts : (slots : List Slot) → IsProgram slots → IsSome (instruction_at slots 0)
starts slots program = instruction_there slots program 0 program.some (by_slot (slice_get slots 0) refl)
  where
    by_slot : (o : Option Slot) → slice_get slots 0 ≡ o → is_tail_at slots 0 ≡ false
    by_slot None e = ap (λ (x : Option Slot). option_map_or is_tail x false) e
    by_slot (Some (Ins op dst src off imm)) e = ap (λ (x : Option Slot). option_map_or is_tail x false) e
    by_slot (Some (Tail high)) e = absurd (let before = program.tails 0 high e in let at : 0 ≡ suc before.0 = before.2 in omega (arith, at))

stands_at_entry : {X : Type 0} (domain : Ghosts X) → Lawful domain → (context : ℕ) (slots : List Slot) → IsProgram slots → Stands domain context slots entry
unfolding arriving
stands_at_entry domain laws context slots program =
    let first = to_instruction slots 0 (starts slots program) in
    record { i = first.0; at = first.1; state = entry_state domain; there = refl; known = entry_known domain laws }

-- ---- every state that a run comes to

-- a state where the analysis found no fault
pub passes_at : {X : Type 0} (domain : Ghosts X) (context : ℕ) (slots : List Slot) (s : State) (k : Stands domain context slots s) → analysis_fault domain context slots ≡ None
    → (after : AbsState X) × (transfer_in domain context k.state false k.i ≡ Ok after)
passes_at domain context slots s k analysed =
    let here = within slots s.slot k.i k.at in
    passes domain context slots s.slot k.i k.state (no_fault domain context slots 0 (length slots) s.slot analysed (omega arith) (omega (arith, here))) k.at k.there

same_goes : (a b : State) → ◌≡◌ {A = Result Effect TrapReason} (Ok (goes a)) (Ok (goes b)) → a ≡ b
same_goes a b e = cc

not_both : (n : ℕ) (s : State) → ◌≡◌ {A = Result Effect TrapReason} (Ok (answers n)) (Ok (goes s)) → ⊥
not_both n s e = cc

-- behind a step the next state is as known
stands_on : {X : Type 0} (domain : Ghosts X) → Lawful domain → (context : ℕ) (slots : List Slot) → IsProgram slots → flow_fault slots ≡ None → analysis_fault domain context slots ≡ None → AreWords slots
    → (outcome : Outcome) → IsOutcome context outcome → (s u : State) → Stands domain context slots s → step context slots outcome s ≡ Ok (goes u) → Stands domain context slots u
stands_on {X} domain laws context slots program accepted analysed words outcome is s u k goes_to =
    let ok = passes_at domain context slots s k analysed in
    let does = step_is context slots outcome s k.i k.at in
    elim (follows domain laws context outcome s k.state ok.0 k.i k.known is (words s.slot k.i k.at) ok.1) [
      | inl a ↦ absurd (not_both a.answer u (sym a.answers ∙ (sym does ∙ goes_to)))
      | inr g ↦
          (let edge = edge_at slots s.slot g.next.slot k.i k.at (way_edge s.slot k.i g.taken g.next.slot g.edge) in
          subst (Stands domain context slots) (same_goes g.next u (sym g.goes ∙ (sym does ∙ goes_to))) (stands_next domain laws context slots program accepted s k ok.0 ok.1 _ g edge))
    ]

stands_far : {X : Type 0} (domain : Ghosts X) → Lawful domain → (context : ℕ) (slots : List Slot) → IsProgram slots → flow_fault slots ≡ None → analysis_fault domain context slots ≡ None → AreWords slots
    → (outcome : Outcome) → IsOutcome context outcome → (count : ℕ) (s t : State) → Stands domain context slots s → Reaches context slots outcome s count t → Stands domain context slots t
unfolding Reaches
stands_far domain laws context slots program accepted analysed words outcome is zero s t k reached = subst (Stands domain context slots) reached k
stands_far domain laws context slots program accepted analysed words outcome is (suc count) s t k (u, first, rest) =
    stands_far domain laws context slots program accepted analysed words outcome is count u t (stands_on domain laws context slots program accepted analysed words outcome is s u k first) rest

-- from the entry on
pub reached_stands : {X : Type 0} (domain : Ghosts X) → Lawful domain → (context : ℕ) (slots : List Slot) → IsProgram slots → flow_fault slots ≡ None → analysis_fault domain context slots ≡ None → AreWords slots
    → (outcome : Outcome) → IsOutcome context outcome → (count : ℕ) (s : State) → Reaches context slots outcome entry count s → Stands domain context slots s
reached_stands domain laws context slots program accepted analysed words outcome is count s reached =
    stands_far domain laws context slots program accepted analysed words outcome is count entry s (stands_at_entry domain laws context slots program) reached

pub sound : {X : Type 0} (domain : Ghosts X) → Lawful domain → (context : ℕ) (slots : List Slot) (budget : ℕ) → IsProgram slots → flow_fault slots ≡ None → IsBudget slots budget → analysis_fault domain context slots ≡ None → AreWords slots
    → IsSafe context slots budget
sound domain laws context slots budget program accepted budgeted analysed words = record {
  budgeted = budgeted;
  ends = λ outcome is.
      let run = runs_out domain laws context slots program accepted analysed words outcome is (length slots) entry (omega arith) (stands_at_entry domain laws context slots program) in
      let short : suc run.count ≤ budget = (let l = budgeted.longest (0 ∷ run.walk) (refl, run.walked) in omega (arith, l, run.long)) in
      (run.answer, suc run.count, run.small, short, record { before = run.count; last = run.last; counted = refl; reached = run.reached; answered = run.answered });
}
