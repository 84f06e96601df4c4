-- A step of the machine follows what is known before it: it doesn't trap, and what is known on the way that it takes is so.
use Rattle.std.proofs.Common.{◌≡◌, ℕ, ◌+◌, ◌≤◌, ◌⊎◌, inl, inr, Bool, true, false, cond, List, Some, Result, Ok, Err, refl, sym, ap, ◌∙◌, subst, arith}
use Rattle.std.proofs.lemmas.Bool.{leb-true, le-leb}
use Rattle.std.specs.Prelude.{nat_le, slice_set, if◌then◌else◌}
use Rattle.refusals.specs.declared.RefusalNumber.{RefusalNumber}
use Rattle.refusals.specs.declared.RefusalNumber.TheVariants as refusal
use Rattle.abs_domain.specs.declared.domain.Domain.{Ghosts}
use Rattle.abs_regs.proofs.Compared.{branch_follows, address_follows}
use Rattle.abs_regs.proofs.Computed.{arithmetic_gives, negation_gives, signed_move_gives, byte_order_gives}
use Rattle.abs_regs.proofs.Described.{err_not_ok, same_ok, first_joined, second_joined, entry_described, set_described, set_held, number_held, value_of_operand, operand_held, operand_read}
use Rattle.abs_regs.specs.declared.value.AbsVal.{AbsVal}
use Rattle.abs_regs.specs.declared.value.AbsVal.TheVariants as known
use Rattle.abs_regs.specs.Steps.{Gives, HasWord}
use Rattle.abs_regs.specs.Transfers.{set_in, number_in, operand_in, result_in, negated_in, extended_in, reordered_in, branched_in, address_in}
use Rattle.abs_regs.specs.Transfers.{◌>>=◌ as ◌then◌}
use Rattle.abs_regs.specs.Values.{IsAs, value_in}
use Rattle.abs_states.proofs.Answering.{Lawful, answers_as, called_described}
use Rattle.abs_states.specs.Calls.{answer_in, called_values, written_in}
use Rattle.abs_states.specs.declared.state.AbsState.{AbsState}
use Rattle.abs_states.specs.States.{IsKnown, entry_state, joined_state}
use Rattle.abs_states.specs.Steps.{HasWords, Answers, Goes, edge_of}
use Rattle.abs_states.specs.Transfers.{sets_in, stores_in, branches_in, calls_in, exits_in, transfer_in}
use Rattle.bpf_profile.specs.declared.instruction.Comparison.{Comparison}
use Rattle.bpf_profile.specs.declared.instruction.Extension.{Extension}
use Rattle.bpf_profile.specs.declared.instruction.Instruction.{Instruction}
use Rattle.bpf_profile.specs.declared.instruction.Instruction.TheVariants as instruction
use Rattle.bpf_profile.specs.declared.instruction.Operand.{Operand}
use Rattle.bpf_profile.specs.declared.instruction.Size.{Size}
use Rattle.bpf_profile.specs.declared.instruction.Width.{Width}
use Rattle.bpf_profile.specs.declared.machine.Cell.{Cell as Byte}
use Rattle.bpf_profile.specs.declared.machine.TrapReason.{TrapReason}
use Rattle.bpf_profile.specs.declared.machine.TrapReason.TheVariants as trap
use Rattle.bpf_profile.specs.declared.machine.Value.{Value}
use Rattle.bpf_profile.specs.declared.machine.Value.TheVariants as value
use Rattle.bpf_profile.specs.Helpers.{Answer, after_call}
use Rattle.bpf_profile.specs.Machine.{State, Effect, Address, goes, answers, ensured, register_of, set_value, read_operand, number_or, address_of, is_stack, place_for, cells_of, overwritten, load_value, stored, target_of, branched, exited, ◌>>=◌}
use Rattle.bpf_profile.specs.Meaning.{effect_of, entry, sets}
use Rattle.bpf_profile.specs.Outcomes.{Outcome, IsOutcome}
use Rattle.bpf_profile.specs.Words.{IsWord, bytes_in}
use Rattle.stack_track.proofs.Known.{cells_first, cells_second, entry_follows}
use Rattle.stack_track.proofs.Loads.{load_follows}
use Rattle.stack_track.proofs.Stores.{store_follows}
use Rattle.stack_track.specs.declared.cell.Cell.{Cell}
use Rattle.stack_track.specs.Accesses.{load_at, store_at}
use Rattle.stack_track.specs.Steps.{loaded_from}

-- ---- paths that meet, and the entry

pub first_known : {X : Type 0} (domain : Ghosts X) → Lawful domain → (a b : AbsState X) (s : State) → IsKnown domain a s → IsKnown domain (joined_state domain a b) s
first_known domain laws a b s p = record { registers = first_joined domain laws.registers a.registers b.registers s.registers p.registers; stack = cells_first domain laws.cells a.stack b.stack s.stack p.stack }

pub second_known : {X : Type 0} (domain : Ghosts X) → Lawful domain → (a b : AbsState X) (s : State) → IsKnown domain b s → IsKnown domain (joined_state domain a b) s
second_known domain laws a b s p = record { registers = second_joined domain laws.registers a.registers b.registers s.registers p.registers; stack = cells_second domain laws.cells a.stack b.stack s.stack p.stack }

pub entry_known : {X : Type 0} (domain : Ghosts X) → Lawful domain → IsKnown domain (entry_state domain) entry
entry_known domain laws = record { registers = entry_described domain laws.registers; stack = entry_follows domain }

-- ---- results

then_ok : {A B : Type 0} (r : Result A RefusalNumber) (f : A → Result B RefusalNumber) (b : B) → (r then f) ≡ Ok b → (a : A) × (r ≡ Ok a) × (f a ≡ Ok b)
then_ok (Ok a) f b h = (a, refl, h)
then_ok (Err number) f b h = absurd (err_not_ok number b h)

if_ok : {A E : Type 0} (t : Bool) (a b : A) (e : E) → cond t (Ok a) (Err e) ≡ Ok b → (t ≡ true) × (a ≡ b)
if_ok true a b e h = (refl, same_ok a b h)
if_ok false a b e h = absurd (err_not_ok e b h)

ensured_true : (test : Bool) (reason : TrapReason) → test ≡ true → ensured test reason ≡ Ok tt
ensured_true true reason h = refl
ensured_true false reason h = absurd (let g : false ≡ true = h in cc)

known_at : {X : Type 0} (domain : Ghosts X) (a b : AbsState X) (s : State) → a ≡ b → IsKnown domain a s → IsKnown domain b s
known_at domain a b s e h = subst (λ (k : AbsState _). IsKnown domain k s) e h

-- ---- an instruction that sets a register, and goes on so many slots behind the next

abbrev set_state : {X : Type 0} → AbsState X → ℕ → AbsVal X → AbsState X
set_state a dst k = record { registers = slice_set a.registers dst k; stack = a.stack }

set_goes : {X : Type 0} (domain : Ghosts X) (context : ℕ) (s : State) (i : Instruction) (a after : AbsState X) (dst : ℕ) (r : Result (AbsVal X) RefusalNumber) (m : Result Value TrapReason) → IsKnown domain a s
    → sets_in a dst r ≡ Ok after → ((k : AbsVal X) → r ≡ Ok k → Gives domain k m) → edge_of s.slot i false ≡ Some (s.slot + 1) → transfer_in domain context a false i ≡ sets_in a dst r → Goes domain context s.slot i a (sets s dst m)
set_goes {X} domain context s i a after dst r m p e gives edge is =
    let ok = then_ok r (λ k. Ok (set_state a dst k)) after e in
    let given = gives ok.0 ok.1 in
    let next : State = record { slot = s.slot + 1 + 0; registers = slice_set s.registers dst given.0; stack = s.stack } in
    record {
      next = next;
      goes = ap (sets s dst) given.1;
      taken = false;
      edge = edge ∙ ap Some (omega arith);
      known = λ b passes.
          known_at domain (set_state a dst ok.0) b next (same_ok _ _ (ok.2 ∙ (sym e ∙ (sym is ∙ passes))))
          (record { registers = set_described domain a.registers s.registers dst ok.0 given.0 p.registers given.2; stack = p.stack });
    }

-- ---- loads and stores

abbrev load_from : ℕ → Outcome → State → Size → Extension → ℕ → Value → Result Value TrapReason
load_from context outcome s access x distance v = set_value v >>= (λ (pointer : Value). address_of pointer distance >>= (λ (at : Address). loaded_from context outcome s at x access))

load_gives : {X : Type 0} (domain : Ghosts X) → Lawful domain → (context : ℕ) (outcome : Outcome) (s : State) (a : AbsState X) (access : Size) (x : Extension) (base distance : ℕ) (k : AbsVal X) → IsKnown domain a s → IsWord distance
    → (address_in domain (value_in a.registers base) distance then (λ at. load_at domain context a.stack at x access)) ≡ Ok k → Gives domain k (load_value context outcome s access x base distance)
load_gives {X} domain laws context outcome s a access x base distance k p word e =
    let to = then_ok (address_in domain (value_in a.registers base) distance) (λ at. load_at domain context a.stack at x access) k e in
    let there = address_follows domain laws.registers (value_in a.registers base) to.0 (register_of s base) distance (p.registers.each base) word to.1 in
    let given = load_follows domain laws.cells context outcome s a.stack to.0 there.1 x access k p.stack there.3 to.2 in (
      given.0,
      ap (λ (r : Result Value TrapReason). r >>= (λ (pointer : Value). address_of pointer distance >>= (λ (at : Address). loaded_from context outcome s at x access))) there.0
          ∙ (ap (λ (r : Result Address TrapReason). r >>= (λ (at : Address). loaded_from context outcome s at x access)) there.2 ∙ given.1),
      given.2,
    )

abbrev stored_at : ℕ → State → Size → Value → Address → Result Effect TrapReason
stored_at context s access v at = do
  writable ← ensured (is_stack at.region) trap.ContextWrite
  place ← place_for context (bytes_in access) at
  cells ← cells_of (bytes_in access) v
  Ok (goes (record { slot = s.slot + 1; registers = s.registers; stack = overwritten s.stack place cells }))

abbrev stored_from : ℕ → State → Size → ℕ → Result Value TrapReason → Result Value TrapReason → Result Effect TrapReason
stored_from context s access distance p v = p >>= (λ (pointer : Value). v >>= (λ (w : Value). address_of pointer distance >>= (λ (at : Address). stored_at context s access w at)))

store_goes : {X : Type 0} (domain : Ghosts X) → Lawful domain → (context : ℕ) (s : State) (a after : AbsState X) (access : Size) (base distance : ℕ) (b : Operand) → IsKnown domain a s → IsWord distance → HasWord b
    → stores_in domain a access base distance b ≡ Ok after → Goes domain context s.slot (instruction.Store access base distance b) a (stored context s access base distance b)
unfolding transfer_in
store_goes {X} domain laws context s a after access base distance b p word words e =
    let stack_after : Result (List (Cell X)) RefusalNumber → Result (AbsState X) RefusalNumber = λ r. r then (λ stack. Ok (record { registers = a.registers; stack = stack })) in
    let pointer = then_ok (set_in (value_in a.registers base)) (λ k. set_in (operand_in domain a.registers b) then (λ v. address_in domain k distance then (λ at. stack_after (store_at a.stack at v access)))) after e in
    let operand = then_ok (set_in (operand_in domain a.registers b)) (λ v. address_in domain pointer.0 distance then (λ at. stack_after (store_at a.stack at v access))) after pointer.2 in
    let to = then_ok (address_in domain pointer.0 distance) (λ at. stack_after (store_at a.stack at operand.0 access)) after operand.2 in
    let cells = then_ok (store_at a.stack to.0 operand.0 access) (λ stack. Ok (record { registers = a.registers; stack = stack })) after to.2 in
    let base_set = set_held domain (value_in a.registers base) pointer.0 (register_of s base) (p.registers.each base) pointer.1 in
    let held = operand_held domain laws.registers s a.registers b p.registers words in
    let operand_set = set_held domain (operand_in domain a.registers b) operand.0 (value_of_operand s b) held operand.1 in
    let is_pointer : IsAs domain pointer.0 (register_of s base) = subst (λ (k : AbsVal X). IsAs domain k (register_of s base)) base_set.1 (p.registers.each base) in
    let is_operand : IsAs domain operand.0 (value_of_operand s b) = subst (λ (k : AbsVal X). IsAs domain k (value_of_operand s b)) operand_set.1 held in
    let there = address_follows domain laws.registers pointer.0 to.0 (register_of s base) distance is_pointer word to.1 in
    let stores = store_follows domain context s.stack a.stack cells.0 to.0 there.1 operand.0 access (value_of_operand s b) p.stack there.3 is_operand cells.1 in
    let next : State = record { slot = s.slot + 1; registers = s.registers; stack = overwritten s.stack stores.place stores.bytes } in
    record {
      next = next;
      goes =
          ap (λ (r : Result Value TrapReason). stored_from context s access distance r (read_operand s b)) base_set.0
          ∙ (ap (stored_from context s access distance (Ok (register_of s base))) (operand_read s b ∙ operand_set.0)
          ∙ (ap (λ (r : Result Address TrapReason). r >>= (λ (at : Address). stored_at context s access (value_of_operand s b) at)) there.2
          ∙ (ap (λ (r : Result (Unit {0}) TrapReason). r >>= (λ (u : Unit {0}). place_for context (bytes_in access) there.1 >>= (λ (place : ℕ). cells_of (bytes_in access) (value_of_operand s b) >>= (λ (bytes : List Byte). Ok (goes (record { slot = s.slot + 1; registers = s.registers; stack = overwritten s.stack place bytes })))))) (ensured_true (is_stack there.1.region) trap.ContextWrite stores.writable)
          ∙ (ap (λ (r : Result ℕ TrapReason). r >>= (λ (place : ℕ). cells_of (bytes_in access) (value_of_operand s b) >>= (λ (bytes : List Byte). Ok (goes (record { slot = s.slot + 1; registers = s.registers; stack = overwritten s.stack place bytes }))))) stores.placed
          ∙ ap (λ (r : Result (List Byte) TrapReason). r >>= (λ (bytes : List Byte). Ok (goes (record { slot = s.slot + 1; registers = s.registers; stack = overwritten s.stack stores.place bytes })))) stores.spelled))));
      taken = false;
      edge = refl;
      known = λ c passes. known_at domain (record { registers = a.registers; stack = cells.0 }) c next (same_ok _ _ (cells.2 ∙ (sym e ∙ passes))) (record { registers = p.registers; stack = stores.after });
    }

-- ---- jumps, calls, the end

branch_goes : {X : Type 0} (domain : Ghosts X) → Lawful domain → (context : ℕ) (s : State) (a after : AbsState X) (c : Comparison) (w : Width) (left : ℕ) (right : Operand) (distance : ℕ) → IsKnown domain a s → HasWord right
    → branches_in domain a false c w left right ≡ Ok after → Goes domain context s.slot (instruction.Branch c w left right distance) a (branched s c w left right distance)
unfolding transfer_in
branch_goes {X} domain laws context s a after c w left right distance p words e =
    let ok = then_ok (branched_in domain c w false a.registers left right) (λ registers. Ok (record { registers = registers; stack = a.stack })) after e in
    let b = branch_follows domain laws.registers s a.registers ok.0 c w false left right distance p.registers words ok.1 in
    let next : State = record { slot = if b.holds then target_of s.slot distance else s.slot + 1; registers = s.registers; stack = s.stack } in
    record {
      next = next;
      goes = b.goes;
      taken = b.holds;
      edge = way b.holds;
      known = λ k passes.
          let learnt = then_ok (branched_in domain c w b.holds a.registers left right) (λ registers. Ok (record { registers = registers; stack = a.stack })) k passes in
          known_at domain (record { registers = learnt.0; stack = a.stack }) k next (same_ok _ _ learnt.2) (record { registers = b.follows learnt.0 learnt.1; stack = p.stack });
    }
  where
    way : (t : Bool) → edge_of s.slot (instruction.Branch c w left right distance) t ≡ Some (cond t (target_of s.slot distance) (s.slot + 1))
    way true = refl
    way false = refl

call_goes : {X : Type 0} (domain : Ghosts X) → Lawful domain → (context : ℕ) (outcome : Outcome) (s : State) (a after : AbsState X) (helper : ℕ) → IsKnown domain a s → IsOutcome context outcome
    → calls_in domain context a helper ≡ Ok after → Goes domain context s.slot (instruction.Call helper) a (effect_of context outcome s (instruction.Call helper))
unfolding transfer_in effect_of
call_goes {X} domain laws context outcome s a after helper p is e =
    let ok = then_ok (answer_in domain context a helper) (λ r. Ok (record { registers = called_values a.registers r.answer; stack = written_in a.stack r.written })) after e in
    let given = answers_as domain laws context outcome s a ok.0 helper p is ok.1 in
    let next : State = record { slot = s.slot + 1; registers = after_call s.registers given.found.answer; stack = given.found.stack } in
    record {
      next = next;
      goes = ap (λ (r : Result Answer TrapReason). r >>= (λ (m : Answer). Ok (goes (record { slot = s.slot + 1; registers = after_call s.registers m.answer; stack = m.stack })))) given.is;
      taken = false;
      edge = refl;
      known = λ k passes.
          known_at domain (record { registers = called_values a.registers ok.0.answer; stack = written_in a.stack ok.0.written }) k next (same_ok _ _ (ok.2 ∙ (sym e ∙ passes)))
          (record { registers = called_described domain a.registers s.registers ok.0.answer given.found.answer p.registers given.contained; stack = given.after });
    }

abbrev exit_of : Value → Result Effect TrapReason
exit_of w = do
  v ← set_value w
  n ← number_or trap.Pointer v
  small ← ensured (nat_le n 2) trap.Answer
  Ok (answers n)

exit_answers : {X : Type 0} (domain : Ghosts X) → Lawful domain → (s : State) (a after : AbsState X) → IsKnown domain a s → exits_in domain a ≡ Ok after → Answers (exited s)
exit_answers {X} domain laws s a after p e =
    let number = then_ok (number_in (value_in a.registers 0)) (λ n. if nat_le (domain.bounds_of n).high 2 then Ok a else Err refusal.AnswerRange) after e in
    let held = number_held domain (value_in a.registers 0) number.0 (register_of s 0) (p.registers.each 0) number.1 in
    let test = if_ok (nat_le (domain.bounds_of number.0).high 2) a after refusal.AnswerRange number.2 in
    let inside = laws.registers.sound.bounds number.0 held.0 held.2 in
    let small : held.0 ≤ 2 = (let l = leb-true (domain.bounds_of number.0).high 2 test.0 in omega (arith, l, inside.1)) in
    record {
      answer = held.0;
      answers = ap exit_of held.1 ∙ ap (λ (r : Result (Unit {0}) TrapReason). r >>= (λ (u : Unit {0}). Ok (answers held.0))) (ensured_true (nat_le held.0 2) trap.Answer (le-leb held.0 2 small));
      small = small;
    }

-- ---- every instruction

pub follows : {X : Type 0} (domain : Ghosts X) → Lawful domain → (context : ℕ) (outcome : Outcome) (s : State) (a after : AbsState X) (i : Instruction) → IsKnown domain a s → IsOutcome context outcome → HasWords i
    → transfer_in domain context a false i ≡ Ok after → Answers (effect_of context outcome s i) ⊎ Goes domain context s.slot i a (effect_of context outcome s i)
unfolding transfer_in effect_of
follows domain laws context outcome s a after (instruction.Arithmetic o w dst b) p is words e =
    inr (set_goes domain context s (instruction.Arithmetic o w dst b) a after dst (result_in domain o w (value_in a.registers dst) (operand_in domain a.registers b)) _ p e
    (λ k given. arithmetic_gives domain laws.registers s a.registers o w dst b k p.registers words given) refl refl)
follows domain laws context outcome s a after (instruction.Negate w dst) p is words e =
    inr (set_goes domain context s (instruction.Negate w dst) a after dst (negated_in domain w (value_in a.registers dst)) _ p e (λ k given. negation_gives domain laws.registers s a.registers w dst k p.registers given) refl refl)
follows domain laws context outcome s a after (instruction.MoveSigned w access dst src) p is words e =
    inr (set_goes domain context s (instruction.MoveSigned w access dst src) a after dst (extended_in domain w access (value_in a.registers src)) _ p e
    (λ k given. signed_move_gives domain laws.registers s a.registers w access src k p.registers given) refl refl)
follows domain laws context outcome s a after (instruction.Convert order access dst) p is words e =
    inr (set_goes domain context s (instruction.Convert order access dst) a after dst (reordered_in domain order access (value_in a.registers dst)) _ p e
    (λ k given. byte_order_gives domain laws.registers s a.registers order access dst k p.registers given) refl refl)
follows domain laws context outcome s a after (instruction.LoadImmediate dst n) p is words e = inr (record {
  next = record { slot = s.slot + 1 + 1; registers = slice_set s.registers dst (value.Number n); stack = s.stack };
  goes = refl;
  taken = false;
  edge = ap Some (omega arith);
  known = λ k passes.
      known_at domain (set_state a dst (known.Number (domain.of_word n))) k _ (same_ok _ _ passes)
      (record { registers = set_described domain a.registers s.registers dst (known.Number (domain.of_word n)) (value.Number n) p.registers (n, refl, laws.registers.sound.constants n words); stack = p.stack });
})
follows domain laws context outcome s a after (instruction.Load access x dst base distance) p is words e =
    inr (set_goes domain context s (instruction.Load access x dst base distance) a after dst (address_in domain (value_in a.registers base) distance then (λ at. load_at domain context a.stack at x access)) _ p e
    (λ k given. load_gives domain laws context outcome s a access x base distance k p words given) refl refl)
follows domain laws context outcome s a after (instruction.Store access base distance b) p is words e = inr (store_goes domain laws context s a after access base distance b p words.0 words.1 e)
follows domain laws context outcome s a after (instruction.Jump w distance) p is words e = inr (record {
  next = record { slot = target_of s.slot distance; registers = s.registers; stack = s.stack };
  goes = refl;
  taken = true;
  edge = refl;
  known = λ k passes. known_at domain a k _ (same_ok _ _ passes) (record { registers = p.registers; stack = p.stack });
})
follows domain laws context outcome s a after (instruction.Branch c w left right distance) p is words e = inr (branch_goes domain laws context s a after c w left right distance p words e)
follows domain laws context outcome s a after (instruction.Call helper) p is words e = inr (call_goes domain laws context outcome s a after helper p is e)
follows domain laws context outcome s a after instruction.Exit p is words e = inl (exit_answers domain laws s a after p e)
