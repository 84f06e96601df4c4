-- Helper functions that are called as they are known to be don't trap, and answer as known.
use Rattle.std.proofs.Common.{◌≡◌, ℕ, zero, suc, ◌+◌, ◌^◌, ◌<◌, ◌≤◌, ◌==◌, ◌&&◌, Bool, true, false, cond, List, [], ◌∷◌, ◌++◌, length, get_or, take, drop, Option, Some, None, Result, Ok, Err, refl, sym, ap, ◌∙◌, subst, arith, length-set, get_or-set_other}
use Rattle.std.proofs.Math.Nat.{mod-eq_of_lt}
use Rattle.std.proofs.lemmas.Bool.{eqb-true, leb-true, ltb-true, lt-ltb}
use Rattle.std.specs.List.{AllByRecursion, starts_with}
use Rattle.std.specs.Prelude.{nat_eq, nat_le, nat_lt, map, replicate, slice_index, slice_set, if◌then◌else◌}
use Rattle.refusals.specs.declared.RefusalNumber.{RefusalNumber}
use Rattle.refusals.specs.declared.RefusalNumber.TheVariants as refusal
use Rattle.abs_domain.specs.declared.domain.Domain.{Ghosts}
use Rattle.abs_domain.specs.declared.operations.Conversion.TheVariants as conversion
use Rattle.abs_domain.specs.declared.operations.Relation.TheVariants as relation
use Rattle.abs_regs.proofs.Described.{err_not_ok, same_ok}
use Rattle.abs_regs.proofs.Described.{Lawful as LawfulRegisters}
use Rattle.abs_regs.specs.declared.value.AbsVal.{AbsVal}
use Rattle.abs_regs.specs.declared.value.AbsVal.TheVariants as known
use Rattle.abs_regs.specs.Steps.{AreAs}
use Rattle.abs_regs.specs.Transfers.{◌>>=◌ as ◌then◌}
use Rattle.abs_regs.specs.Values.{IsAs, value_in}
use Rattle.abs_states.specs.Calls.{argument_in, pointer_argument, count_in, placed_in, stretch_in, up_to, fact_in, front_byte_in, copy_tag_in, tag_starts_in, answered_in, answer_in, written_in, without_arguments, called_values}
use Rattle.abs_states.specs.declared.calls.Answered.{Answered}
use Rattle.abs_states.specs.declared.calls.Stretch.{Stretch}
use Rattle.abs_states.specs.declared.state.AbsState.{AbsState}
use Rattle.abs_states.specs.States.{IsKnown}
use Rattle.bpf_profile.specs.declared.helper.Helper.{Helper}
use Rattle.bpf_profile.specs.declared.helper.Helper.TheVariants as helper
use Rattle.bpf_profile.specs.declared.instruction.Size.TheVariants as size
use Rattle.bpf_profile.specs.declared.machine.Cell.TheVariants as byte
use Rattle.bpf_profile.specs.declared.machine.Region.TheVariants as region
use Rattle.bpf_profile.specs.declared.machine.TrapReason.{TrapReason}
use Rattle.bpf_profile.specs.declared.machine.TrapReason.TheVariants as trap
use Rattle.bpf_profile.specs.declared.machine.Value.{Value}
use Rattle.bpf_profile.specs.declared.machine.Value.TheVariants as value
use Rattle.bpf_profile.specs.Limits.{stack_size, front_offset, fact_count, most_tag_bytes}
use Rattle.bpf_profile.specs.Helpers.{Answer, number_argument, stack_offset, stretch_of, fact, front_byte, tag_front, copy_tag, bytes_or, tag_starts, helper_of, answered_by, helper_answer, after_call}
use Rattle.bpf_profile.specs.Helpers.{Stretch as Bytes}
use Rattle.bpf_profile.specs.Machine.{State, ensured, register_of, set_value, number_or, place_of, cell_bytes, overwritten, ◌>>=◌}
use Rattle.bpf_profile.specs.Outcomes.{Outcome, IsOutcome, AreBytes}
use Rattle.stack_track.proofs.Known.{Sound as SoundCells}
use Rattle.stack_track.proofs.Runs.{stretch_reads, stretch_writes}
use Rattle.stack_track.specs.declared.cell.Cell.{Cell}
use Rattle.stack_track.specs.Accesses.{stretch_is_set, stretch_written}
use Rattle.stack_track.specs.Steps.{AreCells}

-- the laws of a domain that an analysis stands on
pub record Lawful {X : Type 0} (domain : Ghosts X) : Type 0 where
  pub registers : LawfulRegisters domain
  pub cells : SoundCells domain

-- ---- results

then_ok : {A B : Type 0} (r : Result A RefusalNumber) (f : A → Result B RefusalNumber) (b : B) → (r then f) ≡ Ok b → (a : A) × (r ≡ Ok a) × (f a ≡ Ok b)
then_ok (Ok a) f b h = (a, refl, h)
then_ok (Err number) f b h = absurd (err_not_ok number b h)

if_ok : {A E : Type 0} (t : Bool) (a b : A) (e : E) → cond t (Ok a) (Err e) ≡ Ok b → (t ≡ true) × (a ≡ b)
if_ok true a b e h = (refl, same_ok a b h)
if_ok false a b e h = absurd (err_not_ok e b h)

ensured_true : (test : Bool) (reason : TrapReason) → test ≡ true → ensured test reason ≡ Ok tt
ensured_true true reason h = refl
ensured_true false reason h = absurd (let g : false ≡ true = h in cc)

both_true : (p q : Bool) → (p && q) ≡ true → (p ≡ true) × (q ≡ true)
both_true true q e = (refl, e)
both_true false q e = absurd (subst (λ b. cond b ⊥ (Unit {0})) e tt)

-- ---- arguments

argument_held : {X : Type 0} (domain : Ghosts X) (a : AbsVal X) (n : X) (v : Value) → IsAs domain a v → argument_in a ≡ Ok n → (m : ℕ) × (v ≡ value.Number m) × domain.contains n m
argument_held domain known.Unset n v h e = absurd (err_not_ok refusal.UnsetRegister n e)
argument_held domain (known.Number a) n v h e = (h.0, h.1, subst (λ (x : _). domain.contains x h.0) (same_ok a n e) h.2)
argument_held domain (known.Stack o) n v h e = absurd (err_not_ok refusal.HelperArgument n e)
argument_held domain (known.Context a) n v h e = absurd (err_not_ok refusal.HelperArgument n e)

pointer_held : {X : Type 0} (domain : Ghosts X) (a : AbsVal X) (offset : ℕ) (v : Value) → IsAs domain a v → pointer_argument a ≡ Ok offset → v ≡ value.Pointer region.Stack offset
pointer_held domain known.Unset offset v h e = absurd (err_not_ok refusal.UnsetRegister offset e)
pointer_held domain (known.Number a) offset v h e = absurd (err_not_ok refusal.HelperArgument offset e)
pointer_held domain (known.Stack o) offset v h e = h ∙ ap (value.Pointer region.Stack) (same_ok o offset e)
pointer_held domain (known.Context a) offset v h e = absurd (err_not_ok refusal.HelperArgument offset e)

abbrev number_of : Value → Result ℕ TrapReason
number_of v = set_value v >>= number_or trap.Argument

number_read : (s : State) (r n : ℕ) → register_of s r ≡ value.Number n → number_argument s r ≡ Ok n
number_read s r n e = ap number_of e

-- the bytes that the machine takes are those that are known
record Takes (s : State) (to : Stretch) : Type 0 where
  is : stretch_of s ≡ Ok (record { place = to.place; count = to.count })
  inside : to.place + to.count ≤ stack_size

abbrev stretch_from : Value → State → Result Bytes TrapReason
stretch_from v s = do
  pointer ← set_value v
  offset ← stack_offset pointer
  count ← number_argument s 2
  short ← ensured (nat_lt 0 count && nat_le count most_tag_bytes) trap.Argument
  inside ← ensured (nat_le (place_of region.Stack offset + count) stack_size) trap.Argument
  Ok (record { place = place_of region.Stack offset; count = count })

abbrev stretch_with : ℕ → Result ℕ TrapReason → Result Bytes TrapReason
stretch_with offset r = do
  count ← r
  short ← ensured (nat_lt 0 count && nat_le count most_tag_bytes) trap.Argument
  inside ← ensured (nat_le (place_of region.Stack offset + count) stack_size) trap.Argument
  Ok (record { place = place_of region.Stack offset; count = count })

two_tests : {A : Type 0} (p q : Bool) (one other : TrapReason) (a : Result A TrapReason) → p ≡ true → q ≡ true → (ensured p one >>= (λ (u : Unit {0}). ensured q other >>= (λ (v : Unit {0}). a))) ≡ a
two_tests true true one other a e f = refl
two_tests true false one other a e f = absurd (let g : false ≡ true = f in cc)
two_tests false q one other a e f = absurd (let g : false ≡ true = e in cc)

takes : {X : Type 0} (domain : Ghosts X) → Lawful domain → (s : State) (registers : List (AbsVal X)) (to : Stretch) → AreAs domain registers s.registers → stretch_in domain registers ≡ Ok to → Takes s to
takes {X} domain laws s registers to p e =
    let pointer = then_ok (pointer_argument (value_in registers 1)) (λ offset. argument_in (value_in registers 2) then (λ n. count_in domain n then (λ count. placed_in offset count))) to e in
    let number = then_ok (argument_in (value_in registers 2)) (λ n. count_in domain n then (λ count. placed_in pointer.0 count)) to pointer.2 in
    let counted = then_ok (count_in domain number.0) (λ count. placed_in pointer.0 count) to number.2 in
    let offset = pointer.0 in
    let bounds = domain.bounds_of number.0 in
    let is_pointer = pointer_held domain (value_in registers 1) offset (register_of s 1) (p.each 1) pointer.1 in
    let held = argument_held domain (value_in registers 2) number.0 (register_of s 2) (p.each 2) number.1 in
    let few = if_ok ((bounds.low == bounds.high) && (nat_lt 0 bounds.low && nat_le bounds.low most_tag_bytes)) bounds.low counted.0 refusal.HelperArgument counted.1 in
    let tests = both_true (bounds.low == bounds.high) (nat_lt 0 bounds.low && nat_le bounds.low most_tag_bytes) few.0 in
    let inside = laws.registers.sound.bounds number.0 held.0 held.2 in
    let same : held.0 ≡ counted.0 = (let b = eqb-true bounds.low bounds.high tests.0 in let c = few.1 in omega (arith, b, c, inside.0, inside.1)) in
    let small : (nat_lt 0 counted.0 && nat_le counted.0 most_tag_bytes) ≡ true = subst (λ (n : ℕ). (nat_lt 0 n && nat_le n most_tag_bytes) ≡ true) few.1 tests.1 in
    let placed = if_ok (nat_le (place_of region.Stack offset + counted.0) stack_size) (record { place = place_of region.Stack offset; count = counted.0 }) to refusal.HelperArgument counted.2 in
    record {
      is =
          ap (λ (v : Value). stretch_from v s) is_pointer
          ∙ (ap (stretch_with offset) (number_read s 2 held.0 held.1)
          ∙ (ap (λ (n : ℕ). stretch_with offset (Ok n)) same
          ∙ (two_tests (nat_lt 0 counted.0 && nat_le counted.0 most_tag_bytes) (nat_le (place_of region.Stack offset + counted.0) stack_size) trap.Argument trap.Argument (Ok (record { place = place_of region.Stack offset; count = counted.0 })) small placed.0
          ∙ ap (λ (t : Stretch). Ok (record { place = t.place; count = t.count })) placed.1)));
      inside = subst (λ (t : Stretch). t.place + t.count ≤ stack_size) placed.1 (leb-true (place_of region.Stack offset + counted.0) stack_size placed.0);
    }

-- ---- answers

-- a helper's answer that is known, and the stack that it leaves
pub record AnswersAs {X : Type 0} (domain : Ghosts X) (stack : List (Cell X)) (a : Answered X) (r : Result Answer TrapReason) : Type 0 where
  pub found : Answer
  pub is : r ≡ Ok found
  pub contained : domain.contains a.answer found.answer
  pub after : AreCells domain (written_in stack a.written) found.stack

-- an element of a list of numbers below a bound
below_each : (bound : ℕ) (xs : List ℕ) → AllByRecursion (λ x. x < bound) xs → 0 < bound → (k : ℕ) → slice_index xs k < bound
below_each bound [] h some k = some
below_each bound (x ∷ xs) h some zero = h.0
below_each bound (x ∷ xs) h some (suc k) = below_each bound xs h.1 some k

answers_at : {X : Type 0} (domain : Ghosts X) (stack : List (Cell X)) (a b : Answered X) (r : Result Answer TrapReason) → a ≡ b → AnswersAs domain stack a r → AnswersAs domain stack b r
answers_at domain stack a b r e h = subst (λ (k : Answered _). AnswersAs domain stack k r) e h

abbrev fact_from : Outcome → State → Result ℕ TrapReason → Result Answer TrapReason
fact_from outcome s r = do
  i ← r
  known ← ensured (nat_lt i fact_count) trap.Argument
  Ok (record { answer = slice_index outcome.facts i; stack = s.stack })

fact_answers : {X : Type 0} (domain : Ghosts X) → Lawful domain → (size : ℕ) (outcome : Outcome) (s : State) (k : AbsState X) (a : Answered X) → IsKnown domain k s → IsOutcome size outcome → fact_in domain k ≡ Ok a → AnswersAs domain k.stack a (fact outcome s)
fact_answers {X} domain laws size outcome s k a p is e =
    let number = then_ok (argument_in (value_in k.registers 1)) (λ i. if nat_lt (domain.bounds_of i).high fact_count then Ok (record { answer = domain.of_any; written = None }) else Err refusal.HelperArgument) a e in
    let held = argument_held domain (value_in k.registers 1) number.0 (register_of s 1) (p.registers.each 1) number.1 in
    let test = if_ok (nat_lt (domain.bounds_of number.0).high fact_count) (record { answer = domain.of_any; written = None }) a refusal.HelperArgument number.2 in
    let inside = laws.registers.sound.bounds number.0 held.0 held.2 in
    let small : nat_lt held.0 fact_count ≡ true = lt-ltb held.0 fact_count (let l = ltb-true (domain.bounds_of number.0).high fact_count test.0 in omega (arith, l, inside.1)) in
    answers_at domain k.stack _ a _ test.1
    (record {
      found = record { answer = slice_index outcome.facts held.0; stack = s.stack };
      is = ap (fact_from outcome s) (number_read s 1 held.0 held.1) ∙ ap (λ (r : Result (Unit {0}) TrapReason). r >>= (λ (u : Unit {0}). Ok (record { answer = slice_index outcome.facts held.0; stack = s.stack }))) (ensured_true (nat_lt held.0 fact_count) trap.Argument small);
      contained = laws.registers.sound.any (slice_index outcome.facts held.0) (below_each (2 ^ 64) outcome.facts is.facts (omega arith) held.0);
      after = p.stack;
    })

abbrev front_from : ℕ → Outcome → State → Result ℕ TrapReason → Result Answer TrapReason
front_from size outcome s r = do
  i ← r
  inside ← ensured (nat_lt (front_offset + i) size) trap.Argument
  Ok (record { answer = slice_index outcome.context (front_offset + i); stack = s.stack })

front_answers : {X : Type 0} (domain : Ghosts X) → Lawful domain → (context : ℕ) (outcome : Outcome) (s : State) (k : AbsState X) (a : Answered X) → IsKnown domain k s → IsOutcome context outcome → front_byte_in domain context k ≡ Ok a
    → AnswersAs domain k.stack a (front_byte context outcome s)
front_answers {X} domain laws context outcome s k a p is e =
    let byte = domain.converted conversion.Low size.Byte domain.of_any in
    let number = then_ok (argument_in (value_in k.registers 1)) (λ i. if nat_lt (front_offset + (domain.bounds_of i).high) context then Ok (record { answer = byte; written = None }) else Err refusal.HelperArgument) a e in
    let held = argument_held domain (value_in k.registers 1) number.0 (register_of s 1) (p.registers.each 1) number.1 in
    let test = if_ok (nat_lt (front_offset + (domain.bounds_of number.0).high) context) (record { answer = byte; written = None }) a refusal.HelperArgument number.2 in
    let inside = laws.registers.sound.bounds number.0 held.0 held.2 in
    let small : nat_lt (front_offset + held.0) context ≡ true = lt-ltb (front_offset + held.0) context (let l = ltb-true (front_offset + (domain.bounds_of number.0).high) context test.0 in omega (arith, l, inside.1)) in
    let below : slice_index outcome.context (front_offset + held.0) < 256 = below_each (2 ^ 8) outcome.context is.context (omega arith) (front_offset + held.0) in
    answers_at domain k.stack _ a _ test.1
    (record {
      found = record { answer = slice_index outcome.context (front_offset + held.0); stack = s.stack };
      is = ap (front_from context outcome s) (number_read s 1 held.0 held.1) ∙ ap (λ (r : Result (Unit {0}) TrapReason). r >>= (λ (u : Unit {0}). Ok (record { answer = slice_index outcome.context (front_offset + held.0); stack = s.stack }))) (ensured_true (nat_lt (front_offset + held.0) context) trap.Argument small);
      contained = subst (domain.contains byte) (mod-eq_of_lt below) (laws.registers.sound.conversions conversion.Low size.Byte domain.of_any _ (laws.registers.sound.any (slice_index outcome.context (front_offset + held.0)) (omega (arith, below))));
      after = p.stack;
    })

-- a number of at most so much
up_to_contains : {X : Type 0} (domain : Ghosts X) → Lawful domain → (most n : ℕ) → most ≤ most_tag_bytes → n ≤ most → domain.contains (up_to domain most) n
up_to_contains domain laws most n small h = laws.registers.refines.second relation.GreaterOrEqual (domain.of_word most) domain.of_any most n (laws.registers.sound.constants most (omega (arith, small))) (laws.registers.sound.any n (omega (arith, small, h))) h

-- ---- the tag

bytes_of_both : (a b : List ℕ) → AreBytes a → AreBytes b → AreBytes (a ++ b)
bytes_of_both [] b p q = q
bytes_of_both (x ∷ a) b p q = (p.0, bytes_of_both a b p.1 q)

zeros : (count : ℕ) → AreBytes (replicate count 0)
zeros zero = tt
zeros (suc count) = (omega arith, zeros count)

bytes_of_front : (count : ℕ) (bytes : List ℕ) → AreBytes bytes → AreBytes (take count bytes)
bytes_of_front zero bytes h = tt
bytes_of_front (suc count) [] h = tt
bytes_of_front (suc count) (b ∷ bytes) h = (h.0, bytes_of_front count bytes h.1)

length_zeros : (count : ℕ) → length (replicate {A = ℕ} count 0) ≡ count
length_zeros zero = refl
length_zeros (suc count) = ap suc (length_zeros count)

length_both : (a b : List ℕ) → length (a ++ b) ≡ length a + length b
length_both [] b = omega arith
length_both (x ∷ a) b = (let h = length_both a b in omega (arith, h))

length_front : (count : ℕ) (bytes : List ℕ) → count ≤ length bytes → length (take count bytes) ≡ count
length_front zero bytes h = refl
length_front (suc count) [] h = absurd (omega arith)
length_front (suc count) (b ∷ bytes) h = ap suc (length_front count bytes (omega arith))

length_tag : (outcome : Outcome) (count : ℕ) → length (tag_front outcome count) ≡ count
length_tag outcome count = length_front count (outcome.tag ++ replicate count 0) (let a = length_both outcome.tag (replicate count 0) in let b = length_zeros count in omega (arith, a, b))

abbrev copied_from : Outcome → State → Result Bytes TrapReason → Result Answer TrapReason
copied_from outcome s r = do
  to ← r
  Ok (record { answer = length outcome.tag; stack = overwritten s.stack to.place (map byte.Byte (tag_front outcome to.count)) })

copy_answers : {X : Type 0} (domain : Ghosts X) → Lawful domain → (size : ℕ) (outcome : Outcome) (s : State) (k : AbsState X) (a : Answered X) → IsKnown domain k s → IsOutcome size outcome → copy_tag_in domain k ≡ Ok a
    → AnswersAs domain k.stack a (copy_tag outcome s)
copy_answers {X} domain laws size outcome s k a p is e =
    let to = then_ok (stretch_in domain k.registers) (λ t. Ok (record { answer = up_to domain most_tag_bytes; written = Some t })) a e in
    let taken = takes domain laws s k.registers to.0 p.registers to.1 in
    let bytes = tag_front outcome to.0.count in
    let counted = length_tag outcome to.0.count in
    answers_at domain k.stack _ a _ (same_ok _ a to.2)
    (record {
      found = record { answer = length outcome.tag; stack = overwritten s.stack to.0.place (map byte.Byte bytes) };
      is = ap (copied_from outcome s) taken.is;
      contained = up_to_contains domain laws most_tag_bytes (length outcome.tag) (omega arith) is.short;
      after = subst (λ (n : ℕ). AreCells domain (stretch_written k.stack to.0.place n) (overwritten s.stack to.0.place (map byte.Byte bytes))) counted
          (stretch_writes domain k.stack s.stack to.0.place bytes p.stack (let i = taken.inside in omega (arith, i, counted)) (bytes_of_front to.0.count (outcome.tag ++ replicate to.0.count 0) (bytes_of_both outcome.tag (replicate to.0.count 0) is.tag (zeros to.0.count))));
    })

abbrev compared_from : Outcome → State → Result Bytes TrapReason → Result Answer TrapReason
compared_from outcome s r = do
  from ← r
  bytes ← bytes_or (cell_bytes (take from.count (drop from.place s.stack)))
  Ok (record { answer = if starts_with nat_eq outcome.tag bytes then 1 else 0; stack = s.stack })

starts_answers : {X : Type 0} (domain : Ghosts X) → Lawful domain → (outcome : Outcome) (s : State) (k : AbsState X) (a : Answered X) → IsKnown domain k s → tag_starts_in domain k ≡ Ok a → AnswersAs domain k.stack a (tag_starts outcome s)
starts_answers {X} domain laws outcome s k a p e =
    let from = then_ok (stretch_in domain k.registers) (λ t. if stretch_is_set k.stack t.place t.count then Ok (record { answer = up_to domain 1; written = None }) else Err refusal.HelperArgument) a e in
    let taken = takes domain laws s k.registers from.0 p.registers from.1 in
    let test = if_ok (stretch_is_set k.stack from.0.place from.0.count) (record { answer = up_to domain 1; written = None }) a refusal.HelperArgument from.2 in
    let read = stretch_reads domain k.stack s.stack from.0.place from.0.count p.stack taken.inside test.0 in
    answers_at domain k.stack _ a _ test.1
    (record {
      found = record { answer = if starts_with nat_eq outcome.tag read.0 then 1 else 0; stack = s.stack };
      is = ap (compared_from outcome s) taken.is ∙ ap (λ (o : Option (List ℕ)). bytes_or o >>= (λ (bytes : List ℕ). Ok (record { answer = if starts_with nat_eq outcome.tag bytes then 1 else 0; stack = s.stack }))) read.1;
      contained = up_to_contains domain laws 1 _ (omega arith) (at_most_one (starts_with nat_eq outcome.tag read.0));
      after = p.stack;
    })
  where
    at_most_one : (t : Bool) → cond t 1 0 ≤ 1
    at_most_one true = omega arith
    at_most_one false = omega arith

-- ---- by the helper's number

pub answers_as : {X : Type 0} (domain : Ghosts X) → Lawful domain → (context : ℕ) (outcome : Outcome) (s : State) (k : AbsState X) (a : Answered X) (number : ℕ) → IsKnown domain k s → IsOutcome context outcome → answer_in domain context k number ≡ Ok a
    → AnswersAs domain k.stack a (helper_answer context outcome s number)
answers_as {X} domain laws context outcome s k a number p is e = by_helper (helper_of number) e
  where
    by_helper : (h : Option Helper) → answered_in domain context k h ≡ Ok a → AnswersAs domain k.stack a (answered_by context outcome s h)
    by_helper (Some helper.Fact) e = fact_answers domain laws context outcome s k a p is e
    by_helper (Some helper.FrontByte) e = front_answers domain laws context outcome s k a p is e
    by_helper (Some helper.CopyTag) e = copy_answers domain laws context outcome s k a p is e
    by_helper (Some helper.TagStarts) e = starts_answers domain laws outcome s k a p e
    by_helper None e = absurd (err_not_ok refusal.HelperUnknown a e)

-- ---- the registers after a call

get_dropped : {A : Type 0} (n : ℕ) (xs : List A) (k : ℕ) (d : A) → get_or (drop n xs) k d ≡ get_or xs (n + k) d
get_dropped zero xs k d = ap (λ (m : ℕ). get_or xs m d) (omega arith)
get_dropped (suc n) [] k d = refl
get_dropped (suc n) (x ∷ xs) k d = get_dropped n xs k d ∙ sym (step (n + k) (suc n + k) (omega arith))
  where
    step : (m i : ℕ) → i ≡ suc m → get_or (x ∷ xs) i d ≡ get_or xs m d
    step m i e = ap (λ (j : ℕ). get_or (x ∷ xs) j d) e

length_dropped : {A : Type 0} (n : ℕ) (xs : List A) → length xs ≤ length (drop n xs) + n
length_dropped zero xs = omega arith
length_dropped (suc n) [] = omega arith
length_dropped (suc n) (x ∷ xs) = (let h = length_dropped n xs in omega (arith, h))

-- the first of a list that was set is what it was set to, if the list has one
first_set : {X : Type 0} (domain : Ghosts X) (registers : List (AbsVal X)) (a : AbsVal X) (v : Value) → IsAs domain a v → IsAs domain (value_in (slice_set registers 0 a) 0) v
first_set domain [] a v h = tt
first_set domain (x ∷ registers) a v h = h

-- an argument is unset, and what is set behind it changes nothing
unset_at : {X : Type 0} (domain : Ghosts X) (registers : List (AbsVal X)) (k : ℕ) (v : Value) → IsAs domain (value_in (slice_set registers k known.Unset) k) v
unset_at domain [] k v = tt
unset_at domain (x ∷ registers) zero v = tt
unset_at domain (x ∷ registers) (suc k) v = unset_at domain registers k v

other_set : {X : Type 0} (domain : Ghosts X) (registers : List (AbsVal X)) (k r : ℕ) (a : AbsVal X) (v : Value) → (r ≡ k → ⊥) → IsAs domain (value_in registers r) v → IsAs domain (value_in (slice_set registers k a) r) v
other_set domain registers k r a v other h = subst (λ (x : AbsVal _). IsAs domain x v) (sym (get_or-set_other registers k r a known.Unset other)) h

-- the arguments, one after the other
abbrev unset_1 : {X : Type 0} → List (AbsVal X) → List (AbsVal X)
unset_1 registers = slice_set registers 1 known.Unset

abbrev unset_2 : {X : Type 0} → List (AbsVal X) → List (AbsVal X)
unset_2 registers = slice_set (unset_1 registers) 2 known.Unset

abbrev unset_3 : {X : Type 0} → List (AbsVal X) → List (AbsVal X)
unset_3 registers = slice_set (unset_2 registers) 3 known.Unset

abbrev unset_4 : {X : Type 0} → List (AbsVal X) → List (AbsVal X)
unset_4 registers = slice_set (unset_3 registers) 4 known.Unset

-- a register behind the arguments is as before
kept_behind : {X : Type 0} (domain : Ghosts X) (registers : List (AbsVal X)) (r : ℕ) (v : Value) → 6 ≤ r → IsAs domain (value_in registers r) v → IsAs domain (value_in (without_arguments registers) r) v
kept_behind domain registers r v h p =
    other_set domain (unset_4 registers) 5 r known.Unset v (omega arith) (other_set domain (unset_3 registers) 4 r known.Unset v (omega arith) (other_set domain (unset_2 registers) 3 r known.Unset v (omega arith)
    (other_set domain (unset_1 registers) 2 r known.Unset v (omega arith) (other_set domain registers 1 r known.Unset v (omega arith) p))))

-- nothing is known of an argument
argument_unset : {X : Type 0} (domain : Ghosts X) (registers : List (AbsVal X)) (r : ℕ) (v : Value) → 1 ≤ r → r ≤ 5 → IsAs domain (value_in (without_arguments registers) r) v
argument_unset domain registers zero v h k = absurd (omega arith)
argument_unset domain registers (suc zero) v h k =
    other_set domain (unset_4 registers) 5 1 known.Unset v (omega arith) (other_set domain (unset_3 registers) 4 1 known.Unset v (omega arith) (other_set domain (unset_2 registers) 3 1 known.Unset v (omega arith)
    (other_set domain (unset_1 registers) 2 1 known.Unset v (omega arith) (unset_at domain registers 1 v))))
argument_unset domain registers (suc (suc zero)) v h k =
    other_set domain (unset_4 registers) 5 2 known.Unset v (omega arith) (other_set domain (unset_3 registers) 4 2 known.Unset v (omega arith) (other_set domain (unset_2 registers) 3 2 known.Unset v (omega arith) (unset_at domain (unset_1 registers) 2 v)))
argument_unset domain registers (suc (suc (suc zero))) v h k =
    other_set domain (unset_4 registers) 5 3 known.Unset v (omega arith) (other_set domain (unset_3 registers) 4 3 known.Unset v (omega arith) (unset_at domain (unset_2 registers) 3 v))
argument_unset domain registers (suc (suc (suc (suc zero)))) v h k = other_set domain (unset_4 registers) 5 4 known.Unset v (omega arith) (unset_at domain (unset_3 registers) 4 v)
argument_unset domain registers (suc (suc (suc (suc (suc zero))))) v h k = unset_at domain (unset_4 registers) 5 v
argument_unset domain registers (suc (suc (suc (suc (suc (suc r)))))) v h k = absurd (omega arith)

pub called_described : {X : Type 0} (domain : Ghosts X) (registers : List (AbsVal X)) (values : List Value) (a : X) (n : ℕ) → AreAs domain registers values → domain.contains a n → AreAs domain (called_values registers a) (after_call values n)
called_described {X} domain registers values a n p h = record { long = long; each = each }
  where
    long : length (called_values registers a) ≤ length (after_call values n)
    long =
        let one = length-set registers 1 known.Unset in
        let two = length-set (unset_1 registers) 2 known.Unset in
        let three = length-set (unset_2 registers) 3 known.Unset in
        let four = length-set (unset_3 registers) 4 known.Unset in
        let five = length-set (unset_4 registers) 5 known.Unset in
        let six = length-set (without_arguments registers) 0 (known.Number a) in
        let rest = length_dropped 6 values in
        let fits = p.long in
        omega (arith, one, two, three, four, five, six, rest, fits)

    after_first : (r : ℕ) → (r ≡ 0 → ⊥) → (v : Value) → IsAs domain (value_in (without_arguments registers) r) v → IsAs domain (value_in (called_values registers a) r) v
    after_first r other v q = other_set domain (without_arguments registers) 0 r (known.Number a) v other q

    each : (r : ℕ) → IsAs domain (value_in (called_values registers a) r) (get_or (after_call values n) r value.Unset)
    each zero = first_set domain (without_arguments registers) (known.Number a) (value.Number n) (n, refl, h)
    each (suc zero) = after_first 1 (omega arith) value.Unset (argument_unset domain registers 1 value.Unset (omega arith) (omega arith))
    each (suc (suc zero)) = after_first 2 (omega arith) value.Unset (argument_unset domain registers 2 value.Unset (omega arith) (omega arith))
    each (suc (suc (suc zero))) = after_first 3 (omega arith) value.Unset (argument_unset domain registers 3 value.Unset (omega arith) (omega arith))
    each (suc (suc (suc (suc zero)))) = after_first 4 (omega arith) value.Unset (argument_unset domain registers 4 value.Unset (omega arith) (omega arith))
    each (suc (suc (suc (suc (suc zero))))) = after_first 5 (omega arith) value.Unset (argument_unset domain registers 5 value.Unset (omega arith) (omega arith))
    each (suc (suc (suc (suc (suc (suc k)))))) =
        subst (IsAs domain (value_in (called_values registers a) (suc (suc (suc (suc (suc (suc k))))))))
        (sym (get_dropped 6 values k value.Unset ∙ ap (λ (m : ℕ). get_or values m value.Unset) (omega arith)))
        (after_first (suc (suc (suc (suc (suc (suc k)))))) (omega arith) (get_or values (suc (suc (suc (suc (suc (suc k)))))) value.Unset)
        (kept_behind domain registers (suc (suc (suc (suc (suc (suc k)))))) (get_or values (suc (suc (suc (suc (suc (suc k)))))) value.Unset) (omega arith) (p.each (suc (suc (suc (suc (suc (suc k)))))))))
