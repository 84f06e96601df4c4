-- What a program does on a record depends on a context of the given size, the facts and the tag alone.
use Rattle.std.proofs.Common.{◌≡◌, ℕ, zero, suc, ◌+◌, ◌*◌, ◌%◌, ◌==◌, ◌<◌, ◌≤◌, nat_le, nat_lt, Bool, true, false, List, take, drop, slice_index, ◌↔◌, Option, Some, None, Result, Ok, Err, refl, sym, ap, ◌∙◌, arith}
use Rattle.std.proofs.lemmas.Bool.Decides.{nat_tests}
use Rattle.std.proofs.lemmas.List.{drop-take, get_or-take, take-take}
use Rattle.byteorder.specs.Endian.{little_number}
use Rattle.byteorder.specs.Numbers.{little_from-take}
use Rattle.bpf_profile.specs.declared.helper.Helper.{Helper}
use Rattle.bpf_profile.specs.declared.helper.Helper.TheVariants as helper
use Rattle.bpf_profile.specs.declared.instruction.Extension.{Extension}
use Rattle.bpf_profile.specs.declared.instruction.Instruction.{Instruction}
use Rattle.bpf_profile.specs.declared.instruction.Instruction.TheVariants as instruction
use Rattle.bpf_profile.specs.declared.instruction.Size.{Size}
use Rattle.bpf_profile.specs.declared.machine.Region.{Region}
use Rattle.bpf_profile.specs.declared.machine.Region.TheVariants as region
use Rattle.bpf_profile.specs.declared.machine.TrapReason.{TrapReason}
use Rattle.bpf_profile.specs.declared.machine.TrapReason.TheVariants as trap
use Rattle.bpf_profile.specs.declared.machine.Value.TheVariants as value
use Rattle.bpf_profile.specs.declared.machine.Verdict.{Verdict}
use Rattle.bpf_profile.specs.declared.slot.Slot.{Slot}
use Rattle.bpf_profile.specs.Helpers.{Answer, fact, front_byte, copy_tag, tag_starts, helper_of, answered_by, called, after_call, number_argument}
use Rattle.bpf_profile.specs.Limits.{front_offset}
use Rattle.bpf_profile.specs.Machine.{State, goes, Address, ◌>>=◌, ensured, address_of, loaded, load_value, place_for, place_of, read_register, region_size}
use Rattle.bpf_profile.specs.Meaning.{answer_of, effect_at, effect_of, entry, instruction_at, sets, step, Ends, Reaches, Judges}
use Rattle.bpf_profile.specs.Outcomes.{AgreeOn, Outcome, shortened}
use Rattle.bpf_profile.specs.Words.{bytes_in, extended}

-- ---- what is read of a context

stretch : {A : Type 0} (size n place : ℕ) (xs ys : List A) → place + n ≤ size → take size xs ≡ take size ys → take n (drop place xs) ≡ take n (drop place ys)
stretch size n place xs ys inside same =
    sym (drop-take place n xs)
    ∙ ap (drop place) (sym (take-take (place + n) size xs inside) ∙ ap (take (place + n)) same ∙ take-take (place + n) size ys inside)
    ∙ drop-take place n ys

number_of_front : (n : ℕ) (xs : List ℕ) → little_number n (take n xs) ≡ little_number n xs
number_of_front n xs = little_from-take 0 n n xs (omega arith)

same_numbers : (size n place : ℕ) (xs ys : List ℕ) → place + n ≤ size → take size xs ≡ take size ys → little_number n (drop place xs) ≡ little_number n (drop place ys)
same_numbers size n place xs ys inside same = sym (number_of_front n (drop place xs)) ∙ ap (little_number n) (stretch size n place xs ys inside same) ∙ number_of_front n (drop place ys)

same_byte : (size i : ℕ) (xs ys : List ℕ) → i < size → take size xs ≡ take size ys → slice_index xs i ≡ slice_index ys i
same_byte size i xs ys inside same = sym (get_or-take size xs i 0 inside) ∙ ap (λ (bytes : List ℕ). slice_index bytes i) same ∙ get_or-take size ys i 0 inside

-- ---- steps that go on alike

same_bind : {A B : Type 0} (r : Result A TrapReason) (f g : A → Result B TrapReason) → ((a : A) → r ≡ Ok a → f a ≡ g a) → (r >>= f) ≡ (r >>= g)
same_bind (Ok a) f g h = h a refl
same_bind (Err reason) f g h = refl

ensured_holds : (test : Bool) (reason : TrapReason) (u : Unit {0}) → ensured test reason ≡ Ok u → test ≡ true
ensured_holds true reason u e = refl
ensured_holds false reason u e = let bad : ◌≡◌ {A = Result (Unit {0}) TrapReason} (Err reason) (Ok u) = e in cc

both_hold : (a b : Bool) (first second : TrapReason) (p place : ℕ) → (ensured a first >>= (λ aligned. ensured b second >>= (λ inside. Ok p))) ≡ Ok place → (b ≡ true) × (p ≡ place)
both_hold true true first second p place e = let same : ◌≡◌ {A = Result ℕ TrapReason} (Ok p) (Ok place) = e in (refl, cc)
both_hold true false first second p place e = let bad : ◌≡◌ {A = Result ℕ TrapReason} (Err second) (Ok place) = e in absurd cc
both_hold false b first second p place e = let bad : ◌≡◌ {A = Result ℕ TrapReason} (Err first) (Ok place) = e in absurd cc

place_inside : (size n : ℕ) (at : Address) (place : ℕ) → place_for size n at ≡ Ok place → place + n ≤ region_size size at.region
place_inside size n at place e =
    let both = both_hold (at.offset % n == 0) (nat_le (place_of at.region at.offset + n) (region_size size at.region)) trap.Misaligned trap.OutOfBounds (place_of at.region at.offset) place e in
    let test : nat_le (place_of at.region at.offset + n) (region_size size at.region) ≡ true = both.0 in
    let here : place_of at.region at.offset ≡ place = both.1 in
    grind (arith, nat_tests)

-- ---- accesses and calls

same_loaded : (size : ℕ) (left right : Outcome) → AgreeOn size left right → (s : State) (x : Extension) (n : ℕ) (r : Region) (place : ℕ) → place + n ≤ region_size size r → loaded left s x n r place ≡ loaded right s x n r place
same_loaded size left right agree s x n region.Stack place inside = refl
same_loaded size left right agree s x n region.Context place inside =
    ap (λ (number : ℕ). Ok (value.Number (extended x (8 * n) number))) (same_numbers size n place left.context right.context inside agree.context)

same_load : (size : ℕ) (left right : Outcome) → AgreeOn size left right → (s : State) (bytes : Size) (x : Extension) (base distance : ℕ) → load_value size left s bytes x base distance ≡ load_value size right s bytes x base distance
same_load size left right agree s bytes x base distance =
    same_bind (read_register s base) _ _ (λ pointer set.
    same_bind (address_of pointer distance) _ _ (λ at points.
    same_bind (place_for size (bytes_in bytes) at) _ _ (λ place placed.
    same_loaded size left right agree s x (bytes_in bytes) at.region place (place_inside size (bytes_in bytes) at place placed))))

-- facts and tag are the other's
mixed : (size : ℕ) (left right : Outcome) → AgreeOn size left right → left ≡ record right { context = left.context }
mixed size left right agree =
    ap (λ (facts : List ℕ). record left { facts = facts }) agree.facts
    ∙ ap (λ (tag : List ℕ). record { context = left.context; facts = right.facts; tag = tag }) agree.tag

same_front : (size : ℕ) (left right : Outcome) → AgreeOn size left right → (s : State) → front_byte size left s ≡ front_byte size right s
same_front size left right agree s =
    same_bind (number_argument s 1) _ _ (λ i given.
    same_bind (ensured (nat_lt (front_offset + i) size) trap.Argument) _ _ (λ inside holds.
    let test : nat_lt (front_offset + i) size ≡ true = ensured_holds (nat_lt (front_offset + i) size) trap.Argument inside holds in
    ap (λ (byte : ℕ). Ok (record { answer = byte; stack = s.stack })) (same_byte size (front_offset + i) left.context right.context (grind (arith, nat_tests)) agree.context)))

same_answer : (size : ℕ) (left right : Outcome) → AgreeOn size left right → (s : State) (h : Option Helper) → answered_by size left s h ≡ answered_by size right s h
same_answer size left right agree s (Some helper.Fact) = ap (λ (o : Outcome). fact o s) (mixed size left right agree)
same_answer size left right agree s (Some helper.FrontByte) = same_front size left right agree s
same_answer size left right agree s (Some helper.CopyTag) = ap (λ (o : Outcome). copy_tag o s) (mixed size left right agree)
same_answer size left right agree s (Some helper.TagStarts) = ap (λ (o : Outcome). tag_starts o s) (mixed size left right agree)
same_answer size left right agree s None = refl

same_called : (size : ℕ) (left right : Outcome) → AgreeOn size left right → (s : State) (number : ℕ) → called size left s number ≡ called size right s number
same_called size left right agree s number =
    ap (λ (r : Result Answer TrapReason). r >>= (λ a. Ok (goes (record { slot = s.slot + 1; registers = after_call s.registers a.answer; stack = a.stack })))) (same_answer size left right agree s (helper_of number))

-- ---- steps and runs

same_effect : (size : ℕ) (left right : Outcome) → AgreeOn size left right → (s : State) (i : Instruction) → effect_of size left s i ≡ effect_of size right s i
unfolding effect_of
same_effect size left right agree s (instruction.Arithmetic operation width dst operand) = refl
same_effect size left right agree s (instruction.Negate width dst) = refl
same_effect size left right agree s (instruction.MoveSigned width bytes dst src) = refl
same_effect size left right agree s (instruction.Convert order bytes dst) = refl
same_effect size left right agree s (instruction.LoadImmediate dst n) = refl
same_effect size left right agree s (instruction.Load bytes x dst base distance) = ap (sets s dst) (same_load size left right agree s bytes x base distance)
same_effect size left right agree s (instruction.Store bytes base distance operand) = refl
same_effect size left right agree s (instruction.Jump width distance) = refl
same_effect size left right agree s (instruction.Branch comparison width l r distance) = refl
same_effect size left right agree s (instruction.Call number) = same_called size left right agree s number
same_effect size left right agree s instruction.Exit = refl

same_effect_at : (size : ℕ) (left right : Outcome) → AgreeOn size left right → (s : State) (i : Option Instruction) → effect_at size left s i ≡ effect_at size right s i
same_effect_at size left right agree s (Some i) = same_effect size left right agree s i
same_effect_at size left right agree s None = refl

same_step : (size : ℕ) (slots : List Slot) (left right : Outcome) → AgreeOn size left right → (s : State) → step size slots left s ≡ step size slots right s
unfolding step
same_step size slots left right agree s = same_effect_at size left right agree s (instruction_at slots s.slot)

same_reached : (size : ℕ) (slots : List Slot) (left right : Outcome) → AgreeOn size left right → (s : State) (count : ℕ) (t : State) → Reaches size slots left s count t → Reaches size slots right s count t
unfolding Reaches
same_reached size slots left right agree s zero t there = there
same_reached size slots left right agree s (suc count) t there =
    (there.0, sym (same_step size slots left right agree s) ∙ there.1, same_reached size slots left right agree there.0 count t there.2)

same_end : (size : ℕ) (slots : List Slot) (left right : Outcome) → AgreeOn size left right → (answer steps : ℕ) → Ends size slots left answer steps → Ends size slots right answer steps
same_end size slots left right agree answer steps end = record {
  before = end.before;
  last = end.last;
  counted = end.counted;
  reached = same_reached size slots left right agree entry end.before end.last end.reached;
  answered = sym (same_step size slots left right agree end.last) ∙ end.answered;
}

turned : (size : ℕ) (left right : Outcome) → AgreeOn size left right → AgreeOn size right left
turned size left right agree = record { context = sym agree.context; facts = sym agree.facts; tag = sym agree.tag }

-- one has the verdict that the other has
pub context_decides : (size : ℕ) (slots : List Slot) (left right : Outcome) (v : Verdict) (steps : ℕ) → AgreeOn size left right → (Judges size slots left v steps ↔ Judges size slots right v steps)
context_decides size slots left right v steps agree =
    (same_end size slots left right agree (answer_of v) steps, same_end size slots right left (turned size left right agree) (answer_of v) steps)

-- a record agrees with the one that ends with the context
pub agrees_with_shortened : (size : ℕ) (outcome : Outcome) → AgreeOn size outcome (shortened size outcome)
agrees_with_shortened size outcome = record { context = sym (take-take size size outcome.context (omega arith)); facts = refl; tag = refl }
