-- What two small programs do, and what follows of work, entries and steps.
use Rattle.std.proofs.Common.{◌≡◌, ◌∙◌, ℕ, zero, suc, ◌<◌, ◌≤◌, ◌^◌, [], ◌∷◌, replicate, slice_set, Option, Some, Result, Ok, Err, lit<, lit≤, arith, refl, sym, ap, subst}
use Rattle.std.specs.List.{AllByRecursion}
use Rattle.bpf_profile.specs.declared.machine.TrapReason.{TrapReason}
use Rattle.bpf_profile.specs.declared.machine.TrapReason.TheVariants as trap
use Rattle.bpf_profile.specs.declared.machine.Value.TheVariants as value
use Rattle.bpf_profile.specs.declared.machine.Verdict.{Verdict}
use Rattle.bpf_profile.specs.declared.machine.Verdict.TheVariants as verdict
use Rattle.bpf_profile.specs.JudgedWork.{JudgedData, IsTied}
use Rattle.bpf_profile.specs.Machine.{State, Effect, goes, answers}
use Rattle.bpf_profile.specs.Layouts.{context_size}
use Rattle.bpf_profile.specs.Meaning.{effect_of, step, entry, Reaches, Judges}
use Rattle.bpf_profile.specs.Opcodes.{operation_of, comparison_of, size_of, convert_opcode, arithmetic_opcode, jump_opcode, immediate_opcode, load_opcode, store_opcode, store_register_opcode, opcode_of}
use Rattle.bpf_profile.specs.Outcomes.{Outcome, IsOutcome}
use Rattle.bpf_profile.specs.Programs.{VerifiedProgram}
use Rattle.bpf_profile.specs.Safety.{IsSafe}
use Rattle.bpf_profile.specs.Slots.{read_fields, instruction_of}
use Rattle.service_profile.specs.declared.replies.Fate.TheVariants as fate
use Rattle.service_profile.specs.declared.replies.Reply.TheVariants as reply
use Rattle.service_profile.specs.declared.states.State.TheVariants as state
use Rattle.service_profile.specs.Events.{EventData, acquires, finishes, releases, installs}
use Rattle.service_profile.specs.MeantVerdicts.{IsMeant, IsMeantLine}
use Rattle.book.specs.Accepted.{Accepting, IsEvent}
use Rattle.book.specs.Interleavings.{AreSteps}
use Rattle.worked_examples.specs.Promises.{zero_slots, zero_program, bare_exit, zero_work, reported_line, first_ticket, steps_with}
use Rattle.worked_examples.specs.Services.{response}

-- ---- the record of a response

all_zero : (most count : ℕ) → 0 < most → AllByRecursion (λ b. b < most) (replicate count 0)
all_zero most zero some = tt
all_zero most (suc count) some = (some, all_zero most count some)

pub response_is_outcome : (size : ℕ) → size ≤ 192 → IsOutcome size (response 503)
response_is_outcome size le = record {
  context = (lit< tt, (lit< tt, (lit< tt, (lit< tt, (lit< tt, (lit< tt, (lit< tt, (lit< tt, all_zero (2 ^ 8) 184 (lit< tt)))))))));
  long = le;
  facts = all_zero (2 ^ 64) 16 (lit< tt);
  sixteen = refl;
  tag = tt;
  short = lit≤ tt;
}

-- ---- an exit alone

bare_step : (outcome : Outcome) → step 128 bare_exit outcome entry ≡ Err trap.Unset
unfolding step effect_of instruction_of read_fields opcode_of operation_of comparison_of size_of convert_opcode arithmetic_opcode jump_opcode immediate_opcode load_opcode store_opcode store_register_opcode
bare_step outcome = refl

bare_by : (outcome : Outcome) (before answer : ℕ) (last : State) → Reaches 128 bare_exit outcome entry before last → step 128 bare_exit outcome last ≡ Ok (answers answer) → ⊥
unfolding Reaches
bare_by outcome zero answer last same answered =
    let bad : ◌≡◌ {A = Result Effect TrapReason} (Err trap.Unset) (Ok (answers answer)) = sym (bare_step outcome) ∙ (ap (step 128 bare_exit outcome) same ∙ answered) in cc
bare_by outcome (suc before) answer last (u, first, rest) answered =
    let bad : ◌≡◌ {A = Result Effect TrapReason} (Err trap.Unset) (Ok (goes u)) = sym (bare_step outcome) ∙ first in cc

pub bare_is_not_safe : IsSafe 128 bare_exit 1 → ⊥
bare_is_not_safe safe =
    let ended = safe.ends (response 503) (response_is_outcome 128 (lit≤ tt)) in
    bare_by (response 503) ended.4.before ended.0 ended.4.last ended.4.reached ended.4.answered

-- ---- a move of 0, and an exit

abbrev after_first : State
after_first = record { slot = 1; registers = slice_set entry.registers 0 (value.Number 0); stack = entry.stack }

zero_first : (outcome : Outcome) → step 128 zero_slots outcome entry ≡ Ok (goes after_first)
unfolding step effect_of instruction_of read_fields opcode_of operation_of comparison_of size_of convert_opcode arithmetic_opcode jump_opcode immediate_opcode load_opcode store_opcode store_register_opcode
zero_first outcome = refl

zero_second : (outcome : Outcome) → step 128 zero_slots outcome after_first ≡ Ok (answers 0)
unfolding step effect_of instruction_of read_fields opcode_of operation_of comparison_of size_of convert_opcode arithmetic_opcode jump_opcode immediate_opcode load_opcode store_opcode store_register_opcode
zero_second outcome = refl

zero_by : (outcome : Outcome) (before answer : ℕ) (last : State) → before ≡ 1 → Reaches 128 zero_slots outcome entry before last → step 128 zero_slots outcome last ≡ Ok (answers answer) → answer ≡ 0
unfolding Reaches
zero_by outcome zero answer last one same answered = absurd (omega (arith, one))
zero_by outcome (suc zero) answer last one (u, first, same) answered =
    let gone : ◌≡◌ {A = Result Effect TrapReason} (Ok (goes u)) (Ok (goes after_first)) = sym first ∙ zero_first outcome in
    let u_is : u ≡ after_first = cc in
    let last_is : last ≡ after_first = sym same ∙ u_is in
    let both : ◌≡◌ {A = Result Effect TrapReason} (Ok (answers answer)) (Ok (answers 0)) = sym answered ∙ (ap (step 128 zero_slots outcome) last_is ∙ zero_second outcome) in
    cc
zero_by outcome (suc (suc before)) answer last one reached answered = absurd (omega (arith, one))

-- it answers 0 after two steps, and nothing else
pub zero_untied : IsTied (zero_work verdict.Failure) → ⊥
zero_untied ended =
    let counted = ended.counted in
    let is : 1 ≡ 0 = zero_by (response 503) ended.before 1 ended.last (omega (arith, counted)) ended.reached ended.answered in
    omega (arith, is)

-- ---- entries

is_meant : (work : JudgedData) (ticket steps version : ℕ) (v : Verdict) → IsTied (zero_work verdict.Success) → zero_work verdict.Success ≡ work → 1 ≡ ticket → 2 ≡ steps → 1 ≡ version → verdict.Success ≡ v
    → IsMeant 1 (zero_program ∷ []) (first_ticket ∷ []) work ticket v steps version
is_meant work ticket steps version v tied w t s n e =
    let here : IsMeant 1 (zero_program ∷ []) (first_ticket ∷ []) (zero_work verdict.Success) 1 verdict.Success 2 1 = record {
      issued = first_ticket;
      listed = (0, lit< tt, refl);
      number = refl;
      of_version = refl;
      program = zero_program;
      held = refl;
      meant = tied;
    } in
    subst (λ x. IsMeant 1 (zero_program ∷ []) (first_ticket ∷ []) work ticket x steps version) e
    (subst (λ x. IsMeant 1 (zero_program ∷ []) (first_ticket ∷ []) work ticket verdict.Success steps x) n
    (subst (λ x. IsMeant 1 (zero_program ∷ []) (first_ticket ∷ []) work ticket verdict.Success x 1) s
    (subst (λ x. IsMeant 1 (zero_program ∷ []) (first_ticket ∷ []) work x verdict.Success 2 1) t
    (subst (λ x. IsMeant 1 (zero_program ∷ []) (first_ticket ∷ []) x 1 verdict.Success 2 1) w here))))

pub line_is_meant : IsTied (zero_work verdict.Success) → IsMeantLine 1 (zero_program ∷ []) (first_ticket ∷ []) (reported_line verdict.Success)
line_is_meant tied work ticket f v steps version st e r =
    let event : finishes (zero_work verdict.Success) 1 ≡ finishes work ticket = e in
    let replied : reply.Finished fate.Recorded verdict.Success 2 1 state.Closed ≡ reply.Finished f v steps version st = r in
    let w : zero_work verdict.Success ≡ work = cc in
    let t : 1 ≡ ticket = cc in
    let s : 2 ≡ steps = cc in
    let n : 1 ≡ version = cc in
    let given : verdict.Success ≡ v = cc in
    is_meant work ticket steps version v tied w t s n given

pub unissued_is_not_meant : IsMeantLine 1 (zero_program ∷ []) [] (reported_line verdict.Success) → ⊥
unissued_is_not_meant all =
    let meant = all (zero_work verdict.Success) 1 fate.Recorded verdict.Success 2 1 state.Closed refl refl in
    omega (arith, meant.listed.1)

pub other_is_not_meant : IsMeantLine 1 (zero_program ∷ []) (first_ticket ∷ []) (reported_line verdict.Failure) → ⊥
other_is_not_meant all =
    let meant = all (zero_work verdict.Failure) 1 fate.Recorded verdict.Failure 2 1 state.Closed refl refl in
    let held : ◌≡◌ {A = Option VerifiedProgram} (Some zero_program) (Some meant.program) = meant.held in
    let same : zero_program ≡ meant.program = cc in
    zero_untied (subst (λ (p : VerifiedProgram). Judges (context_size p.layout) p.slots (response 503) verdict.Failure 2) (sym same) meant.meant)

-- ---- events and steps

brings_nothing : (accepts : Accepting) (event : EventData) → ((program : VerifiedProgram) → event ≡ installs program → ⊥) → ((work : JudgedData) (ticket : ℕ) → event ≡ finishes work ticket → ⊥) → IsEvent accepts event
brings_nothing accepts event no_program no_work = record { installs_accepted = λ program e. absurd (no_program program e); judged = λ work ticket e. absurd (no_work work ticket e) }

pub acquire_brings_nothing : (accepts : Accepting) → IsEvent accepts acquires
acquire_brings_nothing accepts = brings_nothing accepts acquires (λ program e. cc) (λ work ticket e. cc)

release_brings_nothing : (accepts : Accepting) (ticket : ℕ) → IsEvent accepts (releases ticket)
release_brings_nothing accepts number = brings_nothing accepts (releases number) (λ program e. cc) (λ work ticket e. cc)

pub install_brings : (accepts : Accepting) (program : VerifiedProgram) → accepts program → IsEvent accepts (installs program)
install_brings accepts program is = record {
  installs_accepted = λ other e. subst accepts (let same : installs program ≡ installs other = e in let is_same : program ≡ other = cc in is_same) is;
  judged = λ work ticket e. absurd (let bad : installs program ≡ finishes work ticket = e in cc);
}

pub steps_are : (accepts : Accepting) → accepts zero_program → AreSteps accepts (steps_with zero_program)
steps_are accepts is = (
  (lit< tt, (lit< tt, acquire_brings_nothing accepts)),
  (
    (lit< tt, (lit< tt, install_brings accepts zero_program is)),
    (
      (lit< tt, (lit< tt, release_brings_nothing accepts 1)),
      ((lit< tt, lit< tt), tt),
    ),
  ),
)
