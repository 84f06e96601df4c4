-- The verdict of a safe program is the meaning's, and judged work carries it.
use Rattle.std.proofs.Common.{◌≡◌, ◌&&◌, ◌==◌, ℕ, zero, suc, ◌-◌, ◌<◌, nat_le, Bool, true, if◌then◌else◌, List, slice_get, Option, Some, None, Ok, arith, ap, sym, ◌∙◌, subst, rules}
use Rattle.std.specs.List.{AllByRecursion}
use Rattle.std.specs.Option.{option_map_or}
use Rattle.bpf_profile.specs.declared.layout.Layout.{Layout}
use Rattle.bpf_profile.specs.declared.machine.Verdict.{Verdict}
use Rattle.bpf_profile.specs.declared.machine.Verdict.TheVariants as verdict
use Rattle.bpf_profile.specs.declared.slot.Slot.{Slot}
use Rattle.bpf_profile.specs.Layouts.{context_size}
use Rattle.bpf_profile.specs.Limits.{record_size}
use Rattle.bpf_profile.specs.Machine.{State, answers}
use Rattle.bpf_profile.specs.Meaning.{step, entry, Reaches, Ends, Judges, answer_of}
use Rattle.bpf_profile.specs.Outcomes.{Outcome, IsOutcome}
use Rattle.bpf_profile.specs.Safety.{IsSafe}
use Rattle.bpf_profile.specs.Spelling.{Spells}
use Rattle.bpf_profile.proofs.Layouts.{fits_layout}
use Rattle.bpf_profile.proofs.Runs.{ends_agree, named_answer}
use Rattle.bpf_decode.proofs.Spelled.{same_slots}
use Rattle.bpf_profile.specs.Programs.{VerifiedProgram}
use Rattle.service_profile.specs.declared.decisions.Judgement.{Judgement}
use Rattle.service_profile.specs.Machine.{program_from}
use Rattle.book.specs.Accepted.{Accepting, IsSafeProgram}
use Rattle.book.proofs.Lists.{got}
use Rattle.service_profile.specs.Verdicts.{Ending, one_later, ending_of, ending_within, verdict_of, judged_as, judgement}

pub ending_of_run : (size : ℕ) (slots : List Slot) (outcome : Outcome) (count left : ℕ) (s t : State) (n : ℕ)
    → Reaches size slots outcome s count t → step size slots outcome t ≡ Ok (answers n) → count < left
    → ending_within size slots outcome left s ≡ Some (record { answer = n; steps = suc count })
unfolding Reaches ending_within
ending_of_run size slots outcome zero (suc left) s t n r a h =
    ap (ending_of (λ next. ending_within size slots outcome left next)) (ap (step size slots outcome) r ∙ a)
ending_of_run size slots outcome (suc count) (suc left) s t n r a h =
    ap (ending_of (λ next. ending_within size slots outcome left next)) r.1
    ∙ ap one_later (ending_of_run size slots outcome count left r.0 t n r.2 a (omega arith))
ending_of_run size slots outcome count zero s t n r a h = absurd (omega arith)

same_name : (v : Verdict) → verdict_of (answer_of v) ≡ v
same_name v = search rules

named : (v : Verdict) (steps : ℕ) → judged_as (record { answer = answer_of v; steps = steps }) ≡ record { verdict = v; steps = steps }
named v steps = ap (λ (w : Verdict). let j : Judgement = record { verdict = w; steps = steps } in j) (same_name v)

pub judgement_is : (program : VerifiedProgram) (outcome : Outcome) (v : Verdict) (steps : ℕ)
    → IsSafe (context_size program.layout) program.slots program.budget → IsOutcome (context_size program.layout) outcome → Judges (context_size program.layout) program.slots outcome v steps
    → judgement program outcome ≡ record { verdict = v; steps = steps }
unfolding judgement
judgement_is program outcome v steps safe fits judges =
    let ends = safe.ends outcome fits in
    let same = ends_agree (context_size program.layout) program.slots outcome ends.0 (answer_of v) ends.1 steps ends.4 judges in
    let within : judges.before < program.budget = omega (arith, same.1, ends.3, judges.counted) in
    let ending = ending_of_run (context_size program.layout) program.slots outcome judges.before program.budget entry judges.last (answer_of v) judges.reached judges.answered within in
    ap (λ (e : Option Ending). option_map_or judged_as e (record { verdict = verdict.Ignored; steps = 0 })) ending
    ∙ named v (suc judges.before)
    ∙ ap (λ (k : ℕ). let j : Judgement = record { verdict = v; steps = k } in j) (sym judges.counted)

-- ---- what two programs share

pub right_of_both : (a b : Bool) → (a && b) ≡ true → b ≡ true
right_of_both a b e = search rules

pub same_number : (n m : ℕ) → (n == m) ≡ true → n ≡ m
same_number n m e = grind arith

-- programs with the same bytes have the same slots
pub slots_by_bytes : (a b : VerifiedProgram) (x y : List ℕ) → Spells x a.slots → Spells y b.slots → x ≡ y → a.slots ≡ b.slots
slots_by_bytes a b x y p q e = same_slots x a.slots b.slots p (subst (λ (z : List ℕ). Spells z b.slots) (sym e) q)

-- the judgement of the same slots under another budget
pub judgement_by_slots : (program : VerifiedProgram) (slots : List Slot) (layout : Layout) (outcome : Outcome) (v : Verdict) (steps : ℕ)
    → slots ≡ program.slots → layout ≡ program.layout → IsSafe (context_size program.layout) program.slots program.budget → IsOutcome record_size outcome → Judges (context_size layout) slots outcome v steps
    → judgement program outcome ≡ record { verdict = v; steps = steps }
judgement_by_slots program slots layout outcome v steps same seen safe fits judges =
    judgement_is program outcome v steps safe (fits_layout program.layout outcome fits)
    (subst (λ (l : Layout). Judges (context_size l) program.slots outcome v steps) seen (subst (λ (s : List Slot). Judges (context_size layout) s outcome v steps) same judges))

-- the judgement of a safe program is the meaning's
pub judgement_judges : (program : VerifiedProgram) (outcome : Outcome) → IsSafeProgram program → IsOutcome (context_size program.layout) outcome
    → Judges (context_size program.layout) program.slots outcome (judgement program outcome).verdict (judgement program outcome).steps
judgement_judges program outcome safe_ fits =
    let ends = safe_.safe.ends outcome fits in
    let name = named_answer ends.0 ends.2 in
    let judges : Judges (context_size program.layout) program.slots outcome name.0 ends.1 = subst (λ (n : ℕ). Ends (context_size program.layout) program.slots outcome n ends.1) (sym name.1) ends.4 in
    let same = judgement_is program outcome name.0 ends.1 safe_.safe fits judges in
    subst (λ (j : Judgement). Judges (context_size program.layout) program.slots outcome j.verdict j.steps) (sym same) judges

program_by : (accepts : Accepting) (test : Bool) (programs : List VerifiedProgram) (place : ℕ) (program : VerifiedProgram) → AllByRecursion accepts programs → (if test then slice_get programs place else None) ≡ Some program → accepts program
program_by accepts test programs place program all e = search (rules, got)

-- the program of a version that is held is accepted
pub program_accepted : (accepts : Accepting) (first : ℕ) (programs : List VerifiedProgram) (version : ℕ) (program : VerifiedProgram) → AllByRecursion accepts programs → program_from first programs version ≡ Some program → accepts program
program_accepted accepts first programs version program all e = program_by accepts (nat_le first version) programs (version - first) program all e
