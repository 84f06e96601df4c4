-- Runs of steps: two that end in an answer are one.
use Rattle.std.proofs.Common.{◌≡◌, ℕ, zero, suc, ◌≤◌, List, Result, Ok, refl, sym, ap, ◌∙◌, subst, arith}
use Rattle.bpf_profile.specs.declared.machine.TrapReason.{TrapReason}
use Rattle.bpf_profile.specs.declared.machine.Verdict.{Verdict}
use Rattle.bpf_profile.specs.declared.machine.Verdict.TheVariants.{Success, Failure, Ignored}
use Rattle.bpf_profile.specs.declared.slot.Slot.{Slot}
use Rattle.bpf_profile.specs.Machine.{State, Effect, goes, answers}
use Rattle.bpf_profile.specs.Meaning.{step, Reaches, entry, Ends, answer_of, Judges}
use Rattle.bpf_profile.specs.Outcomes.{Outcome}

-- a state that goes on does not answer
goes_not_answers : (a : Result Effect TrapReason) (s : State) (n : ℕ) → a ≡ Ok (goes s) → a ≡ Ok (answers n) → ⊥
goes_not_answers a s n p q = cc

same_answers : (a : Result Effect TrapReason) (m n : ℕ) → a ≡ Ok (answers m) → a ≡ Ok (answers n) → m ≡ n
same_answers a m n p q = cc

same_goes : (a : Result Effect TrapReason) (s t : State) → a ≡ Ok (goes s) → a ≡ Ok (goes t) → s ≡ t
same_goes a s t p q = cc

-- two runs from one state, each up to a state that answers
pub runs_agree : (size : ℕ) (slots : List Slot) (outcome : Outcome) (s : State) (j k : ℕ) (t u : State) (m n : ℕ)
    → Reaches size slots outcome s j t → step size slots outcome t ≡ Ok (answers m)
    → Reaches size slots outcome s k u → step size slots outcome u ≡ Ok (answers n)
    → (m ≡ n) × (j ≡ k)
unfolding Reaches
runs_agree size slots outcome s zero zero t u m n a p b q =
    let from_t = ap (step size slots outcome) a ∙ p in
    let from_u = ap (step size slots outcome) b ∙ q in
    (same_answers _ m n from_t from_u, refl)
runs_agree size slots outcome s zero (suc k) t u m n a p b q =
    absurd (goes_not_answers _ b.0 m b.1 (ap (step size slots outcome) a ∙ p))
runs_agree size slots outcome s (suc j) zero t u m n a p b q =
    absurd (goes_not_answers _ a.0 n a.1 (ap (step size slots outcome) b ∙ q))
runs_agree size slots outcome s (suc j) (suc k) t u m n a p b q =
    let next = same_goes _ b.0 a.0 b.1 a.1 in
    let there : Reaches size slots outcome a.0 k u = subst (λ (v : State). Reaches size slots outcome v k u) next b.2 in
    let rest = runs_agree size slots outcome a.0 j k t u m n a.2 p there q in
    (rest.0, ap suc rest.1)

pub ends_agree : (size : ℕ) (slots : List Slot) (outcome : Outcome) (m n j k : ℕ) → Ends size slots outcome m j → Ends size slots outcome n k → (m ≡ n) × (j ≡ k)
ends_agree size slots outcome m n j k a b =
    let both = runs_agree size slots outcome entry a.before b.before a.last b.last m n a.reached a.answered b.reached b.answered in
    (both.0, a.counted ∙ ap suc both.1 ∙ sym b.counted)

-- verdicts with one answer are one
same_verdict : (v w : Verdict) → answer_of v ≡ answer_of w → v ≡ w
same_verdict Success Success e = refl
same_verdict Success Failure e = absurd (omega arith)
same_verdict Success Ignored e = absurd (omega arith)
same_verdict Failure Success e = absurd (omega arith)
same_verdict Failure Failure e = refl
same_verdict Failure Ignored e = absurd (omega arith)
same_verdict Ignored Success e = absurd (omega arith)
same_verdict Ignored Failure e = absurd (omega arith)
same_verdict Ignored Ignored e = refl

pub verdicts_agree : (size : ℕ) (slots : List Slot) (outcome : Outcome) (v w : Verdict) (j k : ℕ) → Judges size slots outcome v j → Judges size slots outcome w k → v ≡ w
verdicts_agree size slots outcome v w j k a b = same_verdict v w (ends_agree size slots outcome (answer_of v) (answer_of w) j k a b).0

-- an answer of at most 2 is a verdict's
pub named_answer : (n : ℕ) → n ≤ 2 → (v : Verdict) × (answer_of v ≡ n)
named_answer zero h = (Success, refl)
named_answer (suc zero) h = (Failure, refl)
named_answer (suc (suc zero)) h = (Ignored, refl)
named_answer (suc (suc (suc n))) h = absurd (omega arith)
