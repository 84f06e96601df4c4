-- Runs that end, and runs that go on.
use Rattle.std.proofs.Common.{◌≡◌, ℕ, zero, suc, ◌<◌, ◌≤◌, List, Result, Ok, Err, refl, sym, ap, ◌∙◌, subst, arith}
use Rattle.bpf_profile.specs.declared.machine.TrapReason.{TrapReason}
use Rattle.bpf_profile.specs.declared.slot.Slot.{Slot}
use Rattle.bpf_profile.specs.Machine.{State, Effect, goes, answers}
use Rattle.bpf_profile.specs.Meaning.{step, Reaches, entry, Ends, Judges, answer_of}
use Rattle.bpf_profile.specs.Outcomes.{Outcome, IsOutcome}
use Rattle.bpf_profile.specs.Safety.{IsSafe}
use Rattle.bpf_profile.specs.declared.machine.Verdict.{Verdict}
use Rattle.bpf_profile.proofs.Runs.{named_answer}
use Rattle.bpf_slow.specs.declared.ending.End.{End}
use Rattle.bpf_slow.specs.declared.ending.End.TheVariants as end
use Rattle.bpf_slow.specs.Ending.{TrapsWithin, GoesOn, IsEnd}

pub reaches_more : (size : ℕ) (slots : List Slot) (outcome : Outcome) (s t u : State) (count : ℕ) → Reaches size slots outcome s count t → step size slots outcome t ≡ Ok (goes u) → Reaches size slots outcome s (suc count) u
unfolding Reaches
reaches_more size slots outcome s t u zero r e = (u, ap (step size slots outcome) r ∙ e, refl)
reaches_more size slots outcome s t u (suc count) (v, first, r) e = (v, first, reaches_more size slots outcome v t u count r e)

pub reaches_none : (size : ℕ) (slots : List Slot) (outcome : Outcome) (s t : State) → s ≡ t → Reaches size slots outcome s 0 t
unfolding Reaches
reaches_none size slots outcome s t e = e

same_goes : (a : Result Effect TrapReason) (s t : State) → a ≡ Ok (goes s) → a ≡ Ok (goes t) → s ≡ t
same_goes a s t p q = cc

-- no step leads on
Stuck : ℕ → List Slot → Outcome → State → Type 0
Stuck size slots outcome t = (u : State) → step size slots outcome t ≡ Ok (goes u) → ⊥

-- a run does not stop before a longer one
goes_on : (size : ℕ) (slots : List Slot) (outcome : Outcome) (s : State) (j k : ℕ) (t u : State) → Reaches size slots outcome s j t → Reaches size slots outcome s k u → j < k → (v : State) × (step size slots outcome t ≡ Ok (goes v))
unfolding Reaches
goes_on size slots outcome s zero zero t u a b h = absurd (omega arith)
goes_on size slots outcome s zero (suc k) t u a b h = (b.0, ap (step size slots outcome) (sym a) ∙ b.1)
goes_on size slots outcome s (suc j) zero t u a b h = absurd (omega arith)
goes_on size slots outcome s (suc j) (suc k) t u a b h =
    let next = same_goes _ b.0 a.0 b.1 a.1 in
    goes_on size slots outcome a.0 j k t u a.2 (subst (λ (v : State). Reaches size slots outcome v k u) next b.2) (omega arith)

-- two runs that stop are one
stop_together : (size : ℕ) (slots : List Slot) (outcome : Outcome) (s : State) (j k : ℕ) (t u : State) → Reaches size slots outcome s j t → Stuck size slots outcome t → Reaches size slots outcome s k u → Stuck size slots outcome u → (j ≡ k) × (t ≡ u)
unfolding Reaches Stuck
stop_together size slots outcome s zero zero t u a x b y = (refl, sym a ∙ b)
stop_together size slots outcome s zero (suc k) t u a x b y = absurd (x b.0 (ap (step size slots outcome) (sym a) ∙ b.1))
stop_together size slots outcome s (suc j) zero t u a x b y = absurd (y a.0 (ap (step size slots outcome) (sym b) ∙ a.1))
stop_together size slots outcome s (suc j) (suc k) t u a x b y =
    let next = same_goes _ b.0 a.0 b.1 a.1 in
    let rest = stop_together size slots outcome a.0 j k t u a.2 x (subst (λ (v : State). Reaches size slots outcome v k u) next b.2) y in
    (ap suc rest.0, rest.1)

goes_not_answers : (a : Result Effect TrapReason) (s : State) (n : ℕ) → a ≡ Ok (answers n) → a ≡ Ok (goes s) → ⊥
goes_not_answers a s n p q = cc

goes_not_traps : (a : Result Effect TrapReason) (s : State) (reason : TrapReason) → a ≡ Err reason → a ≡ Ok (goes s) → ⊥
goes_not_traps a s reason p q = cc

answers_not_traps : (a : Result Effect TrapReason) (n : ℕ) (reason : TrapReason) → a ≡ Ok (answers n) → a ≡ Err reason → ⊥
answers_not_traps a n reason p q = cc

same_answers : (a : Result Effect TrapReason) (m n : ℕ) → a ≡ Ok (answers m) → a ≡ Ok (answers n) → m ≡ n
same_answers a m n p q = cc

same_traps : (a : Result Effect TrapReason) (p q : TrapReason) → a ≡ Err p → a ≡ Err q → p ≡ q
same_traps a x y p q = cc

stuck_at_answer : (size : ℕ) (slots : List Slot) (outcome : Outcome) (s : State) (n : ℕ) → step size slots outcome s ≡ Ok (answers n) → Stuck size slots outcome s
unfolding Stuck
stuck_at_answer size slots outcome s n e u f = goes_not_answers _ u n e f

stuck_at_trap : (size : ℕ) (slots : List Slot) (outcome : Outcome) (s : State) (reason : TrapReason) → step size slots outcome s ≡ Err reason → Stuck size slots outcome s
unfolding Stuck
stuck_at_trap size slots outcome s reason e u f = goes_not_traps _ u reason e f

not_stuck : (size : ℕ) (slots : List Slot) (outcome : Outcome) (limit before : ℕ) (last : State) → GoesOn size slots outcome limit → before < limit → Reaches size slots outcome entry before last → Stuck size slots outcome last → ⊥
unfolding Stuck
not_stuck size slots outcome limit before last g h r x =
    let on = goes_on size slots outcome entry before limit last g.last r g.reached h in
    x on.0 on.1

done_not_traps : (size : ℕ) (slots : List Slot) (outcome : Outcome) (limit m j place : ℕ) (reason : TrapReason) → Ends size slots outcome m j → TrapsWithin size slots outcome limit place reason → ⊥
done_not_traps size slots outcome limit m j place reason a b =
    let both = stop_together size slots outcome entry a.before b.before a.last b.last a.reached (stuck_at_answer size slots outcome a.last m a.answered) b.reached (stuck_at_trap size slots outcome b.last reason b.trapped) in
    answers_not_traps _ m reason a.answered (ap (step size slots outcome) both.1 ∙ b.trapped)

done_not_on : (size : ℕ) (slots : List Slot) (outcome : Outcome) (limit m j : ℕ) → j ≤ limit → Ends size slots outcome m j → GoesOn size slots outcome limit → ⊥
done_not_on size slots outcome limit m j h a g =
    let short : a.before < limit = (let e = a.counted in omega (arith, h, e)) in
    not_stuck size slots outcome limit a.before a.last g short a.reached (stuck_at_answer size slots outcome a.last m a.answered)

traps_not_on : (size : ℕ) (slots : List Slot) (outcome : Outcome) (limit place : ℕ) (reason : TrapReason) → TrapsWithin size slots outcome limit place reason → GoesOn size slots outcome limit → ⊥
traps_not_on size slots outcome limit place reason b g =
    not_stuck size slots outcome limit b.before b.last g b.within b.reached (stuck_at_trap size slots outcome b.last reason b.trapped)

same_done : (m n j k : ℕ) → m ≡ n → j ≡ k → end.Done m j ≡ end.Done n k
same_done m n j k p q = cc

same_trap : (m n : ℕ) (x y : TrapReason) → m ≡ n → x ≡ y → end.Trap m x ≡ end.Trap n y
same_trap m n x y p q = cc

pub one_end : (size : ℕ) (slots : List Slot) (outcome : Outcome) (limit : ℕ) (x y : End) → IsEnd size slots outcome limit x → IsEnd size slots outcome limit y → x ≡ y
one_end size slots outcome limit (end.Done m j) (end.Done n k) a b =
    let x = a.1 in
    let y = b.1 in
    let both = stop_together size slots outcome entry x.before y.before x.last y.last x.reached (stuck_at_answer size slots outcome x.last m x.answered) y.reached (stuck_at_answer size slots outcome y.last n y.answered) in
    same_done m n j k (same_answers _ m n x.answered (ap (step size slots outcome) both.1 ∙ y.answered)) (x.counted ∙ ap suc both.0 ∙ sym y.counted)
one_end size slots outcome limit (end.Done m j) (end.Trap place reason) a b = absurd (done_not_traps size slots outcome limit m j place reason a.1 b)
one_end size slots outcome limit (end.Done m j) end.OutOfSteps a b = absurd (done_not_on size slots outcome limit m j a.0 a.1 b)
one_end size slots outcome limit (end.Trap place reason) (end.Done n k) a b = absurd (done_not_traps size slots outcome limit n k place reason b.1 a)
one_end size slots outcome limit (end.Trap place reason) (end.Trap other why) a b =
    let both = stop_together size slots outcome entry a.before b.before a.last b.last a.reached (stuck_at_trap size slots outcome a.last reason a.trapped) b.reached (stuck_at_trap size slots outcome b.last why b.trapped) in
    same_trap place other reason why (sym a.here ∙ ap (λ (s : State). s.slot) both.1 ∙ b.here) (same_traps _ reason why a.trapped (ap (step size slots outcome) both.1 ∙ b.trapped))
one_end size slots outcome limit (end.Trap place reason) end.OutOfSteps a b = absurd (traps_not_on size slots outcome limit place reason a b)
one_end size slots outcome limit end.OutOfSteps (end.Done n k) a b = absurd (done_not_on size slots outcome limit n k b.0 b.1 a)
one_end size slots outcome limit end.OutOfSteps (end.Trap place reason) a b = absurd (traps_not_on size slots outcome limit place reason b a)
one_end size slots outcome limit end.OutOfSteps end.OutOfSteps a b = refl

pub longer_trap : (size : ℕ) (slots : List Slot) (outcome : Outcome) (limit greater place : ℕ) (reason : TrapReason) → limit ≤ greater → TrapsWithin size slots outcome limit place reason → TrapsWithin size slots outcome greater place reason
longer_trap size slots outcome limit greater place reason h t =
    record { before = t.before; last = t.last; within = (let w = t.within in omega (arith, h, w)); reached = t.reached; here = t.here; trapped = t.trapped }

pub safe_end : (size budget limit : ℕ) (slots : List Slot) (outcome : Outcome) (x : End) → IsSafe size slots budget → IsOutcome size outcome → budget ≤ limit → IsEnd size slots outcome limit x → (v : Verdict) × (steps : ℕ) × (steps ≤ budget) × (x ≡ end.Done (answer_of v) steps) × Judges size slots outcome v steps
safe_end size budget limit slots outcome x safe is h e =
    let ends = safe.ends outcome is in
    let verdict = named_answer ends.0 ends.2 in
    let judged : Judges size slots outcome verdict.0 ends.1 = subst (λ (n : ℕ). Ends size slots outcome n ends.1) (sym verdict.1) ends.4 in
    let short : ends.1 ≤ limit = (let s = ends.3 in omega (arith, s, h)) in
    (verdict.0, ends.1, ends.3, one_end size slots outcome limit x (end.Done (answer_of verdict.0) ends.1) e (short, judged), judged)
