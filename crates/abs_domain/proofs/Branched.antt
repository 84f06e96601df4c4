-- What conditional jumps leave of contained words is contained.
use Rattle.std.proofs.Common.{◌≡◌, ℕ, ◌≤◌, ◌&&◌, Bool, true, false, cond, arith, refl, subst}
use Rattle.std.proofs.lemmas.Bool.{leb-true}
use Rattle.std.specs.Prelude.{nat_le}
use Rattle.bpf_profile.specs.Words.{holds}
use Rattle.bpf_profile.specs.declared.instruction.Comparison.{Comparison}
use Rattle.bpf_profile.specs.declared.instruction.Width.{Width}
use Rattle.abs_domain.proofs.Compared.{Teaches, compared}
use Rattle.abs_domain.specs.Branches.{lesson_of, greatest, is_usable, branch_first, branch_second}
use Rattle.abs_domain.specs.Operations.{Relates}
use Rattle.abs_domain.specs.declared.domain.Domain.{Ghosts}
use Rattle.abs_domain.specs.declared.operations.Relation.{Relation}

-- the laws of a domain that are used here
pub record Refines {X : Type 0} (domain : Ghosts X) : Type 0 where
  pub bounds : (a : X) (n : ℕ) → domain.contains a n → ((domain.bounds_of a).low ≤ n) × (n ≤ (domain.bounds_of a).high)
  pub first : (relation : Relation) (a b : X) (n m : ℕ) → domain.contains a n → domain.contains b m → Relates relation n m → domain.contains (domain.refined_first relation a b) n
  pub second : (relation : Relation) (a b : X) (n m : ℕ) → domain.contains a n → domain.contains b m → Relates relation n m → domain.contains (domain.refined_second relation a b) m

both_true : (p q : Bool) → (p && q) ≡ true → (p ≡ true) × (q ≡ true)
both_true true q e = (refl, e)
both_true false q e = absurd (subst (λ b. cond b ⊥ (Unit {0})) e tt)

-- by the order in which a lesson's words stand
first_by : {X : Type 0} (domain : Ghosts X) → Refines domain → (order : Bool) (relation : Relation) (a b : X) (n m : ℕ) → domain.contains a n → domain.contains b m
    → cond order (Relates relation m n) (Relates relation n m) → domain.contains (cond order (domain.refined_second relation b a) (domain.refined_first relation a b)) n
first_by domain laws true relation a b n m h k r = laws.second relation b a m n k h r
first_by domain laws false relation a b n m h k r = laws.first relation a b n m h k r

second_by : {X : Type 0} (domain : Ghosts X) → Refines domain → (order : Bool) (relation : Relation) (a b : X) (n m : ℕ) → domain.contains a n → domain.contains b m
    → cond order (Relates relation m n) (Relates relation n m) → domain.contains (cond order (domain.refined_first relation b a) (domain.refined_second relation a b)) m
second_by domain laws true relation a b n m h k r = laws.first relation b a m n k h r
second_by domain laws false relation a b n m h k r = laws.second relation a b n m h k r

chosen : {X : Type 0} (contains : X → ℕ → Type 0) (test : Bool) (x y : X) (n : ℕ) (t : Bool) → t ≡ test → (t ≡ true → contains x n) → contains y n → contains (cond test x y) n
chosen contains true x y n t e h k = h e
chosen contains false x y n t e h k = k

-- what is usable teaches
taught : {X : Type 0} (domain : Ghosts X) → Refines domain → (c : Comparison) (w : Width) (taken : Bool) (a b : X) (n m : ℕ) → domain.contains a n → domain.contains b m → holds c w n m ≡ taken
    → is_usable domain w (lesson_of c taken).signed a b ≡ true → Teaches (lesson_of c taken) n m
taught domain laws c w taken a b n m h k e usable =
    let tests = both_true (nat_le (domain.bounds_of a).high (greatest w (lesson_of c taken).signed)) (nat_le (domain.bounds_of b).high (greatest w (lesson_of c taken).signed)) usable in
    let p = leb-true (domain.bounds_of a).high (greatest w (lesson_of c taken).signed) tests.0 in
    let q = leb-true (domain.bounds_of b).high (greatest w (lesson_of c taken).signed) tests.1 in
    let inside = laws.bounds a n h in
    let within = laws.bounds b m k in
    compared c w taken n m (omega (arith, inside.1, p)) (omega (arith, within.1, q)) e

pub first_kept : {X : Type 0} (domain : Ghosts X) → Refines domain → (c : Comparison) (w : Width) (taken : Bool) (a b : X) (n m : ℕ) → domain.contains a n → domain.contains b m → holds c w n m ≡ taken
    → domain.contains (branch_first domain c w taken a b) n
first_kept domain laws c w taken a b n m h k e =
    chosen domain.contains (is_usable domain w (lesson_of c taken).signed a b) (cond (lesson_of c taken).exchanged (domain.refined_second (lesson_of c taken).relation b a) (domain.refined_first (lesson_of c taken).relation a b)) a n
    (is_usable domain w (lesson_of c taken).signed a b) refl
    (λ usable. first_by domain laws (lesson_of c taken).exchanged (lesson_of c taken).relation a b n m h k (taught domain laws c w taken a b n m h k e usable)) h

pub second_kept : {X : Type 0} (domain : Ghosts X) → Refines domain → (c : Comparison) (w : Width) (taken : Bool) (a b : X) (n m : ℕ) → domain.contains a n → domain.contains b m → holds c w n m ≡ taken
    → domain.contains (branch_second domain c w taken a b) m
second_kept domain laws c w taken a b n m h k e =
    chosen domain.contains (is_usable domain w (lesson_of c taken).signed a b) (cond (lesson_of c taken).exchanged (domain.refined_first (lesson_of c taken).relation b a) (domain.refined_second (lesson_of c taken).relation a b)) b m
    (is_usable domain w (lesson_of c taken).signed a b) refl
    (λ usable. second_by domain laws (lesson_of c taken).exchanged (lesson_of c taken).relation a b n m h k (taught domain laws c w taken a b n m h k e usable)) k
