-- The steps of one connection in a log, behind which further steps come.
use Rattle.std.proofs.Common.{◌≡◌, ◌≢◌, ◌⊎◌, inl, inr, ℕ, List, [], ◌∷◌, ◌++◌, ◌==◌, Bool, true, false, if◌then◌else◌, ap, sym, ◌∙◌, refl, eqb-true, arith}
use Rattle.std.proofs.lemmas.Bool.{eq-eqb}
use Rattle.http_connection.specs.Steps.{Step}
use Rattle.event_loop.specs.Log.{LoggedStep, all_steps, steps_of, tag}

-- ---- numbers

apart_bools : true ≡ false → ⊥
apart_bools h = grind arith

either_by : (a b : ℕ) (same : Bool) → (a == b) ≡ same → (a ≡ b) ⊎ (a ≢ b)
either_by a b true h = inl (eqb-true a b h)
either_by a b false h = inr (λ e. apart_bools (sym (eq-eqb a b e) ∙ h))

pub either : (a b : ℕ) → (a ≡ b) ⊎ (a ≢ b)
either a b = either_by a b (a == b) refl

not_same : (a b : ℕ) → a ≢ b → (a == b) ≡ false
not_same a b apart = by_bool (a == b) refl where
  by_bool : (same : Bool) → (a == b) ≡ same → (a == b) ≡ false
  by_bool true h = absurd (apart (eqb-true a b h))
  by_bool false h = h

-- ---- logs

all_tagged : (n : ℕ) (own : List Step) → all_steps (tag n own) ≡ own
all_tagged n [] = refl
all_tagged n (step ∷ own) = ap (λ z. step ∷ z) (all_tagged n own)

pub all_both : (log : List LoggedStep) (n : ℕ) (own : List Step) → all_steps (log ++ tag n own) ≡ all_steps log ++ own
all_both [] n own = all_tagged n own
all_both (logged ∷ log) n own = ap (λ z. logged.step ∷ z) (all_both log n own)

own_tagged : (n : ℕ) (own : List Step) → steps_of n (tag n own) ≡ own
own_tagged n [] = refl
own_tagged n (step ∷ own) = rw (eq-eqb n n refl) (ap (λ z. step ∷ z) (own_tagged n own))

if_both : (same : Bool) (step : Step) (one two own : List Step) → one ≡ two ++ own → (if same then step ∷ one else one) ≡ (if same then step ∷ two else two) ++ own
if_both true step one two own h = ap (λ z. step ∷ z) h
if_both false step one two own h = h

pub steps_own : (log : List LoggedStep) (n : ℕ) (own : List Step) → steps_of n (log ++ tag n own) ≡ steps_of n log ++ own
steps_own [] n own = own_tagged n own
steps_own (logged ∷ log) n own = if_both (logged.number == n) logged.step (steps_of n (log ++ tag n own)) (steps_of n log) own (steps_own log n own)

other_tagged : (m n : ℕ) (own : List Step) → m ≢ n → steps_of m (tag n own) ≡ []
other_tagged m n [] apart = refl
other_tagged m n (step ∷ own) apart = rw (not_same n m (λ e. apart (sym e))) (other_tagged m n own apart)

if_same : (same : Bool) (step : Step) (one two : List Step) → one ≡ two → (if same then step ∷ one else one) ≡ (if same then step ∷ two else two)
if_same true step one two h = ap (λ z. step ∷ z) h
if_same false step one two h = h

pub steps_other : (log : List LoggedStep) (m n : ℕ) (own : List Step) → m ≢ n → steps_of m (log ++ tag n own) ≡ steps_of m log
steps_other [] m n own apart = other_tagged m n own apart
steps_other (logged ∷ log) m n own apart = if_same (logged.number == m) logged.step (steps_of m (log ++ tag n own)) (steps_of m log) (steps_other log m n own apart)
