-- A decision stays in its period or begins the next one; and which window a configuration wants.
use Rattle.std.proofs.Common.{◌≡◌, ℕ, ◌-◌, nat_le, ◌&&◌, false, cond, List, arith, refl}
use Rattle.std.proofs.lemmas.Bool.{cond_both}
use Rattle.service_profile.specs.declared.configuration.ConfigParts.{ConfigParts}
use Rattle.service_profile.specs.declared.configuration.SlidingWindowType.TheVariants as window
use Rattle.service_profile.specs.declared.decisions.Permission.{Permission}
use Rattle.service_profile.specs.declared.notes.Note.{Note}
use Rattle.service_profile.specs.declared.notes.Totals.{Totals}
use Rattle.service_profile.specs.declared.standings.Standing.{Standing}
use Rattle.service_profile.specs.declared.states.State.{State}
use Rattle.service_profile.specs.declared.states.State.TheVariants as state
use Rattle.service_profile.specs.Machine.{half_open_permission, permission_in}
use Rattle.service_profile.specs.Rates.{minimum, either_reaches, after_totals}
use Rattle.service_profile.specs.Standings.{moved}
use Rattle.service_profile.specs.Windows.{last, in_window}

-- a standing in the same period is the same
abbrev pub Stays : Standing → Standing → Type 0
Stays standing next = next.period ≡ standing.period → next ≡ standing

moves : (standing : Standing) (state : State) (moment : ℕ) → Stays standing (moved state moment standing)
moves standing state moment e = absurd (omega (arith, e))

pub permission_stays : (st : State) (config : ConfigParts) (standing : Standing) (noted held moment : ℕ) → Stays standing (permission_in st config standing noted held moment).standing
permission_stays state.Closed config standing noted held moment e = refl
permission_stays state.MetricsOnly config standing noted held moment e = refl
permission_stays state.Disabled config standing noted held moment e = refl
permission_stays state.ForcedOpen config standing noted held moment e = refl
permission_stays state.HalfOpen config standing noted held moment e = refl
permission_stays state.Open config standing noted held moment e =
    cond_both (nat_le config.wait_duration_in_open_state (moment - standing.since)) (half_open_permission config (moved state.HalfOpen moment standing) 0 0) (record { given = false; standing = standing })
    (λ (p : Permission). Stays standing p.standing) (λ test. moves standing state.HalfOpen moment) (λ test same. refl) e

pub after_stays : (st : State) (config : ConfigParts) (moment : ℕ) (standing : Standing) (totals : Totals) → Stays standing (after_totals config moment standing st totals)
after_stays state.Closed config moment standing totals e =
    cond_both (nat_le (minimum config state.Closed) totals.total && either_reaches config totals) (moved state.Open moment standing) standing (Stays standing) (λ test. moves standing state.Open moment) (λ test same. refl) e
after_stays state.HalfOpen config moment standing totals e =
    cond_both (nat_le (minimum config state.HalfOpen) totals.total) (cond (either_reaches config totals) (moved state.Open moment standing) (moved state.Closed moment standing)) standing (Stays standing)
    (λ test. cond_both (either_reaches config totals) (moved state.Open moment standing) (moved state.Closed moment standing) (Stays standing) (λ again. moves standing state.Open moment) (λ again. moves standing state.Closed moment))
    (λ test same. refl) e
after_stays state.Open config moment standing totals e = refl
after_stays state.Disabled config moment standing totals e = refl
after_stays state.MetricsOnly config moment standing totals e = refl
after_stays state.ForcedOpen config moment standing totals e = refl

pub counts_calls : (config parts : ConfigParts) (moment : ℕ) (notes : List Note) → parts ≡ config → parts.sliding_window_type ≡ window.CountBased → last parts.sliding_window_size notes ≡ in_window config moment notes
counts_calls config parts moment notes same kind = rw (← same, kind) refl
