-- What each call answers, and where the breaker stands after it, by the documented machine.
use Rattle.std.specs.Prelude.{ℕ, ◌+◌, ◌-◌, ◌==◌, if◌then◌else◌, [], ◌∷◌, ◌++◌, length, Option, Some, None, option_to_list}
use Rattle.bpf_profile.specs.declared.machine.Verdict.TheVariants as verdict
use Rattle.breaker.specs.declared.metrics.Metrics.{Metrics}
use Rattle.breaker.specs.Situations.{BreakerSituation}
use Rattle.service_profile.specs.declared.decisions.Permission.{Permission}
use Rattle.service_profile.specs.declared.notes.Note.{Note}
use Rattle.service_profile.specs.declared.notes.Totals.{Totals}
use Rattle.service_profile.specs.declared.replies.Fate.{Fate}
use Rattle.service_profile.specs.declared.replies.Fate.TheVariants as fate
use Rattle.service_profile.specs.declared.standings.Standing.{Standing}
use Rattle.service_profile.specs.declared.states.State.{State}
use Rattle.service_profile.specs.declared.states.State.TheVariants as state
use Rattle.service_profile.specs.Machine.{permission_in, fate_of, has_overstayed}
use Rattle.service_profile.specs.Rates.{after_notes, minimum, shown_rate}
use Rattle.service_profile.specs.Standings.{moved}
use Rattle.service_profile.specs.Windows.{totals_of, windowed}

-- what the breaker says to a call
abbrev pub permission_of : ℕ → BreakerSituation → Permission
permission_of moment s = permission_in s.standing.state s.config s.standing (length s.notes) s.held moment

-- where the breaker stands after one note more
abbrev pub after_note_in : Note → BreakerSituation → Standing
after_note_in note s = after_notes s.config note.moment s.standing (s.notes ++ note ∷ [])

-- a new period begins with no notes and no permission held
abbrev pub begun : Standing → BreakerSituation → BreakerSituation
begun next s = record { config = s.config; standing = next; notes = []; held = 0 }

abbrev pub with_note_in : Note → BreakerSituation → BreakerSituation
with_note_in note s = record s { notes = s.notes ++ note ∷ [] }

-- with a note, where there is one, in the same period, else in a new one
abbrev pub followed : Standing → Option Note → BreakerSituation → BreakerSituation
followed next note s = if next.period == s.standing.period then record s { notes = s.notes ++ option_to_list note } else begun next s

-- one permission more is held
abbrev pub with_permission : BreakerSituation → BreakerSituation
with_permission s = record s { held = s.held + 1 }

-- one permission less is held
abbrev pub without_permission : BreakerSituation → BreakerSituation
without_permission s = record s { held = s.held - 1 }

-- ---- a stay in HALF_OPEN ends

-- where an event at a moment finds a breaker whose longest stay is over: in OPEN, in a new period; None where no stay ends
abbrev pub after_stay : ℕ → BreakerSituation → Option Standing
after_stay moment s = if has_overstayed s.config s.standing moment then Some (moved state.Open moment s.standing) else None

abbrev pub expired : ℕ → BreakerSituation → BreakerSituation
expired moment s = if has_overstayed s.config s.standing moment then begun (moved state.Open moment s.standing) s else s

-- ---- a call is asked for

abbrev pub permitted_period : Permission → Option ℕ
permitted_period permission = if permission.given then Some permission.standing.period else None

abbrev pub taken_by : Permission → BreakerSituation → BreakerSituation
taken_by permission s = if permission.given then with_permission (followed permission.standing None s) else followed permission.standing None s

-- the permission that is given is held in its period
abbrev pub permitted : ℕ → BreakerSituation → BreakerSituation
permitted moment s = taken_by (permission_of moment s) s

-- ---- a call ends

-- what becomes of a verdict that is not ignored, under a permission of a period
abbrev pub fate_in : Standing → ℕ → Fate
fate_in standing period = fate_of standing period verdict.Success

-- a permission of the present period ends, and a recorded verdict leaves its note
abbrev pub recorded_by : Fate → Note → BreakerSituation → BreakerSituation
recorded_by fate.Recorded note s = followed (after_note_in note s) (Some note) (without_permission s)
recorded_by fate.Stale note s = s
recorded_by other note s = without_permission s

abbrev pub recorded : ℕ → Note → BreakerSituation → BreakerSituation
recorded period note s = recorded_by (fate_in s.standing period) note s

-- a permission ends with no verdict
abbrev pub given_back : ℕ → BreakerSituation → BreakerSituation
given_back period s = if period == s.standing.period then without_permission s else s

-- ---- the rest

abbrev pub moved_to : State → ℕ → BreakerSituation → BreakerSituation
moved_to state moment s = begun (moved state moment s.standing) s

abbrev pub metrics_by : BreakerSituation → Totals → Metrics
metrics_by s totals = record {
  state = s.standing.state;
  period = s.standing.period;
  since = s.standing.since;
  total = totals.total;
  failed = totals.failed;
  slow = totals.slow;
  failure_rate = shown_rate (minimum s.config s.standing.state) totals.total totals.failed;
  slow_rate = shown_rate (minimum s.config s.standing.state) totals.total totals.slow;
}

abbrev pub metrics_of : ℕ → BreakerSituation → Metrics
metrics_of moment s = metrics_by s (totals_of (windowed s.config s.standing.state moment s.notes))
