-- A line leaves the breaker as it stands, or begins a period at its moment.
use Rattle.std.proofs.Common.{◌≡◌, ℕ, ◌<◌, ◌==◌, ◌⊎◌, Bool, false, if◌then◌else◌, refl, rules}
use Rattle.service_profile.specs.declared.decisions.Decision.{Decision}
use Rattle.service_profile.specs.declared.standings.Standing.{Standing}
use Rattle.service_profile.specs.declared.states.State.TheVariants as state
use Rattle.service_profile.specs.Events.{EventData, EntryData, History}
use Rattle.service_profile.specs.Histories.{Past, past_of, passed, situation_of, machine, Follows}
use Rattle.service_profile.specs.Machine.{Situation, in_state, overstays}
use Rattle.book.proofs.Deciding.{decision_near}
use Rattle.service_laws.proofs.Endings.{way_there}
use Rattle.book.proofs.Passing.{strictly}
use Rattle.service_laws.proofs.Ways.{Way}

abbrev pub Stays : Standing → ℕ → Standing → Type 0
Stays before moment after = (after ≡ before) ⊎ (after.since ≡ moment)

pub way_stays : (s : Situation) (moment : ℕ) (event : EventData) (d : Decision) → Way s moment event d → Stays s.standing moment d.next
way_stays s moment event d a = search rules

-- a stay in HALF_OPEN that ends by itself ends at the line's moment
from_moment : (test : Bool) (s : Situation) (moment : ℕ) (next : Standing) → Stays (if test then in_state state.Open moment s else s).standing moment next → Stays s.standing moment next
from_moment test s moment next stays = search rules

by_period : (test : Bool) (before after : Standing) (moment : ℕ) → (after.period == before.period) ≡ test → (after.period ≡ before.period → after ≡ before) → (test ≡ false → before.period < after.period) → Stays before moment after
    → (after ≡ before) ⊎ ((after.since ≡ moment) × (before.period < after.period))
by_period test before after moment e same later stays = search rules

pub begun_at : (history : History) (line : EntryData) → Follows (past_of history) line
    → ((passed (past_of history) line).standing ≡ (past_of history).standing)
    ⊎ (((passed (past_of history) line).standing.since ≡ line.moment) × ((past_of history).standing.period < (passed (past_of history) line).standing.period))
begun_at history line follows =
    let past : Past = past_of history in
    let s : Situation = situation_of past in
    let d : Decision = machine past line.moment line.event in
    let near = decision_near s line.moment line.event in
    by_period (d.next.period == past.standing.period) past.standing d.next line.moment refl near.same (strictly past.standing.period d.next.period near.least)
    (from_moment (overstays s line.moment) s line.moment d.next (way_stays _ line.moment line.event d (way_there past line follows)))
