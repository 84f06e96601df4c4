-- A longest stay in HALF_OPEN ends with the first line that comes when it is over; with none nothing is different.
use Rattle.std.proofs.Common.{◌≡◌, ℕ, ◌-◌, ◌≤◌, ◌<◌, ◌==◌, nat_lt, nat_le, ◌&&◌, Bool, true, false, if◌then◌else◌, arith, refl, ap, subst, rules}
use Rattle.std.proofs.lemmas.Bool.{le-leb, lt-leb, lt-ltb}
use Rattle.refusals.specs.declared.RefusalNumber.TheVariants as refusal
use Rattle.service_profile.specs.declared.decisions.Decision.{Decision}
use Rattle.service_profile.specs.declared.replies.Reply.TheVariants as reply
use Rattle.service_profile.specs.declared.standings.Standing.{Standing}
use Rattle.service_profile.specs.declared.states.State.TheVariants as state
use Rattle.service_profile.specs.Events.{EventData, EntryData, History, acquires}
use Rattle.service_profile.specs.Histories.{Past, past_of, passed, situation_of, machine, Follows}
use Rattle.service_profile.specs.Machine.{Situation, overstays, in_state, acquired, decision, decision_by}
use Rattle.service_profile.specs.Standings.{moved, is_half_open}
use Rattle.service_laws.specs.Promises.{StayIsOver, decision_without_stays}
use Rattle.book.proofs.Deciding.{decision_near}
use Rattle.book.proofs.Passing.{strictly}
use Rattle.service_laws.proofs.Endings.{way_there}
use Rattle.service_laws.proofs.Periods.{Stays, way_stays}
use Rattle.service_laws.proofs.Ways.{taken}

-- ---- with no longest stay

pub nothing_different : (s : Situation) (moment : ℕ) (event : EventData) → s.config.max_wait_duration_in_half_open_state ≡ 0 → decision s moment event ≡ decision_without_stays s moment event
unfolding decision_by
nothing_different s moment event e = search rules

-- ---- with one that is over

over_by : (stay since moment : ℕ) (half_open : Bool) → half_open ≡ true → 0 < stay → stay ≤ moment - since → (nat_lt 0 stay && (half_open && nat_le stay (moment - since))) ≡ true
over_by stay since moment half_open is some le = rw (is, le-leb stay (moment - since) le, lt-ltb 0 stay some) refl

is_over : (past : Past) (moment : ℕ) → StayIsOver past moment → overstays (situation_of past) moment ≡ true
is_over past moment over = over_by past.opening.config.max_wait_duration_in_half_open_state past.standing.since moment (is_half_open past.standing.state) (ap is_half_open over.half_open) over.configured over.over

-- a stay that has lasted for more than a moment can't have begun just now
later_period : (before after : Standing) (moment : ℕ) (test : Bool) → (after.period == before.period) ≡ test → before.since < moment → (after.period ≡ before.period → after ≡ before) → (test ≡ false → before.period < after.period)
    → Stays (moved state.Open moment before) moment after → before.period < after.period
later_period before after moment test e less same later stays = search rules

pub stay_ends : (history : History) (line : EntryData) → Follows (past_of history) line → StayIsOver (past_of history) line.moment → (past_of history).standing.period < (passed (past_of history) line).standing.period
stay_ends history line follows over =
    let past : Past = past_of history in
    let s : Situation = situation_of past in
    let d : Decision = machine past line.moment line.event in
    let near = decision_near s line.moment line.event in
    let stays = subst (λ (b : Bool). Stays (if b then in_state state.Open line.moment s else s).standing line.moment d.next) (is_over past line.moment over) (way_stays _ line.moment line.event d (way_there past line follows)) in
    later_period past.standing d.next line.moment (d.next.period == past.standing.period) refl (omega (arith, over.configured, over.over)) near.same (strictly past.standing.period d.next.period near.least) stays

refused_in_open : (s : Situation) (moment : ℕ) → nat_le s.config.wait_duration_in_open_state (moment - moment) ≡ false → (acquired (in_state state.Open moment s) moment).reply ≡ reply.Refused refusal.CallNotPermitted
refused_in_open s moment none = rw none refl

pub call_refused : (history : History) (line : EntryData) → Follows (past_of history) line → StayIsOver (past_of history) line.moment → 0 < (past_of history).opening.config.wait_duration_in_open_state → line.event ≡ acquires
    → line.reply ≡ reply.Refused refusal.CallNotPermitted
call_refused history line follows over some asks = search (rules, taken, is_over, refused_in_open, lt-leb)
