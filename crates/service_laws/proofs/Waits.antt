-- In OPEN no call is permitted before the wait is over.
use Rattle.std.proofs.Common.{◌≡◌, ℕ, ◌-◌, ◌≤◌, ap, sym, ◌∙◌, subst, rules}
use Rattle.service_profile.specs.declared.decisions.Decision.{Decision}
use Rattle.service_profile.specs.declared.replies.Reply.TheVariants as reply
use Rattle.service_profile.specs.declared.states.State.{State}
use Rattle.service_profile.specs.declared.states.State.TheVariants as state
use Rattle.service_profile.specs.Events.{EventData, EntryData, Opening, History}
use Rattle.service_profile.specs.Histories.{Past, past_of, situation_of, machine, Follows}
use Rattle.service_profile.specs.Machine.{Situation}
use Rattle.service_profile.specs.Standings.{is_half_open}
use Rattle.book.proofs.Applying.{same_opening}
use Rattle.service_laws.proofs.Ways.{Way, line_way}

waited_by : (s : Situation) (moment : ℕ) (event : EventData) (d : Decision) (ticket version : ℕ) (st : State) → s.standing.state ≡ state.Open → Way s moment event d → d.reply ≡ reply.Permitted ticket version st
    → s.config.wait_duration_in_open_state ≤ moment - s.standing.since
waited_by s moment event d ticket version st stands a r = search rules

pub waited : (history : History) (line : EntryData) (ticket version : ℕ) (st : State) → Follows (past_of history) line → (past_of history).standing.state ≡ state.Open → line.reply ≡ reply.Permitted ticket version st
    → history.opening.config.wait_duration_in_open_state ≤ line.moment - (past_of history).standing.since
waited history line ticket version st follows stands r =
    let past : Past = past_of history in
    let wait = waited_by (situation_of past) line.moment line.event (machine past line.moment line.event) ticket version st stands (line_way past line follows (ap is_half_open stands)) (sym follows.replied ∙ r) in
    subst (λ (o : Opening). o.config.wait_duration_in_open_state ≤ line.moment - past.standing.since) (same_opening history.opening history.lines history.rolled) wait
