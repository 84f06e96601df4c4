-- Worked examples with a longest stay in HALF_OPEN.
use Rattle.std.specs.Prelude.{ℕ, List, [], ◌∷◌, ◌++◌, Some, None}
use Rattle.bpf_profile.specs.declared.machine.Verdict.TheVariants as verdict
use Rattle.refusals.specs.declared.RefusalNumber.TheVariants as refusal
use Rattle.service_profile.specs.declared.configuration.ConfigParts.{ConfigParts}
use Rattle.service_profile.specs.declared.replies.Fate.TheVariants as fate
use Rattle.service_profile.specs.declared.replies.Reply.TheVariants as reply
use Rattle.service_profile.specs.declared.states.State.TheVariants as state
use Rattle.service_profile.specs.Configured.{default_parts}
use Rattle.book.specs.Interleavings.{Act}
use Rattle.worked_examples.specs.Services.{response, by_caller, acquire, move, read, reports, Heard, says, shows}

abbrev pub half_a_second : ConfigParts
half_a_second = record default_parts { permitted_number_of_calls_in_half_open_state = 2; max_wait_duration_in_half_open_state = 500; wait_duration_in_open_state = 1000 }

-- ---- the stay ends before the event that comes when it is over; a reading makes no transition

abbrev pub stay_ends : List Act
stay_ends =
    by_caller (move 0 state.HalfOpen)
    ∷ (by_caller (acquire 0)
    ∷ (by_caller (acquire 499)
    ∷ (reports 0 499 1 (response 200)
    ++ (by_caller (read 600)
    ∷ (reports 1 500 2 (response 200)
    ++ (by_caller (acquire 1499)
    ∷ (by_caller (acquire 1500)
    ∷ (by_caller (read 1500) ∷ []))))))))

-- the one open ticket was issued in the present period at a moment
abbrev pub seen_in_half_open : ℕ → ℕ → ℕ → ℕ → ℕ → ℕ → Heard
seen_in_half_open period total refused entries ticket moment = shows (record {
  state = state.HalfOpen;
  period = period;
  version = 1;
  budget = 6;
  total = total;
  failed = 0;
  slow = 0;
  failure_rate = None;
  slow_rate = None;
  open_tickets = 1;
  free = 24;
  not_permitted = refused;
  entries = entries;
  oldest_ticket = Some (record { number = ticket; version = 1; period = period; moment = moment });
})

abbrev pub stay_ended : List Heard
stay_ended =
    says (reply.Moved state.HalfOpen 2)
    ∷ (says (reply.Permitted 1 1 state.HalfOpen)
    ∷ (says (reply.Permitted 2 1 state.HalfOpen)
    ∷ (says (reply.Finished fate.Recorded verdict.Success 6 1 state.HalfOpen)
    ∷ (seen_in_half_open 2 1 0 4 2 499
    ∷ (says (reply.Finished fate.Stale verdict.Success 6 1 state.Open)
    ∷ (says (reply.Refused refusal.CallNotPermitted)
    ∷ (says (reply.Permitted 3 1 state.HalfOpen)
    ∷ (seen_in_half_open 4 0 0 7 3 1500 ∷ []))))))))

-- ---- the transition at the stay's end and the one that is asked for are two

abbrev pub stay_ends_at_a_move : List Act
stay_ends_at_a_move = by_caller (move 0 state.HalfOpen) ∷ (by_caller (move 500 state.HalfOpen) ∷ [])

abbrev pub stay_ended_at_a_move : List Heard
stay_ended_at_a_move = says (reply.Moved state.HalfOpen 2) ∷ (says (reply.Moved state.HalfOpen 4) ∷ [])
