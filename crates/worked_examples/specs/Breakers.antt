-- Worked examples of a breaker that opens and closes, and of a roll.
use Rattle.std.specs.Prelude.{ℕ, List, [], ◌∷◌, ◌++◌, replicate, Some, None}
use Rattle.byteorder.specs.Endian.{little_bytes}
use Rattle.bpf_profile.specs.declared.machine.Verdict.TheVariants as verdict
use Rattle.bpf_profile.specs.Outcomes.{Outcome}
use Rattle.refusals.specs.declared.RefusalNumber.TheVariants as refusal
use Rattle.service_profile.specs.declared.configuration.ConfigParts.{ConfigParts}
use Rattle.service_profile.specs.declared.replies.Fate.TheVariants as fate
use Rattle.service_profile.specs.declared.replies.Reply.TheVariants as reply
use Rattle.service_profile.specs.declared.states.State.TheVariants as state
use Rattle.service_profile.specs.Configured.{default_parts}
use Rattle.book.specs.Interleavings.{Act}
use Rattle.worked_examples.specs.Services.{response, by_caller, acquire, read, page, roll_up_to, reports, Heard, says, shows, hands_out}

-- ---- two calls of which one fails reach 50 percent, one success in HALF_OPEN closes

abbrev pub of_two_calls : ConfigParts
of_two_calls = record default_parts { sliding_window_size = 2; minimum_number_of_calls = 2; permitted_number_of_calls_in_half_open_state = 1; wait_duration_in_open_state = 1000 }

abbrev pub breaker_opens : List Act
breaker_opens =
    by_caller (acquire 0)
    ∷ (reports 0 0 1 (response 200)
    ++ (by_caller (acquire 0)
    ∷ (reports 1 0 2 (response 500)
    ++ (by_caller (acquire 999)
    ∷ (by_caller (acquire 1000)
    ∷ (reports 2 1000 3 (response 200)
    ++ (by_caller (read 1000) ∷ [])))))))

abbrev pub breaker_opened : List Heard
breaker_opened =
    says (reply.Permitted 1 1 state.Closed)
    ∷ (says (reply.Finished fate.Recorded verdict.Success 6 1 state.Closed)
    ∷ (says (reply.Permitted 2 1 state.Closed)
    ∷ (says (reply.Finished fate.Recorded verdict.Failure 6 1 state.Open)
    ∷ (says (reply.Refused refusal.CallNotPermitted)
    ∷ (says (reply.Permitted 3 1 state.HalfOpen)
    ∷ (says (reply.Finished fate.Recorded verdict.Success 6 1 state.Closed)
    ∷ (shows (record {
      state = state.Closed;
      period = 4;
      version = 1;
      budget = 6;
      total = 0;
      failed = 0;
      slow = 0;
      failure_rate = None;
      slow_rate = None;
      open_tickets = 0;
      free = 25;
      not_permitted = 0;
      entries = 7;
      oldest_ticket = None;
    }) ∷ [])))))))

-- ---- a call over the threshold is slow, one at it isn't, and the rates are shown from the minimum on

abbrev pub slow_over_a_second : ConfigParts
slow_over_a_second = record default_parts { sliding_window_size = 2; minimum_number_of_calls = 2; slow_call_duration_threshold = 1000 }

-- a success that took so many milliseconds
abbrev pub lasting : ℕ → Outcome
lasting duration = record { context = little_bytes 4 0 ++ (little_bytes 4 200 ++ (little_bytes 8 duration ++ replicate 176 0)); facts = replicate 16 0; tag = [] }

abbrev pub calls_are_slow : List Act
calls_are_slow =
    by_caller (acquire 0)
    ∷ (reports 0 1001 1 (lasting 1001)
    ++ (by_caller (acquire 1001)
    ∷ (reports 1 2001 2 (lasting 1000)
    ++ (by_caller (read 2001) ∷ []))))

abbrev pub calls_were_slow : List Heard
calls_were_slow =
    says (reply.Permitted 1 1 state.Closed)
    ∷ (says (reply.Finished fate.Recorded verdict.Success 6 1 state.Closed)
    ∷ (says (reply.Permitted 2 1 state.Closed)
    ∷ (says (reply.Finished fate.Recorded verdict.Success 6 1 state.Closed)
    ∷ (shows (record {
      state = state.Closed;
      period = 1;
      version = 1;
      budget = 6;
      total = 2;
      failed = 0;
      slow = 1;
      failure_rate = Some 0;
      slow_rate = Some 50;
      open_tickets = 0;
      free = 25;
      not_permitted = 0;
      entries = 4;
      oldest_ticket = None;
    }) ∷ []))))

-- ---- a roll hands out the entries up to a number, of which pages have no more; all else goes on

abbrev pub journal_is_rolled : List Act
journal_is_rolled =
    by_caller (acquire 0)
    ∷ (reports 0 0 1 (response 200)
    ++ (by_caller (roll_up_to 1)
    ∷ (by_caller (page 1)
    ∷ (by_caller (roll_up_to 2)
    ∷ (by_caller (page 1)
    ∷ (by_caller (read 0)
    ∷ (by_caller (acquire 0) ∷ [])))))))

abbrev pub journal_was_rolled : List Heard
journal_was_rolled =
    says (reply.Permitted 1 1 state.Closed)
    ∷ (says (reply.Finished fate.Recorded verdict.Success 6 1 state.Closed)
    ∷ (hands_out 1
    ∷ (hands_out 1
    ∷ (hands_out 1
    ∷ (hands_out 0
    ∷ (shows (record {
      state = state.Closed;
      period = 1;
      version = 1;
      budget = 6;
      total = 1;
      failed = 0;
      slow = 0;
      failure_rate = None;
      slow_rate = None;
      open_tickets = 0;
      free = 25;
      not_permitted = 0;
      entries = 2;
      oldest_ticket = None;
    })
    ∷ (says (reply.Permitted 2 1 state.Closed) ∷ [])))))))
