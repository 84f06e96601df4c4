-- Worked examples of the documented machine: what is done, and what is heard.
use Rattle.std.specs.Prelude.{ℕ, List, [], ◌∷◌, ◌++◌, Some, None}
use Rattle.bpf_profile.specs.declared.machine.Verdict.TheVariants as verdict
use Rattle.bpf_profile.specs.declared.layout.Layout.TheVariants as layout
use Rattle.refusals.specs.declared.RefusalNumber.TheVariants as refusal
use Rattle.service_profile.specs.declared.configuration.ConfigParts.{ConfigParts}
use Rattle.service_profile.specs.declared.configuration.SlidingWindowType.TheVariants as window
use Rattle.service_profile.specs.declared.replies.Fate.TheVariants as fate
use Rattle.service_profile.specs.declared.replies.Reply.TheVariants as reply
use Rattle.service_profile.specs.declared.states.State.TheVariants as state
use Rattle.service_profile.specs.Configured.{default_parts}
use Rattle.book.specs.Interleavings.{Act}
use Rattle.worked_examples.specs.Services.{default_classifier, ignoring_classifier, response, by_caller, acquire, release, install, move, reset, read, cut_off, reports, Heard, says, shows, hands_out, withholds}

-- ---- a time-based window of ten seconds lets a note go as soon as its second has passed out of it

abbrev pub ten_seconds : ConfigParts
ten_seconds = record default_parts { sliding_window_type = window.TimeBased; sliding_window_size = 10 }

abbrev pub note_passes_out : List Act
note_passes_out = by_caller (acquire 1000) ∷ (reports 0 1000 1 (response 200) ++ (by_caller (read 10999) ∷ (by_caller (read 11000) ∷ [])))

abbrev pub seen_in_ten_seconds : ℕ → Heard
seen_in_ten_seconds total = shows (record {
  state = state.Closed;
  period = 1;
  version = 1;
  budget = 6;
  total = total;
  failed = 0;
  slow = 0;
  failure_rate = None;
  slow_rate = None;
  open_tickets = 0;
  free = 25;
  not_permitted = 0;
  entries = 2;
  oldest_ticket = None;
})

abbrev pub note_passed_out : List Heard
note_passed_out =
    says (reply.Permitted 1 1 state.Closed)
    ∷ (says (reply.Finished fate.Recorded verdict.Success 6 1 state.Closed)
    ∷ (seen_in_ten_seconds 1
    ∷ (seen_in_ten_seconds 0 ∷ [])))

-- ---- in HALF_OPEN an ignored verdict gives its permission back, and each ticket is judged by its own version

abbrev pub two_permitted : ConfigParts
two_permitted = record default_parts { permitted_number_of_calls_in_half_open_state = 2 }

abbrev pub ignored_call_frees : List Act
ignored_call_frees =
    by_caller (install 0 ignoring_classifier)
    ∷ (by_caller (move 0 state.HalfOpen)
    ∷ (by_caller (acquire 0)
    ∷ (by_caller (install 0 default_classifier)
    ∷ (by_caller (acquire 0)
    ∷ (by_caller (acquire 0)
    ∷ (reports 0 0 1 (response 200)
    ++ (by_caller (acquire 0)
    ∷ (reports 1 0 2 (response 200)
    ++ reports 2 0 3 (response 200)))))))))

abbrev pub ignored_call_freed : List Heard
ignored_call_freed =
    says (reply.Installed 2 2 layout.One)
    ∷ (says (reply.Moved state.HalfOpen 2)
    ∷ (says (reply.Permitted 1 2 state.HalfOpen)
    ∷ (says (reply.Installed 3 6 layout.One)
    ∷ (says (reply.Permitted 2 3 state.HalfOpen)
    ∷ (says (reply.Refused refusal.CallNotPermitted)
    ∷ (says (reply.Finished fate.Ignored verdict.Ignored 2 2 state.HalfOpen)
    ∷ (says (reply.Permitted 3 3 state.HalfOpen)
    ∷ (says (reply.Finished fate.Recorded verdict.Success 6 3 state.HalfOpen)
    ∷ (says (reply.Finished fate.Recorded verdict.Success 6 3 state.Closed) ∷ [])))))))))

-- ---- a verdict is stale when its ticket's period has ended

abbrev pub ticket_goes_stale : List Act
ticket_goes_stale = by_caller (acquire 0) ∷ (by_caller (move 1 state.HalfOpen) ∷ (reports 0 2 1 (response 500) ++ (by_caller (read 3) ∷ [])))

abbrev pub ticket_went_stale : List Heard
ticket_went_stale =
    says (reply.Permitted 1 1 state.Closed)
    ∷ (says (reply.Moved state.HalfOpen 2)
    ∷ (says (reply.Finished fate.Stale verdict.Failure 6 1 state.HalfOpen)
    ∷ (shows (record {
      state = state.HalfOpen;
      period = 2;
      version = 1;
      budget = 6;
      total = 0;
      failed = 0;
      slow = 0;
      failure_rate = None;
      slow_rate = None;
      open_tickets = 0;
      free = 25;
      not_permitted = 0;
      entries = 3;
      oldest_ticket = None;
    }) ∷ [])))

-- ---- the bulkhead is asked after the breaker, so that a refusal by it leaves the transition to HALF_OPEN

abbrev pub one_place : ConfigParts
one_place = record default_parts { max_concurrent_calls = 1; wait_duration_in_open_state = 1000 }

abbrev pub full_bulkhead_refuses : List Act
full_bulkhead_refuses =
    by_caller (acquire 0)
    ∷ (by_caller (acquire 0)
    ∷ (by_caller (move 0 state.Open)
    ∷ (by_caller (acquire 1000)
    ∷ (by_caller (read 1000) ∷ []))))

abbrev pub full_bulkhead_refused : List Heard
full_bulkhead_refused =
    says (reply.Permitted 1 1 state.Closed)
    ∷ (says (reply.Refused refusal.BulkheadFull)
    ∷ (says (reply.Moved state.Open 2)
    ∷ (says (reply.Refused refusal.BulkheadFull)
    ∷ (shows (record {
      state = state.HalfOpen;
      period = 3;
      version = 1;
      budget = 6;
      total = 0;
      failed = 0;
      slow = 0;
      failure_rate = None;
      slow_rate = None;
      open_tickets = 1;
      free = 0;
      not_permitted = 0;
      entries = 4;
      oldest_ticket = Some (record { number = 1; version = 1; period = 1; moment = 0 });
    }) ∷ []))))

-- ---- DISABLED counts nothing, FORCED_OPEN permits nothing, and a reset leads back to CLOSED

abbrev pub states_are_forced : List Act
states_are_forced =
    by_caller (move 0 state.Disabled)
    ∷ (by_caller (acquire 0)
    ∷ (reports 0 0 1 (response 500)
    ++ (by_caller (move 0 state.ForcedOpen)
    ∷ (by_caller (acquire 0)
    ∷ (by_caller (reset 0) ∷ [])))))

abbrev pub states_were_forced : List Heard
states_were_forced =
    says (reply.Moved state.Disabled 2)
    ∷ (says (reply.Permitted 1 1 state.Disabled)
    ∷ (says (reply.Finished fate.Off verdict.Failure 6 1 state.Disabled)
    ∷ (says (reply.Moved state.ForcedOpen 3)
    ∷ (says (reply.Refused refusal.CallNotPermitted)
    ∷ (says (reply.Moved state.Closed 4) ∷ [])))))

-- ---- a cut waits for open tickets, hands out all entries, and all numbers and the greatest moment go on

abbrev pub book_is_cut : List Act
book_is_cut =
    by_caller (acquire 0)
    ∷ (by_caller cut_off
    ∷ (reports 0 1 1 (response 200)
    ++ (by_caller cut_off
    ∷ (by_caller (acquire 0)
    ∷ (reports 1 0 1 (response 200)
    ++ (by_caller (read 0) ∷ []))))))

abbrev pub book_was_cut : List Heard
book_was_cut =
    says (reply.Permitted 1 1 state.Closed)
    ∷ (withholds refusal.TicketsOpen
    ∷ (says (reply.Finished fate.Recorded verdict.Success 6 1 state.Closed)
    ∷ (hands_out 2
    ∷ (says (reply.Permitted 2 1 state.Closed)
    ∷ (withholds refusal.TicketSpent
    ∷ (shows (record {
      state = state.Closed;
      period = 2;
      version = 1;
      budget = 6;
      total = 0;
      failed = 0;
      slow = 0;
      failure_rate = None;
      slow_rate = None;
      open_tickets = 1;
      free = 24;
      not_permitted = 0;
      entries = 3;
      oldest_ticket = Some (record { number = 2; version = 1; period = 2; moment = 1 });
    }) ∷ []))))))

-- ---- a ticket of number 2^63 may still be the next one after a cut; behind it no cut is made

abbrev pub last_ticket_is_issued : List Act
last_ticket_is_issued = by_caller cut_off ∷ (by_caller (acquire 0) ∷ (by_caller cut_off ∷ (by_caller (read 0) ∷ [])))

abbrev pub last_ticket_was_issued : List Heard
last_ticket_was_issued =
    hands_out 0
    ∷ (says (reply.Permitted 9223372036854775808 1 state.Closed)
    ∷ (withholds refusal.JournalFull
    ∷ (shows (record {
      state = state.Closed;
      period = 2;
      version = 1;
      budget = 6;
      total = 0;
      failed = 0;
      slow = 0;
      failure_rate = None;
      slow_rate = None;
      open_tickets = 1;
      free = 24;
      not_permitted = 0;
      entries = 1;
      oldest_ticket = Some (record { number = 9223372036854775808; version = 1; period = 2; moment = 0 });
    }) ∷ [])))

-- ---- a release ends its ticket, and a ticket that was never issued is another refusal than one that has ended

abbrev pub ticket_is_released : List Act
ticket_is_released = by_caller (acquire 0) ∷ (by_caller (release 0 1) ∷ (by_caller (release 0 1) ∷ (by_caller (release 0 2) ∷ [])))

abbrev pub ticket_was_released : List Heard
ticket_was_released =
    says (reply.Permitted 1 1 state.Closed)
    ∷ (says (reply.Released state.Closed)
    ∷ (says (reply.Refused refusal.TicketSpent)
    ∷ (says (reply.Refused refusal.NoTicket) ∷ [])))
