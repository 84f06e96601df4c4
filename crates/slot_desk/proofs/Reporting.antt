-- A report of a seat that has room for an entry is a look and a finish, and neither is turned away.
use Rattle.std.proofs.Common.{◌≡◌, ◌<◌, ◌≤◌, ◌+◌, ◌-◌, ◌^◌, ℕ, Result, Ok, Err, inl, inr, arith, ap}
use Rattle.bpf_profile.specs.Programs.{VerifiedProgram}
use Rattle.refusals.specs.declared.RefusalNumber.{RefusalNumber}
use Rattle.service_profile.specs.declared.replies.Reply.{Reply}
use Rattle.service_profile.specs.Calls.{applies, looks, replies, finds}
use Rattle.service_profile.specs.Events.{EventData, finishes}
use Rattle.service.specs.Asking.{IsFinishServed, IsReportServed}
use Rattle.service.specs.declared.request.Report.{Report}
use Rattle.slot_desk.specs.Calls.{IsCalledAt, IsAskedAt}
use Rattle.slot_desk.specs.Seats.{SeatData}

module _ (service : ℕ) where
  -- a look is never turned away
  looked : (seat : SeatData) (ticket : ℕ) (found : Result VerifiedProgram RefusalNumber) (after : SeatData) → IsAskedAt service seat (looks ticket) (finds found) after → IsCalledAt service seat (looks ticket) (finds found) after
  looked seat ticket found after (inl turned) = absurd turned.1
  looked seat ticket found after (inr called) = called

  -- nor is an event of a seat that has room
  made : (seat : SeatData) (moment : ℕ) (event : EventData) (r : Reply) (after : SeatData) → seat.count < 2 ^ 64 - 8 → IsAskedAt service seat (applies moment event) (replies r) after → IsCalledAt service seat (applies moment event) (replies r) after
  made seat moment event r after room (inl turned) = let full : 2 ^ 64 - 8 ≤ seat.count = turned.0 in absurd (omega (arith, room, full))
  made seat moment event r after room (inr called) = called

  -- a look counts nothing
  look_counts : (seat : SeatData) (ticket : ℕ) (found : Result VerifiedProgram RefusalNumber) (after : SeatData) → IsCalledAt service seat (looks ticket) (finds found) after → after.count ≡ seat.count
  look_counts seat ticket found after called = let e : after.count ≡ seat.count + 0 = ap (λ (s : SeatData). s.count) called.4 in omega (arith, e)

  ends : (seat : SeatData) (moment : ℕ) (report : Report) (r : Reply) (after : SeatData) → seat.count < 2 ^ 64 - 8 → (found : Result VerifiedProgram RefusalNumber) → IsFinishServed (IsAskedAt service) seat moment report found r after → IsFinishServed (IsCalledAt service) seat moment report found r after
  ends seat moment report r after room (Err number) ended = ended
  ends seat moment report r after room (Ok program) ended = (ended.0, ended.1, ended.2, ended.3, made seat moment (finishes ended.0 report.ticket) r after room ended.4)

  pub reported : (seat : SeatData) (moment : ℕ) (report : Report) (r : Reply) (after : SeatData) → seat.count < 2 ^ 64 - 8 → IsReportServed (IsAskedAt service) seat moment report r after → IsReportServed (IsCalledAt service) seat moment report r after
  reported seat moment report r after room (found, between, call, ended) =
      let look = looked seat report.ticket found between call in
      let same : between.count ≡ seat.count = look_counts seat report.ticket found between look in
      (found, between, look, ends between moment report r after (omega (arith, same, room)) found ended)
