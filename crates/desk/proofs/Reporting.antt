-- A report of a seat that has room for an entry is a look and a finish, each in one hold of the lock.
use Rattle.std.proofs.Common.{◌≡◌, ◌<◌, ◌≤◌, ◌-◌, ◌^◌, ℕ, List, Result, Ok, Err, inl, inr, arith, subst}
use Rattle.bpf_profile.specs.Programs.{VerifiedProgram}
use Rattle.refusals.specs.declared.RefusalNumber.{RefusalNumber}
use Rattle.service_profile.specs.declared.replies.Reply.{Reply}
use Rattle.service_profile.specs.Calls.{applies, looks, replies, finds}
use Rattle.service_profile.specs.Events.{EventData, finishes}
use Rattle.service.specs.Asking as asking
use Rattle.service.specs.declared.request.Report.{Report}
use Rattle.desk.specs.AfterSome.{IsReplied, IsFound, IsFinished, IsReported}
use Rattle.desk.specs.Calls.{IsCalledAt}
use Rattle.desk.specs.Seats.{SeatData, after_call}
use Rattle.desk.specs.Services.{ServiceData}

module _ (services : List ServiceData) where
  -- a look is never turned away
  looked : (seat : SeatData) (ticket : ℕ) (found : Result VerifiedProgram RefusalNumber) (after : SeatData) → IsCalledAt services seat (looks ticket) (finds found) after → IsFound services ticket found × (after ≡ seat)
  looked seat ticket found after (inl turned) = absurd turned.1
  looked seat ticket found after (inr called) = called

  -- nor is an event of a seat that has room
  made : (seat : SeatData) (moment : ℕ) (event : EventData) (r : Reply) (after : SeatData) → seat.count < 2 ^ 64 - 8 → IsCalledAt services seat (applies moment event) (replies r) after → IsReplied services seat.number moment event r × (after ≡ after_call seat r)
  made seat moment event r after room (inl turned) = let full : 2 ^ 64 - 8 ≤ seat.count = turned.0 in absurd (omega (arith, room, full))
  made seat moment event r after room (inr called) = called

  ends : (seat : SeatData) (moment : ℕ) (report : Report) (r : Reply) (after : SeatData) → seat.count < 2 ^ 64 - 8 → (found : Result VerifiedProgram RefusalNumber) → asking.IsFinishServed (IsCalledAt services) seat moment report found r after → IsFinished services seat moment report.ticket report.outcome found r after
  ends seat moment report r after room (Err number) ended = ended
  ends seat moment report r after room (Ok program) ended = let call = made seat moment (finishes ended.0 report.ticket) r after room ended.4 in (ended.0, ended.1, ended.2, ended.3, call.0, call.1)

  pub reported : (seat : SeatData) (moment : ℕ) (report : Report) (r : Reply) (after : SeatData) → seat.count < 2 ^ 64 - 8 → asking.IsReportServed (IsCalledAt services) seat moment report r after → IsReported services seat moment report.ticket report.outcome r after
  reported seat moment report r after room (found, between, call, ended) =
      let look = looked seat report.ticket found between call in
      (found, look.0, ends seat moment report r after room found (subst (λ s. asking.IsFinishServed (IsCalledAt services) s moment report found r after) look.1 ended))
