-- A seat stays one of its desk's, whatever it calls.
use Rattle.std.proofs.Common.{◌∙◌, ap, ℕ, Result, Ok, Err}
use Rattle.bpf_profile.specs.Programs.{VerifiedProgram}
use Rattle.refusals.specs.declared.RefusalNumber.{RefusalNumber}
use Rattle.service_profile.specs.Calls.{CallData, CallAnswer}
use Rattle.service_profile.specs.declared.replies.Reply.{Reply}
use Rattle.service.specs.Asking.{IsFinishServed, IsReportServed}
use Rattle.service.specs.declared.request.Report.{Report}
use Rattle.slot_desk.specs.Calls.{IsCalledAt}
use Rattle.slot_desk.specs.Desks.{DeskData}
use Rattle.slot_desk.specs.Seats.{SeatData, IsSeatOf}

ended_stays : (desk : DeskData) (service : ℕ) (between : SeatData) (moment : ℕ) (report : Report) (r : Reply) (after : SeatData) (found : Result VerifiedProgram RefusalNumber)
    → IsFinishServed (IsCalledAt service) between moment report found r after → IsSeatOf desk between → IsSeatOf desk after
ended_stays desk service between moment report r after (Err number) ended held = ap (λ (s : SeatData). s.tables) ended.1 ∙ held
ended_stays desk service between moment report r after (Ok program) ended held = ap (λ (s : SeatData). s.tables) ended.4.4 ∙ held

pub reported_stays : (desk : DeskData) (service : ℕ) (seat : SeatData) (moment : ℕ) (report : Report) (r : Reply) (after : SeatData) → IsReportServed (IsCalledAt service) seat moment report r after → IsSeatOf desk seat → IsSeatOf desk after
reported_stays desk service seat moment report r after (found, between, look, ended) held =
    ended_stays desk service between moment report r after found ended (ap (λ (s : SeatData). s.tables) look.4 ∙ held)

pub called_stays : (desk : DeskData) (service : ℕ) (seat : SeatData) (call : CallData) (answer : CallAnswer) (after : SeatData) → IsCalledAt service seat call answer after → IsSeatOf desk seat → IsSeatOf desk after
called_stays desk service seat call answer after called held = ap (λ (s : SeatData). s.tables) called.4 ∙ held
