-- What a service answers that is asked: which calls of its book a request stands for, and what becomes of their answers.
use Rattle.std.specs.Prelude.{◌≡◌, ◌⊎◌, ℕ, List, Result, Ok, Err}
use Rattle.bpf_profile.specs.declared.layout.Layout.{Layout}
use Rattle.bpf_profile.specs.Layouts.{context_size}
use Rattle.bpf_profile.specs.Safety.{IsSafe}
use Rattle.bpf_profile.specs.JudgedWork.{JudgedData, IsTied}
use Rattle.bpf_profile.specs.Programs.{VerifiedProgram}
use Rattle.refusals.specs.declared.RefusalNumber.{RefusalNumber}
use Rattle.verifier.specs.Verifying.{IsVerification, IsRefused, fault_of, out_of_memory}
use Rattle.service_profile.specs.declared.replies.Reply.{Reply}
use Rattle.service_profile.specs.declared.replies.Reply.TheVariants as reply
use Rattle.service_profile.specs.Calls.{CallData, CallAnswer, applies, looks, reads, pages, cuts, rolls, finds, IsCalled}
use Rattle.service_profile.specs.Calls as call
use Rattle.service_profile.specs.Events.{EventData, acquires, finishes, releases, installs, moves, resets, EntryData, History}
use Rattle.service.specs.declared.request.Report.{Report}
use Rattle.service.specs.Asked.{RequestData, acquire, report, release, install, move, reset, read, page, cut, roll, ResponseData, replies, refuses_program, shows, handed_out, page_of}

-- calls relates what calls the book, the call, its answer, and what calls the book after it
module _ {S : Type 0} (calls : S → CallData → CallAnswer → S → Type 0) where
  -- an event at a moment was applied
  abbrev pub IsEventServed : S → ℕ → EventData → Reply → S → Type 0
  IsEventServed caller moment event r after = calls caller (applies moment event) (call.replies r) after

  -- the program that was found judges the outcome, and its verdict is finished; a look that is refused makes no entry
  abbrev pub IsFinishServed : S → ℕ → Report → Result VerifiedProgram RefusalNumber → Reply → S → Type 0
  IsFinishServed caller moment reported (Err refused) r after = (r ≡ reply.Refused refused) × (after ≡ caller)
  IsFinishServed caller moment reported (Ok program) r after =
      (work : JudgedData) × (work.program ≡ program) × (work.outcome ≡ reported.outcome) × IsTied work
      × IsEventServed caller moment (finishes work reported.ticket) r after

  -- a report: the look at the ticket, then the finish
  abbrev pub IsReportServed : S → ℕ → Report → Reply → S → Type 0
  IsReportServed caller moment reported r after =
      (found : Result VerifiedProgram RefusalNumber) × (between : S)
      × calls caller (looks reported.ticket) (finds found) between × IsFinishServed between moment reported found r after

  -- an install: memory ran out for verifying the bytes or owning their program, or their first fault is answered, and the book isn't called; or the bytes spell a program, which flow and the analysis on records of the layout accept, and which is safe, and the book is called to install it
  abbrev pub IsInstalled : S → ℕ → List ℕ → Layout → ResponseData → S → Type 0
  IsInstalled caller moment bytes layout (refuses_program refused) after = ((refused ≡ out_of_memory) ⊎ IsRefused layout bytes (fault_of refused)) × (after ≡ caller)
  IsInstalled caller moment bytes layout (replies r) after =
      (program : VerifiedProgram) × IsVerification bytes program × (program.layout ≡ layout) × IsSafe (context_size layout) program.slots program.budget
      × IsEventServed caller moment (installs program) r after
  IsInstalled caller moment bytes layout other after = ⊥

  -- what is answered to a request at a moment
  abbrev pub IsServedBy : S → ℕ → RequestData → ResponseData → S → Type 0
  IsServedBy caller moment acquire (replies r) after = IsEventServed caller moment acquires r after
  IsServedBy caller moment (report reported) (replies r) after = IsReportServed caller moment reported r after
  IsServedBy caller moment (release ticket) (replies r) after = IsEventServed caller moment (releases ticket) r after
  IsServedBy caller moment (install bytes layout) given after = IsInstalled caller moment bytes layout given after
  IsServedBy caller moment (move state) (replies r) after = IsEventServed caller moment (moves state) r after
  IsServedBy caller moment reset (replies r) after = IsEventServed caller moment resets r after
  IsServedBy caller moment read (shows shown) after = calls caller (reads moment) (call.shows shown) after
  IsServedBy caller moment (page from) given after = (found : Result (List EntryData) RefusalNumber) × calls caller (pages from) (call.hands found) after × (given ≡ page_of from found)
  IsServedBy caller moment cut given after = (found : Result (List EntryData) RefusalNumber) × calls caller cuts (call.hands found) after × (given ≡ handed_out found)
  IsServedBy caller moment (roll last) given after = (found : Result (List EntryData) RefusalNumber) × calls caller (rolls last) (call.hands found) after × (given ≡ handed_out found)
  IsServedBy caller moment other other_answer after = ⊥

-- what a book is asked by a seat: the documented machine answers each call, and the history after it is the documented one
abbrev pub IsServed : History → ℕ → ℕ → RequestData → ResponseData → History → Type 0
IsServed history seat moment wanted given after = IsServedBy (IsCalled seat) history moment wanted given after
