-- A service with one caller, what is done on it, and what the caller hears.
use Rattle.std.specs.Prelude.{◌≡◌, ℕ, List, [], ◌∷◌, ◌++◌, length, replicate, Option, Some, None, Ok, Err}
use Rattle.std.specs.List.{filter_map}
use Rattle.byteorder.specs.Endian.{little_bytes}
use Rattle.bpf_profile.specs.declared.layout.Layout.TheVariants as layout
use Rattle.bpf_profile.specs.declared.slot.Slot.TheVariants.{Ins}
use Rattle.bpf_profile.specs.Outcomes.{Outcome}
use Rattle.refusals.specs.declared.RefusalNumber.{RefusalNumber}
use Rattle.bpf_profile.specs.Programs.{VerifiedProgram}
use Rattle.service_profile.specs.declared.configuration.ConfigParts.{ConfigParts}
use Rattle.service_profile.specs.declared.readings.Reading.{Reading}
use Rattle.service_profile.specs.declared.replies.Reply.{Reply}
use Rattle.service_profile.specs.declared.states.State.{State}
use Rattle.service_profile.specs.FirstOpening.{first_opening}
use Rattle.service_profile.specs.Configured.{default_parts}
use Rattle.service_profile.specs.Calls as call
use Rattle.book.specs.Interleavings.{Step, calls, judge, finish, World, Act, Given, answered, nothing, IsCourse, begun}
use Rattle.book.specs.Memory.{HaveMemory}
use Rattle.service_profile.specs.Machine.{meant}
use Rattle.service_profile.specs.Events.{Opening, acquires, releases, installs, moves, resets}

-- ---- programs and outcomes

-- a response below 500 is a success, all else a failure
abbrev pub default_classifier : VerifiedProgram
default_classifier = record {
  slots = Ins 97 2 1 0 0 ∷ (Ins 85 2 0 4 0 ∷ (Ins 97 2 1 4 0 ∷ (Ins 53 2 0 2 500 ∷ (Ins 183 0 0 0 0 ∷ (Ins 149 0 0 0 0 ∷ (Ins 183 0 0 0 1 ∷ (Ins 149 0 0 0 0 ∷ [])))))));
  budget = 6;
  layout = layout.One;
}

-- each outcome is ignored
abbrev pub ignoring_classifier : VerifiedProgram
ignoring_classifier = record { slots = Ins 183 0 0 0 2 ∷ (Ins 149 0 0 0 0 ∷ []); budget = 2; layout = layout.One }

-- a response with a status, and nothing else of note
abbrev pub response : ℕ → Outcome
response status = record { context = little_bytes 4 0 ++ (little_bytes 4 status ++ replicate 184 0); facts = replicate 16 0; tag = [] }

-- ---- steps of one caller

abbrev pub by_caller : Step → Act
by_caller step = record { actor = 1; step = step }

abbrev pub acquire : ℕ → Step
acquire moment = calls (call.applies moment acquires)

abbrev pub release : ℕ → ℕ → Step
release moment ticket = calls (call.applies moment (releases ticket))

abbrev pub install : ℕ → VerifiedProgram → Step
install moment program = calls (call.applies moment (installs program))

abbrev pub move : ℕ → State → Step
move moment state = calls (call.applies moment (moves state))

abbrev pub reset : ℕ → Step
reset moment = calls (call.applies moment resets)

abbrev pub read : ℕ → Step
read moment = calls (call.reads moment)

abbrev pub page : ℕ → Step
page from = calls (call.pages from)

abbrev pub cut_off : Step
cut_off = calls call.cuts

abbrev pub roll_up_to : ℕ → Step
roll_up_to last = calls (call.rolls last)

-- a report is a look, the judging, and a finish; the caller's first report has place 0 in its hands, its next one place 1
abbrev pub reports : ℕ → ℕ → ℕ → Outcome → List Act
reports place moment ticket outcome = by_caller (calls (call.looks ticket)) ∷ (by_caller (judge place outcome) ∷ (by_caller (finish moment place ticket) ∷ []))

-- ---- what the caller hears: replies, readings, and how many entries a page has, or a cut or a roll hands out

pub data Heard : Type 0 where
  says : Reply → Heard
  shows : Reading → Heard
  hands_out : ℕ → Heard
  withholds : RefusalNumber → Heard

abbrev pub heard_of : Given → Option Heard
heard_of (answered (call.replies r)) = Some (says r)
heard_of (answered (call.finds (Ok program))) = None
heard_of (answered (call.finds (Err number))) = Some (withholds number)
heard_of (answered (call.shows reading)) = Some (shows reading)
heard_of (answered (call.hands (Ok lines))) = Some (hands_out (length lines))
heard_of (answered (call.hands (Err number))) = Some (withholds number)
heard_of nothing = None

-- what is heard wherever the documented machine takes these steps and refuses none for want of memory. That it can is a law of `book`
abbrev pub IsHeard : Opening → List Act → List Heard → Type 0
IsHeard opening acts heard = (given : List Given) (after : World) → IsCourse meant (begun opening) acts given after → HaveMemory given → filter_map heard_of given ≡ heard

-- the same on a fresh service with the default classifier
abbrev pub IsHeardOn : ConfigParts → List Act → List Heard → Type 0
IsHeardOn config acts heard = IsHeard (first_opening config default_classifier) acts heard

-- the same on a service with the default classifier whose next ticket has a number
abbrev pub IsHeardFromTicket : ℕ → List Act → List Heard → Type 0
IsHeardFromTicket number acts heard = IsHeard (record (first_opening default_parts default_classifier) { ticket = number }) acts heard
