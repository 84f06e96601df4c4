-- What the laws speak of, in words of notes, tickets and journals.
use Rattle.std.specs.Prelude.{◌≡◌, ℕ, ◌-◌, ◌*◌, ◌≤◌, ◌<◌, ◌⊎◌, false, if◌then◌else◌, List, [], ◌∷◌, ◌++◌, map, length, take, slice_get, Some, Ok}
use Rattle.std.specs.List.{filter, flat_map}
use Rattle.bpf_profile.specs.declared.machine.Verdict.{Verdict}
use Rattle.bpf_profile.specs.JudgedWork.{JudgedData}
use Rattle.bpf_profile.specs.Layouts.{context_size}
use Rattle.bpf_profile.specs.Meaning.{Judges}
use Rattle.bpf_profile.specs.Outcomes.{Outcome}
use Rattle.bpf_profile.specs.Programs.{VerifiedProgram}
use Rattle.refusals.specs.declared.RefusalNumber.TheVariants as refusal
use Rattle.service_profile.specs.declared.configuration.ConfigParts.{ConfigParts}
use Rattle.service_profile.specs.declared.decisions.Decision.{Decision}
use Rattle.service_profile.specs.declared.notes.Note.{Note}
use Rattle.service_profile.specs.declared.replies.Fate.{Fate}
use Rattle.service_profile.specs.declared.replies.Reply.TheVariants as reply
use Rattle.service_profile.specs.declared.states.State.{State}
use Rattle.service_profile.specs.declared.states.State.TheVariants as state
use Rattle.service_profile.specs.Answers.{cut, current_program}
use Rattle.service_profile.specs.Events.{EntryData, EventData, History, finishes, moves}
use Rattle.service_profile.specs.Histories.{Stage, Past, past_of, note_by, notes_of, issued, is_listed, programs_of, IsLegal}
use Rattle.service_profile.specs.Machine.{Situation, program_from, refused, is_full, decided, meant}
use Rattle.service_profile.specs.Rates.{minimum_in_window}
use Rattle.service_profile.specs.Windows.{in_window}

-- ---- why a breaker opens

abbrev pub failures : List Note → ℕ
failures notes = length (filter (λ note. note.failed) notes)

abbrev pub slow_calls : List Note → ℕ
slow_calls notes = length (filter (λ note. note.slow) notes)

-- there are as many notes as the minimum asks for, and failures or slow calls are at least so many percent of them
pub record ReachAThreshold (config : ConfigParts) (notes : List Note) : Type 0 where
  pub enough : minimum_in_window config ≤ length notes
  pub either : (config.failure_rate_threshold * length notes ≤ 100 * failures notes) ⊎ (config.slow_call_rate_threshold * length notes ≤ 100 * slow_calls notes)

-- a line makes a note with which the notes in the window reach a threshold
pub record Trips (past : Past) (line : EntryData) : Type 0 where
  pub note : Note
  pub noted : note_by past.opening.config line.moment line.event line.reply ≡ Some note
  pub reached : ReachAThreshold past.opening.config (in_window past.opening.config line.moment (notes_of past ++ note ∷ []))

-- that, or an operator's move to OPEN
abbrev pub IsReasonToOpen : Past → EntryData → Type 0
IsReasonToOpen past line = Trips past line ⊎ (line.event ≡ moves state.Open)

-- ---- tickets

-- no number stands twice in a list
abbrev pub NoneTwice : List ℕ → Type 0
NoneTwice [] = Unit {0}
NoneTwice (number ∷ numbers) = (is_listed numbers number ≡ false) × NoneTwice numbers

abbrev pub numbers_issued : List Stage → List ℕ
numbers_issued stages = map (λ ticket. ticket.number) (issued stages)

-- ---- journals over cuts

-- each further history is legal, and is opened by the documented cut of the one before it
abbrev pub AreCutInTurn : History → List History → Type 0
AreCutInTurn before [] = Unit {0}
AreCutInTurn before (next ∷ further) = (cut (past_of before) ≡ Ok next.opening) × (IsLegal next × AreCutInTurn next further)

-- all their lines, one history behind another
abbrev pub lines_of_all : List History → List EntryData
lines_of_all histories = flat_map (λ history. history.lines) histories

-- ---- the program that judges under a ticket

-- the history with its first lines alone, so many
abbrev pub first_lines : ℕ → History → History
first_lines count history = record { opening = history.opening; lines = take count history.lines; rolled = history.rolled }

-- the last program that was installed before the line at a place
abbrev pub newest_before : ℕ → History → VerifiedProgram
newest_before place history = current_program (past_of (first_lines place history))

-- the line at a place finishes a ticket with an outcome, and answers this verdict, these steps and this version
pub record Finishes (history : History) (place ticket : ℕ) (outcome : Outcome) (v : Verdict) (steps version : ℕ) : Type 0 where
  pub line : EntryData
  pub there : slice_get history.lines place ≡ Some line
  pub work : JudgedData
  pub finished : line.event ≡ finishes work ticket
  pub brought : work.outcome ≡ outcome
  pub fate : Fate
  pub reached : State
  pub replied : line.reply ≡ reply.Finished fate v steps version reached

-- verdict, steps and version are those of the program that was the newest when the ticket was issued
pub record AreOfTheTicket (history : History) (place ticket : ℕ) (outcome : Outcome) (v : Verdict) (steps version : ℕ) : Type 0 where
  -- an earlier line issued the ticket, with this version
  pub issuing : ℕ
  pub earlier : issuing < place
  pub line : EntryData
  pub there : slice_get history.lines issuing ≡ Some line
  pub reached : State
  pub permits : line.reply ≡ reply.Permitted ticket version reached
  -- it was the version of the newest program before that line
  pub named : program_from history.opening.version (programs_of (past_of (first_lines issuing history))) version ≡ Some (newest_before issuing history)
  -- this program says so of the outcome
  pub judged : Judges (context_size (newest_before issuing history).layout) (newest_before issuing history).slots outcome v steps

-- ---- a longest stay in HALF_OPEN

-- one is configured, and at a moment the breaker has stood in HALF_OPEN for as long
pub record StayIsOver (past : Past) (moment : ℕ) : Type 0 where
  pub half_open : past.standing.state ≡ state.HalfOpen
  pub configured : 0 < past.opening.config.max_wait_duration_in_half_open_state
  pub over : past.opening.config.max_wait_duration_in_half_open_state ≤ moment - past.standing.since

-- what the machine would decide if no stay in HALF_OPEN ever ended by itself
abbrev pub decision_without_stays : Situation → ℕ → EventData → Decision
decision_without_stays s moment event =
    if is_full s event then refused s.standing refusal.JournalFull else decided meant s moment event
