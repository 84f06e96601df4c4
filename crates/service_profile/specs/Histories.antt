-- What a history says: where its breaker stood at each line, its notes, its tickets and its versions, each taken afresh from all lines.
use Rattle.std.specs.Prelude.{◌≡◌, ℕ, ◌+◌, ◌-◌, ◌≤◌, ◌==◌, max, ◌&&◌, not, Bool, true, List, [], ◌∷◌, ◌++◌, map, length, Option, Some, None}
use Rattle.std.specs.List.{filter, filter_map, fold, list_any}
use Rattle.bpf_profile.specs.Programs.{VerifiedProgram}
use Rattle.service_profile.specs.declared.standings.Standing.{Standing}
use Rattle.service_profile.specs.declared.configuration.ConfigParts.{ConfigParts}
use Rattle.service_profile.specs.declared.decisions.Decision.{Decision}
use Rattle.service_profile.specs.declared.tickets.OpenTicket.{OpenTicket}
use Rattle.service_profile.specs.declared.replies.Fate.TheVariants as fate
use Rattle.service_profile.specs.declared.replies.Reply.{Reply}
use Rattle.service_profile.specs.declared.replies.Reply.TheVariants as reply
use Rattle.service_profile.specs.declared.states.State.TheVariants as state
use Rattle.service_profile.specs.declared.notes.Note.{Note}
use Rattle.service_profile.specs.Events.{EventData, finishes, releases, installs, EntryData, Opening, Rolled, History}
use Rattle.service_profile.specs.Machine.{Situation, decision, note_of, is_entered, is_refused_call}

-- a line, and where the breaker stood before it and after it
pub record Stage : Type 0 where
  pub line : EntryData
  pub before : Standing
  pub after : Standing

-- an opening, and all lines since, the oldest first
pub record Past : Type 0 where
  pub opening : Opening
  pub rolled : Rolled
  pub stages : List Stage
  pub standing : Standing

-- ---- notes

-- a recorded verdict makes a note
abbrev pub note_by : ConfigParts → ℕ → EventData → Reply → Option Note
note_by config moment (finishes work ticket) (reply.Finished fate.Recorded verdict steps version state) = Some (note_of config moment verdict work.outcome)
note_by config moment event reply = None

abbrev pub note_at : ConfigParts → Stage → Option Note
note_at config stage = note_by config stage.line.moment stage.line.event stage.line.reply

-- the stages whose lines were taken in a period
abbrev pub taken_in : ℕ → List Stage → List Stage
taken_in period stages = filter (λ stage. stage.before.period == period) stages

-- the notes of the present period
abbrev pub notes_of : Past → List Note
notes_of past = filter_map (note_at past.opening.config) (taken_in past.standing.period past.stages)

-- ---- tickets

-- a ticket's period is the one after its line, and its moment that of the line
abbrev pub issue_by : Reply → ℕ → ℕ → Option OpenTicket
issue_by (reply.Permitted ticket version state) period moment = Some (record { number = ticket; version = version; period = period; moment = moment })
issue_by other period moment = None

abbrev pub issue_at : Stage → Option OpenTicket
issue_at stage = issue_by stage.line.reply stage.after.period stage.line.moment

abbrev pub end_by : EventData → Reply → Option ℕ
end_by (finishes work ticket) (reply.Finished fate verdict steps version state) = Some ticket
end_by (releases ticket) (reply.Released state) = Some ticket
end_by event reply = None

abbrev pub end_at : Stage → Option ℕ
end_at stage = end_by stage.line.event stage.line.reply

abbrev pub issued : List Stage → List OpenTicket
issued stages = filter_map issue_at stages

abbrev pub ended : List Stage → List ℕ
ended stages = filter_map end_at stages

abbrev pub is_listed : List ℕ → ℕ → Bool
is_listed numbers number = list_any (λ other. number == other) numbers

-- the tickets that were issued and have not ended
abbrev pub open_of : List Stage → List OpenTicket
open_of stages = filter (λ ticket. not (is_listed (ended stages) ticket.number)) (issued stages)

-- how many calls were refused in the present period
abbrev pub refused_in : ℕ → List Stage → ℕ
refused_in period stages = length (filter (λ stage. (stage.after.period == period) && is_refused_call stage.line.reply) stages)

abbrev pub refused_of : Past → ℕ
refused_of past = refused_in past.standing.period past.stages

-- ---- versions

abbrev pub install_by : EventData → Reply → Option VerifiedProgram
install_by (installs program) (reply.Installed version budget layout) = Some program
install_by event reply = None

abbrev pub install_at : Stage → Option VerifiedProgram
install_at stage = install_by stage.line.event stage.line.reply

-- the programs of the opening's version and of those after it
abbrev pub programs_of : Past → List VerifiedProgram
programs_of past = past.opening.program ∷ filter_map install_at past.stages

-- ---- the machine on a history

abbrev pub situation_of : Past → Situation
situation_of past = record {
  config = past.opening.config;
  standing = past.standing;
  notes = notes_of past;
  first_version = past.opening.version;
  programs = programs_of past;
  dropped = past.rolled.programs;
  open_tickets = open_of past.stages;
  next_ticket = past.opening.ticket + length (issued past.stages);
  held = length past.stages - past.rolled.lines;
}

abbrev pub machine : Past → ℕ → EventData → Decision
machine past moment event = decision (situation_of past) moment event

-- ---- lines, one after another

-- an opening and no line, in a history of which so much was taken out
abbrev pub opened : Rolled → Opening → Past
opened rolled opening = record {
  opening = opening;
  rolled = rolled;
  stages = [];
  standing = record { state = state.Closed; period = opening.period; since = opening.moment };
}

-- one line more: the breaker stands where the machine says
abbrev pub passed : Past → EntryData → Past
passed past line = record {
  opening = past.opening;
  rolled = past.rolled;
  stages = past.stages ++ (record { line = line; before = past.standing; after = (machine past line.moment line.event).next }) ∷ [];
  standing = (machine past line.moment line.event).next;
}

abbrev pub past_of : History → Past
past_of history = fold passed (opened history.rolled history.opening) history.lines

-- the greatest moment of the opening and of all lines
abbrev pub greatest : Past → ℕ
greatest past = fold max past.opening.moment (map (λ stage. stage.line.moment) past.stages)

-- the moment at which an event is taken
abbrev pub raised : Past → ℕ → ℕ
raised past moment = max moment (greatest past)

abbrev pub next_line : Past → ℕ
next_line past = past.opening.line + length past.stages

-- ---- legal histories

-- a line that the machine writes after these
pub record Follows (past : Past) (line : EntryData) : Type 0 where
  pub numbered : line.number ≡ next_line past
  pub raises : greatest past ≤ line.moment
  pub replied : line.reply ≡ (machine past line.moment line.event).reply
  pub entered : is_entered line.reply ≡ true

abbrev pub AreLegal : Past → List EntryData → Type 0
AreLegal past [] = Unit {0}
AreLegal past (line ∷ lines) = Follows past line × AreLegal (passed past line) lines

-- each line has the next number, a raised moment, and the machine's reply after the lines before it. The machine is asked with as much taken out as there is in the end: that decides whether a journal or the list of versions is full, and a reply that says so makes no line
unfoldable pub IsLegal : History → Type 0
IsLegal history = AreLegal (opened history.rolled history.opening) history.lines
