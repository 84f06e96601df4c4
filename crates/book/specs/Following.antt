-- What one entry changes in a situation: helpers of the proofs, which follow the code.
use Rattle.std.specs.Prelude.{ℕ, ◌+◌, ◌==◌, not, Bool, false, if◌then◌else◌, List, [], ◌∷◌, ◌++◌, Option, Some, None, option_to_list}
use Rattle.std.specs.List.{filter}
use Rattle.bpf_profile.specs.Programs.{VerifiedProgram}
use Rattle.book.specs.declared.plans.Effects.{Effects}
use Rattle.service_profile.specs.declared.standings.Standing.{Standing}
use Rattle.service_profile.specs.declared.tickets.OpenTicket.{OpenTicket}
use Rattle.service_profile.specs.declared.notes.Note.{Note}
use Rattle.service_profile.specs.Events.{EntryData}
use Rattle.service_profile.specs.Histories.{note_by, end_by, issue_by, install_by}
use Rattle.service_profile.specs.Answers.{count_unneeded}
use Rattle.service_profile.specs.Machine.{Situation}
use Rattle.book.specs.Situations.{next_open}

-- the notes after a line: none after a transition
abbrev pub notes_after : Standing → Standing → List Note → Option Note → List Note
notes_after before after notes note = if after.period == before.period then notes ++ option_to_list note else []

abbrev pub is_number : Option ℕ → ℕ → Bool
is_number None number = false
is_number (Some other) number = number == other

-- the open tickets after one ends or is issued
abbrev pub tickets_after : List OpenTicket → Option ℕ → Option OpenTicket → List OpenTicket
tickets_after tickets ended issued = filter (λ ticket. not (is_number ended ticket.number)) tickets ++ option_to_list issued

abbrev pub one_where_some : {A : Type 0} → Option A → ℕ
one_where_some None = 0
one_where_some (Some x) = 1

-- how many calls were refused in the present period
abbrev pub refused_after : Standing → Standing → ℕ → Bool → ℕ
refused_after before after refused is_refused = (if after.period == before.period then refused else 0) + (if is_refused then 1 else 0)

-- the situation after a line, from that before it
abbrev pub situation_after : Situation → EntryData → Standing → Situation
situation_after s line next = record {
  config = s.config;
  standing = next;
  notes = notes_after s.standing next s.notes (note_by s.config line.moment line.event line.reply);
  first_version = s.first_version;
  programs = s.programs ++ option_to_list (install_by line.event line.reply);
  dropped = s.dropped;
  open_tickets = tickets_after s.open_tickets (end_by line.event line.reply) (issue_by line.reply next.period line.moment);
  next_ticket = s.next_ticket + one_where_some (issue_by line.reply next.period line.moment);
  held = s.held + 1;
}

-- ---- the situation after the effects of a decision

-- a ticket ends
abbrev pub without : Situation → Option ℕ → Situation
without s ended = record s { open_tickets = filter (λ ticket. not (is_number ended ticket.number)) s.open_tickets }

-- the breaker stands where a decision leads
abbrev pub standing_so : Situation → Standing → Option Note → Situation
standing_so s next note = record s { standing = next; notes = notes_after s.standing next s.notes note }

-- where no ticket is issued
abbrev pub settled : Situation → Standing → Effects → Situation
settled s next effects = standing_so (without s effects.ended) next effects.note

-- a ticket is issued
abbrev pub with_ticket : Situation → OpenTicket → Situation
with_ticket s ticket = record s { open_tickets = s.open_tickets ++ ticket ∷ []; next_ticket = s.next_ticket + 1 }

-- where a call is permitted at a moment
abbrev pub admitted : Situation → Standing → ℕ → Situation
admitted s next moment = with_ticket (standing_so s next None) (next_open s next.period moment)

abbrev pub changed_by : Option OpenTicket → Situation → Standing → Effects → Situation
changed_by None s next effects = settled s next effects
changed_by (Some ticket) s next effects = admitted s next ticket.moment

-- a program gets a version
abbrev pub installed_in : Situation → Option VerifiedProgram → Situation
installed_in s installs = record s { programs = s.programs ++ option_to_list installs }

-- the programs that nobody needs any more are dropped
abbrev pub without_unneeded : Situation → Situation
without_unneeded s = record s { dropped = count_unneeded s }

-- all of it, with one entry more
abbrev pub followed : Situation → Standing → Effects → Option VerifiedProgram → Situation
followed s next effects installs = record {
  config = s.config;
  standing = next;
  notes = notes_after s.standing next s.notes effects.note;
  first_version = s.first_version;
  programs = s.programs ++ option_to_list installs;
  dropped = s.dropped;
  open_tickets = tickets_after s.open_tickets effects.ended effects.issued;
  next_ticket = s.next_ticket + one_where_some effects.issued;
  held = s.held + 1;
}
