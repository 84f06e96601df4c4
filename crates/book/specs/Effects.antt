-- What a decision changes in the parts of a book. The definitions of histories read the same off the entry.
use Rattle.std.specs.Prelude.{ℕ, Bool, true, false, Option, Some, None}
use Rattle.bpf_profile.specs.declared.machine.Verdict.{Verdict}
use Rattle.refusals.specs.declared.RefusalNumber.{RefusalNumber}
use Rattle.service_profile.specs.declared.configuration.ConfigParts.{ConfigParts}
use Rattle.service_profile.specs.declared.decisions.Decision.{Decision}
use Rattle.service_profile.specs.declared.notes.Note.{Note}
use Rattle.service_profile.specs.declared.replies.Fate.{Fate}
use Rattle.service_profile.specs.declared.replies.Reply.TheVariants as reply
use Rattle.service_profile.specs.declared.tickets.OpenTicket.{OpenTicket}
use Rattle.service_profile.specs.declared.standings.Standing.{Standing}
use Rattle.service_profile.specs.Events.{EventData}
use Rattle.service_profile.specs.Histories.{note_by, end_by, issue_by, install_by}
use Rattle.service_profile.specs.Machine.{refused, is_refused_call, is_not_permitted}
use Rattle.book.specs.declared.plans.Effects.{Effects}
use Rattle.book.specs.declared.plans.Plan.{Plan}

abbrev pub is_some : {A : Type 0} → Option A → Bool
is_some None = false
is_some (Some x) = true

abbrev pub effects_of : ConfigParts → ℕ → EventData → Decision → Effects
effects_of config moment event decision = record {
  note = note_by config moment event decision.reply;
  ended = end_by event decision.reply;
  issued = issue_by decision.reply decision.next.period moment;
  installs = is_some (install_by event decision.reply);
  refuses_call = is_refused_call decision.reply;
}

abbrev pub planned : ConfigParts → ℕ → EventData → Decision → Plan
planned config moment event decision = record { decision = decision; effects = effects_of config moment event decision }

-- a refusal makes no note, no ticket and no version, and ends no ticket
abbrev pub refused_plan : Standing → RefusalNumber → Plan
refused_plan standing number = record {
  decision = refused standing number;
  effects = record { note = None; ended = None; issued = None; installs = false; refuses_call = is_not_permitted number };
}

abbrev pub permitted_plan : Standing → OpenTicket → Plan
permitted_plan standing ticket = record {
  decision = record { reply = reply.Permitted ticket.number ticket.version standing.state; next = standing };
  effects = record { note = None; ended = None; issued = Some ticket; installs = false; refuses_call = false };
}

abbrev pub released_plan : Standing → ℕ → Plan
released_plan standing ticket = record {
  decision = record { reply = reply.Released standing.state; next = standing };
  effects = record { note = None; ended = Some ticket; issued = None; installs = false; refuses_call = false };
}

-- a verdict under a ticket, with its note, and where the breaker stands after it
abbrev pub reported_plan : OpenTicket → Verdict → ℕ → Fate → Option Note → Standing → Plan
reported_plan ticket verdict steps fate note next = record {
  decision = record { reply = reply.Finished fate verdict steps ticket.version next.state; next = next };
  effects = record { note = note; ended = Some ticket.number; issued = None; installs = false; refuses_call = false };
}
