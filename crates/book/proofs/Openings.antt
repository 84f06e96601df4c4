-- A book that has just been opened, and what any book shows.
use Rattle.std.proofs.Common.{◌≡◌, ℕ, suc, ◌+◌, ◌-◌, ◌≤◌, ◌⊎◌, inl, inr, List, [], length, slice_get, Option, None, Result, Ok, Err, arith, ap, sym, ◌∙◌, rules}
use Rattle.std.specs.Option.{option_map_or}
use Rattle.book.specs.Accepted.{Accepting, IsSafeProgram}
use Rattle.refusals.specs.declared.RefusalNumber.{RefusalNumber}
use Rattle.refusals.specs.declared.RefusalNumber.TheVariants as refusal
use Rattle.bpf_profile.specs.Programs.{VerifiedProgram}
use Rattle.service_profile.specs.declared.configuration.ConfigParts.{ConfigParts}
use Rattle.book.specs.declared.parts.Parts.{Parts}
use Rattle.service_profile.specs.Answers.{IsLooked, looks, no_owner, looked, reading}
use Rattle.service_profile.specs.declared.readings.Reading.{Reading}
use Rattle.service_profile.specs.declared.tickets.OpenTicket.{OpenTicket}
use Rattle.service_profile.specs.Machine.{current_version, program_from}
use Rattle.service_profile.specs.Openings.{IsOpening}
use Rattle.service_profile.specs.FirstOpening.{first_opening_from}
use Rattle.service_profile.specs.Limits.{greatest_number}
use Rattle.service_profile.specs.Events.{history_of, nothing_rolled, EntryData, Rolled, History, Opening}
use Rattle.book.specs.Books.{IsBook, journal}
use Rattle.book.specs.Situations.{StandsFor, breaker_of}
use Rattle.breaker.specs.Calls.{metrics_of}
use Rattle.breaker.specs.declared.metrics.Metrics.{Metrics}
use Rattle.service_profile.specs.Configuration.{bad_field}
use Rattle.service_profile.specs.Histories.{Past, opened, past_of, situation_of, raised, refused_of, next_line, IsLegal}
use Rattle.book.specs.Sound.{IsSound}
use Rattle.book.proofs.Applying.{same_opening, stage_count}

pub sound_opened : (accepts : Accepting) (opening : Opening) (rolled : Rolled) → IsOpening opening → accepts opening.program → IsSound accepts (opened rolled opening)
sound_opened accepts opening rolled good program = search rules

pub is_first : (ticket : ℕ) (config : ConfigParts) (program : VerifiedProgram) → 1 ≤ ticket → ticket ≤ greatest_number → bad_field config ≡ None → IsOpening (first_opening_from ticket config program)
is_first ticket config program least most good = search rules

pub legal_opened : (opening : Opening) → IsLegal (history_of opening [])
unfolding IsLegal
legal_opened opening = tt

pub first_book : (opening : Opening) (service : Parts) → IsOpening opening → IsSafeProgram opening.program → StandsFor service 0 (situation_of (opened nothing_rolled opening)) → service.refused ≡ 0 → IsBook opening service opening.moment [] nothing_rolled
first_book opening service good program stands none = search (rules, legal_opened, sound_opened)

-- ---- what a book shows

pub line_least : (opening : Opening) (service : Parts) (moment : ℕ) (lines : List EntryData) (rolled : Rolled) → IsBook opening service moment lines rolled → 1 ≤ opening.line
line_least opening service moment lines rolled book = omega (arith, book.sound.opening.first_line, ap (λ (o : Opening). o.line) (same_opening opening lines rolled))

pub next_line_is : (opening : Opening) (lines : List EntryData) (rolled : Rolled) → opening.line + length lines ≡ next_line (past_of (journal opening lines rolled))
next_line_is opening lines rolled = omega (arith, stage_count opening lines rolled, ap (λ (o : Opening). o.line) (same_opening opening lines rolled))

pub reads_so : (past : Past) (moment last : ℕ) (metrics : Metrics) (version budget count free not_permitted : ℕ) (oldest : Option OpenTicket)
    → metrics ≡ metrics_of (raised past moment) (breaker_of (situation_of past)) → version ≡ current_version (situation_of past) → budget ≡ option_map_or (λ program. program.budget) (program_from past.opening.version (situation_of past).programs (current_version (situation_of past))) 0
    → count ≡ length (situation_of past).open_tickets → free ≡ past.opening.config.max_concurrent_calls - length (situation_of past).open_tickets → not_permitted ≡ refused_of past → suc last ≡ next_line past → oldest ≡ slice_get (situation_of past).open_tickets 0
    → ◌≡◌ {A = Reading} (record { state = metrics.state; period = metrics.period; version = version; budget = budget; total = metrics.total; failed = metrics.failed; slow = metrics.slow; failure_rate = metrics.failure_rate; slow_rate = metrics.slow_rate; open_tickets = count; free = free; not_permitted = not_permitted; entries = last; oldest_ticket = oldest })
    (reading past moment)
reads_so past moment last metrics version budget count free not_permitted oldest a b c d e f g h = search rules

pub looked_there : (history : History) (ticket : ℕ) (program : VerifiedProgram) (r : Result VerifiedProgram RefusalNumber)
    → looked (situation_of (past_of history)) ticket ≡ Ok program → (r ≡ Ok program) ⊎ (r ≡ Err refusal.ServiceOutOfMemory) → IsLooked history ticket r
looked_there history ticket program r found (inl e) = looks (e ∙ sym found)
looked_there history ticket program r found (inr e) = no_owner program e found
