-- A book that is cut.
use Rattle.std.proofs.Common.{◌≡◌, ℕ, suc, ◌+◌, ◌-◌, ◌<◌, ◌||◌, Bool, true, false, List, [], ◌∷◌, length, slice_get, Option, Some, Ok, Err, arith, refl, ap, ◌∙◌, rules}
use Rattle.std.specs.List.{filter_map}
use Rattle.std.proofs.lemmas.Bool.{le-leb}
use Rattle.bpf_profile.specs.Programs.{VerifiedProgram}
use Rattle.refusals.specs.declared.RefusalNumber.TheVariants as refusal
use Rattle.service_profile.specs.declared.tickets.OpenTicket.{OpenTicket}
use Rattle.service_profile.specs.Answers.{last_of, current_program, is_past_the_limit, is_worn_out, is_some_open, reopened, cut}
use Rattle.service_profile.specs.Events.{EntryData, Opening, Rolled}
use Rattle.service_profile.specs.Histories.{Past, past_of, situation_of, install_at}
use Rattle.service_profile.specs.Machine.{Situation, current_version, program_from}
use Rattle.service_profile.specs.declared.configuration.ConfigParts.{ConfigParts}
use Rattle.book.specs.Books.{IsBook, journal}
use Rattle.book.specs.declared.parts.Parts.{Parts}
use Rattle.service_profile.specs.Openings.{IsOpening}
use Rattle.book.proofs.Openings.{next_line_is}
use Rattle.book.proofs.Worlds.{reopened_opening}

-- ---- whether a number is past its limit

abbrev pub worn_by : ℕ → Situation → Bool
worn_by line s = is_past_the_limit line || (is_past_the_limit s.next_ticket || (is_past_the_limit (suc s.standing.period) || is_past_the_limit (suc (current_version s))))

pub worn_is : (opening : Opening) (lines : List EntryData) (rolled : Rolled) → worn_by (opening.line + length lines) (situation_of (past_of (journal opening lines rolled))) ≡ is_worn_out (past_of (journal opening lines rolled))
worn_is opening lines rolled = ap (λ (n : ℕ). worn_by n (situation_of (past_of (journal opening lines rolled)))) (next_line_is opening lines rolled)

-- ---- the program of new tickets

last_place : {A : Type 0} (x : A) (xs : List A) → slice_get (x ∷ xs) (length xs) ≡ Some (last_of x xs)
last_place x [] = refl
last_place x (y ∷ ys) = last_place y ys

pub from_last : (first : ℕ) (program : VerifiedProgram) (programs : List VerifiedProgram) → program_from first (program ∷ programs) (first + (length (program ∷ programs) - 1)) ≡ Some (last_of program programs)
from_last first program programs =
    let version : ℕ = first + (length (program ∷ programs) - 1) in
    let place : version - first ≡ length programs = omega arith in
    rw (le-leb first version (omega arith), place) (last_place program programs)

-- the program of the version of new tickets is theirs
pub current_is : (past : Past) (program : VerifiedProgram) → Some program ≡ program_from (situation_of past).first_version (situation_of past).programs (current_version (situation_of past)) → program ≡ current_program past
current_is past program e =
    let both : ◌≡◌ {A = Option VerifiedProgram} (Some program) (Some (current_program past)) = e ∙ from_last past.opening.version past.opening.program (filter_map install_at past.stages) in
    cc

-- ---- the opening after a cut

abbrev pub reopened_by : Situation → VerifiedProgram → ℕ → ℕ → Opening
reopened_by s program line moment = record {
  config = s.config;
  program = program;
  version = current_version s;
  period = suc s.standing.period;
  ticket = s.next_ticket;
  line = line;
  moment = moment;
}

pub reopened_is : (opening : Opening) (service : Parts) (moment : ℕ) (lines : List EntryData) (rolled : Rolled) (program : VerifiedProgram) → IsBook opening service moment lines rolled → program ≡ current_program (past_of (journal opening lines rolled))
    → reopened_by (situation_of (past_of (journal opening lines rolled))) program (opening.line + length lines) moment ≡ reopened (past_of (journal opening lines rolled))
reopened_is opening service moment lines rolled program book current = search (rules, next_line_is)

-- the opening as the code makes it
pub made_so : (s : Situation) (config : ConfigParts) (program : VerifiedProgram) (version period ticket line here moment : ℕ) → s.config ≡ config → version ≡ current_version s → period ≡ suc s.standing.period → ticket ≡ s.next_ticket → line ≡ here
    → ◌≡◌ {A = Opening} (record { config = config; program = program; version = version; period = period; ticket = ticket; line = line; moment = moment }) (reopened_by s program here moment)
made_so s config program version period ticket line here moment e a b c d = rw (← e, a, b, c, d) refl

pub reopens_well : (opening : Opening) (service : Parts) (moment : ℕ) (lines : List EntryData) (rolled : Rolled) → IsBook opening service moment lines rolled → is_worn_out (past_of (journal opening lines rolled)) ≡ false → IsOpening (reopened (past_of (journal opening lines rolled)))
reopens_well opening service moment lines rolled book fresh = reopened_opening (past_of (journal opening lines rolled)) book.sound fresh

-- ---- a cut that is not refused

pub none_open : (tickets : List OpenTicket) → length tickets ≡ 0 → is_some_open tickets ≡ false
none_open tickets e = search rules

pub cut_there : (past : Past) → is_worn_out past ≡ false → is_some_open (situation_of past).open_tickets ≡ false → cut past ≡ Ok (reopened past)
cut_there past fresh closed = rw (fresh, closed) refl

pub some_open : (tickets : List OpenTicket) → 0 < length tickets → is_some_open tickets ≡ true
some_open tickets less = search rules

pub cut_refused : (past : Past) → is_worn_out past ≡ false → is_some_open (situation_of past).open_tickets ≡ true → cut past ≡ Err refusal.TicketsOpen
cut_refused past fresh there = rw (fresh, there) refl
