-- What a book keeps: a legal history, and beside it what the history says.
use Rattle.std.specs.Prelude.{◌≡◌, ℕ, ◌-◌, ◌≤◌, List, ◌++◌, length, Vec}
use Rattle.std.specs.declared.alloc.Global.{Global}
use Rattle.std.specs.List.{flat_map}
use Rattle.std.specs.Arc.{arc_value}
use Rattle.book.specs.declared.books.Start.{Start}
use Rattle.book.specs.declared.parts.Parts.{Parts}
use Rattle.service_profile.specs.declared.configuration.ConfigParts.{ConfigParts}
use Rattle.service_profile.specs.Events.{EntryData, Opening, Rolled, History}
use Rattle.service_profile.specs.Histories.{past_of, situation_of, refused_of, greatest, IsLegal}
use Rattle.book.specs.Accepted.{IsSafeProgram}
use Rattle.book.specs.Situations.{StandsFor}
use Rattle.book.specs.Sound.{IsSound}
use Rattle.book.specs.Room.{LeavesRoom}

abbrev pub opening_of : ConfigParts → Start → Opening
opening_of config start = record {
  config = config;
  program = arc_value start.program;
  version = start.version;
  period = start.period;
  ticket = start.ticket;
  line = start.line;
  moment = start.moment;
}

-- the lines of the pieces that were handed out, and those that are held
abbrev pub lines_handed : List (Vec EntryData Global) → List EntryData
lines_handed pieces = flat_map (λ piece. piece.items) pieces

abbrev pub all_lines : List (Vec EntryData Global) → List EntryData → List EntryData
all_lines pieces held = lines_handed pieces ++ held

-- so many lines were handed out, and the programs of all versions before the first that is held were dropped
abbrev pub rolled_of : ℕ → Parts → Start → Rolled
rolled_of lines service start = record { lines = lines; programs = service.registry.first_version - start.version }

-- a history of which so much was taken out
abbrev pub journal : Opening → List EntryData → Rolled → History
journal opening lines rolled = record { opening = opening; lines = lines; rolled = rolled }

pub record IsBook (opening : Opening) (service : Parts) (moment : ℕ) (lines : List EntryData) (rolled : Rolled) : Type 0 where
  pub there : rolled.lines ≤ length lines
  pub room : LeavesRoom (past_of (journal opening lines rolled))
  pub legal : IsLegal (journal opening lines rolled)
  pub sound : IsSound IsSafeProgram (past_of (journal opening lines rolled))
  pub situated : StandsFor service (length lines - rolled.lines) (situation_of (past_of (journal opening lines rolled)))
  pub refused_calls : service.refused ≡ refused_of (past_of (journal opening lines rolled))
  pub greatest_moment : moment ≡ greatest (past_of (journal opening lines rolled))
