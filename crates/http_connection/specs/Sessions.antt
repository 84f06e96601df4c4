-- A stream with the connection that is served over it.
use Rattle.std.specs.Prelude.{◌≡◌, ◌⊎◌, ℕ, List, [], Option}
use Rattle.std.specs.Io.KnownBytes.{Consumes}
use Rattle.counted_io.specs.Wires.{WireData}
use Rattle.http_connection.specs.declared.stage.Stage.TheVariants as stage
use Rattle.http_connection.specs.Connections.{ConnectionData}

pub record SessionData (T : Type 0) : Type 0 where
  pub wire : WireData T
  pub connection : ConnectionData

-- the last message was answered, and all of that is written
abbrev pub IsFinished : ConnectionData → Type 0
IsFinished connection = (connection.stage ≡ stage.Last) × (connection.pending ≡ [])

-- bytes were read that nobody answers: none, but behind the last answer
abbrev pub ReadsOn : Option (List ℕ) → Option (List ℕ) → ConnectionData → Type 0
ReadsOn had has connection = (dropped : List ℕ) × Consumes had has dropped × ((dropped ≡ []) ⊎ IsFinished connection)
