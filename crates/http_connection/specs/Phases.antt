-- What a connection is about between its turns.
use Rattle.std.specs.Prelude.{◌≡◌, ◌≢◌, []}
use Rattle.http_connection.specs.Connections.{ConnectionData}
use Rattle.http_connection.specs.declared.phase.Phase.{Phase}
use Rattle.http_connection.specs.declared.phase.Phase.TheVariants as phase

abbrev pub IsPhase : Phase → ConnectionData → Type 0
IsPhase phase.Idle connection = (connection.pending ≡ []) × (connection.unread ≡ [])
IsPhase phase.Message connection = (connection.pending ≡ []) × (connection.unread ≢ [])
IsPhase phase.Answer connection = connection.pending ≢ []
