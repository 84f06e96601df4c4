-- How a turn ended, with the counts of the reads and of the writes before and after.
use Rattle.std.specs.Prelude.{◌≡◌, ◌≢◌, List, [], ℕ, Option}
use Rattle.std.specs.Io.KnownBytes.{IsAtEnd}
use Rattle.counted_io.specs.Counts.{CountsNothing, CountsFailure, CountsWait, CountsEnd}
use Rattle.counted_io.specs.Wires.{CountsOf}
use Rattle.http_messages.specs.Messages.{IsPartOfMessage}
use Rattle.http_connection.specs.Serving.{IsUnfinished}
use Rattle.http_connection.specs.declared.ended.Ended.TheVariants as end
use Rattle.http_connection.specs.declared.stage.Stage.TheVariants as stage
use Rattle.http_connection.specs.declared.turned.Turned.{Turned}
use Rattle.http_connection.specs.declared.turned.Turned.TheVariants as turned
use Rattle.http_connection.specs.declared.turned.Want.TheVariants as want
use Rattle.http_connection.specs.Connections.{ConnectionData}

-- messages are read, and nothing is pending
abbrev pub IsReadFrom : ConnectionData → Type 0
IsReadFrom connection = (connection.stage ≡ stage.Open) × (connection.pending ≡ [])

-- how answering a message or reading ended, with what the reader has left
abbrev pub IsRead : Turned → ConnectionData → Option (List ℕ) → CountsOf → CountsOf → Type 0
IsRead turned.GoesOn connection has before after = CountsNothing before after
IsRead (turned.Waits want.Bytes) connection has before after = IsReadFrom connection × IsUnfinished connection.unread × CountsWait before after
IsRead (turned.Waits want.Room) connection has before after = ⊥
IsRead (turned.Ended end.Closed) connection has before after = IsReadFrom connection × (connection.unread ≡ []) × IsAtEnd has × CountsEnd before after
IsRead (turned.Ended end.Truncated) connection has before after = IsReadFrom connection × IsPartOfMessage connection.unread × IsAtEnd has × CountsEnd before after
IsRead (turned.Ended end.ReadFailed) connection has before after = IsReadFrom connection × IsUnfinished connection.unread × CountsFailure before after
IsRead (turned.Ended end.OutOfMemory) connection has before after = (connection.stage ≢ stage.Last) × (connection.pending ≡ []) × CountsNothing before after
IsRead (turned.Ended end.Finished) connection has before after = ⊥
IsRead (turned.Ended end.WriteFailed) connection has before after = ⊥

-- how a turn ended, with what the reader has left: why it waits or ended is what the last call came to, and no other call failed, would have had to wait or met the end
abbrev pub IsTurned : Turned → ConnectionData → Option (List ℕ) → CountsOf → CountsOf → CountsOf → CountsOf → Type 0
IsTurned (turned.Waits want.Room) connection has reads reads_after writes writes_after =
    (connection.pending ≢ []) × CountsNothing reads reads_after × CountsWait writes writes_after
IsTurned (turned.Ended end.WriteFailed) connection has reads reads_after writes writes_after =
    (connection.pending ≢ []) × CountsNothing reads reads_after × CountsFailure writes writes_after
IsTurned (turned.Ended end.Finished) connection has reads reads_after writes writes_after =
    (connection.stage ≡ stage.Last) × (connection.pending ≡ []) × CountsNothing reads reads_after × CountsNothing writes writes_after
IsTurned other connection has reads reads_after writes writes_after =
    IsRead other connection has reads reads_after × CountsNothing writes writes_after
