-- How the parts of a turn end, with the counts of the reads or of the writes before and after.
use Rattle.std.specs.Prelude.{◌≡◌, ◌≢◌, ◌<◌, ℕ, List, [], length, Option, Bool, true, false}
use Rattle.std.specs.Io.KnownBytes.{IsAtEnd}
use Rattle.counted_io.specs.Counts.{CountsNothing, CountsFailure, CountsWait, CountsEnd}
use Rattle.counted_io.specs.Wires.{CountsOf}
use Rattle.http_connection.specs.declared.ended.Ended.TheVariants as end
use Rattle.http_connection.specs.declared.output.Written.{Written}
use Rattle.http_connection.specs.declared.output.Written.TheVariants as written
use Rattle.http_connection.specs.declared.input.Filled.{Filled}
use Rattle.http_connection.specs.declared.input.Filled.TheVariants as filled
use Rattle.http_connection.specs.declared.turned.Turned.{Turned}
use Rattle.http_connection.specs.declared.turned.Turned.TheVariants as turned
use Rattle.http_connection.specs.declared.turned.Want.TheVariants as want

-- how writing ended, with what is left to write
abbrev pub IsWritten : Written → List ℕ → CountsOf → CountsOf → Type 0
IsWritten written.All left before after = (left ≡ []) × CountsNothing before after
IsWritten written.Part left before after = (left ≢ []) × CountsWait before after
IsWritten written.Failed left before after = (left ≢ []) × CountsFailure before after

-- how a read ended, with what was unread before and is after it, and what the reader has left
abbrev pub IsFilled : Filled → List ℕ → List ℕ → Option (List ℕ) → CountsOf → CountsOf → Type 0
IsFilled filled.More unread new has before after = (length unread < length new) × CountsNothing before after
IsFilled filled.End unread new has before after = (new ≡ unread) × IsAtEnd has × CountsEnd before after
IsFilled filled.Nothing unread new has before after = (new ≡ unread) × CountsWait before after
IsFilled filled.Failed unread new has before after = (new ≡ unread) × CountsFailure before after
IsFilled filled.NoMemory unread new has before after = (new ≡ unread) × CountsNothing before after

abbrev pub turned_at_end : Bool → Turned
turned_at_end true = turned.Ended end.Closed
turned_at_end false = turned.Ended end.Truncated

-- how a turn goes on behind a read, and whether nothing is unread
abbrev pub turned_by : Filled → Bool → Turned
turned_by filled.More is_empty = turned.GoesOn
turned_by filled.End is_empty = turned_at_end is_empty
turned_by filled.Nothing is_empty = turned.Waits want.Bytes
turned_by filled.Failed is_empty = turned.Ended end.ReadFailed
turned_by filled.NoMemory is_empty = turned.Ended end.OutOfMemory
