-- How serving ends, by its last turn.
use Rattle.std.proofs.Common.{◌≡◌, List, ℕ, Option}
use Rattle.std.specs.Io.KnownBytes.{IsAtEnd}
use Rattle.counted_io.specs.Counting.{counted}
use Rattle.counted_io.specs.Wires.{CountsOf}
use Rattle.http_connection.specs.declared.ended.Ended.{Ended}
use Rattle.http_connection.specs.declared.ended.Ended.TheVariants as end
use Rattle.http_connection.specs.declared.turned.Turned.TheVariants as turned
use Rattle.http_connection.specs.Causes.{ends_input, IsServingCause}
use Rattle.http_connection.specs.Connections.{ConnectionData}
use Rattle.http_connection.specs.Ends.{IsTurned}

pub cause_by : (ended : Ended) (connection : ConnectionData) (has : Option (List ℕ)) (r q w v : CountsOf) → IsTurned (turned.Ended ended) connection has r q w v → IsServingCause ended r.failures q.failures w.failures v.failures
cause_by end.Closed connection has r q w v is = (is.0.3.0, is.1.0)
cause_by end.Truncated connection has r q w v is = (is.0.3.0, is.1.0)
cause_by end.ReadFailed connection has r q w v is = (is.0.2.0, is.1.0)
cause_by end.OutOfMemory connection has r q w v is = (is.0.2.0, is.1.0)
cause_by end.Finished connection has r q w v is = (is.2.0, is.3.0)
cause_by end.WriteFailed connection has r q w v is = (is.1.0, is.2.0)

pub ends_by : (ended : Ended) (connection : ConnectionData) (has : Option (List ℕ)) (r q w v : CountsOf) → IsTurned (turned.Ended ended) connection has r q w v → q.ends ≡ counted (ends_input ended) r.ends
ends_by end.Closed connection has r q w v is = is.0.3.2
ends_by end.Truncated connection has r q w v is = is.0.3.2
ends_by end.ReadFailed connection has r q w v is = is.0.2.2
ends_by end.OutOfMemory connection has r q w v is = is.0.2.2
ends_by end.Finished connection has r q w v is = is.2.2
ends_by end.WriteFailed connection has r q w v is = is.1.2

pub closed_by : (ended : Ended) (connection : ConnectionData) (has : Option (List ℕ)) (r q w v : CountsOf) → IsTurned (turned.Ended ended) connection has r q w v → ended ≡ end.Closed → IsAtEnd has
closed_by ended connection has r q w v is closed = (rw closed at is).0.2

pub truncated_by : (ended : Ended) (connection : ConnectionData) (has : Option (List ℕ)) (r q w v : CountsOf) → IsTurned (turned.Ended ended) connection has r q w v → ended ≡ end.Truncated → IsAtEnd has
truncated_by ended connection has r q w v is truncated = (rw truncated at is).0.2
