-- The whole life of a connection.
use Rattle.std.specs.Prelude.{◌≡◌, ℕ, List, ◌++◌, Option}
use Rattle.std.specs.Io.KnownBytes.{Appends, Consumes}
use Rattle.http_messages.specs.declared.front.Fault.{Fault}
use Rattle.http_connection.specs.Requests.{HttpRequestData}
use Rattle.http_connection.specs.Connections.{ConnectionData, IsKept}
use Rattle.http_connection.specs.Steps.{Step, AreSteps, counted_steps}
use Rattle.http_connection.specs.Turns.{Reaches}

module _ {S C : Type 0} (refusal : Fault → List ℕ) (responds : S → ℕ → HttpRequestData → List ℕ → S → Type 0) (ticks : C → ℕ → C → Type 0) where
  -- bytes were read, steps were made for their messages from the state and the clock, and the text of the answers is what was written and what is pending; what is read ahead is within its bound
  abbrev pub HasLived : ConnectionData → Option (List ℕ) → S → C → Option (List ℕ) → Option (List ℕ) → S → C → Option (List ℕ) → Type 0
  HasLived connection had state clock held has after later holds =
      (bytes : List ℕ) × (steps : List Step) × (text : List ℕ) × (sent : List ℕ)
      × Consumes had has bytes
      × AreSteps responds ticks state clock steps after later
      × Appends held holds sent
      × Reaches refusal bytes steps text connection.stage connection.unread
      × (text ≡ sent ++ connection.pending)
      × (connection.answers ≡ counted_steps steps 0)
      × IsKept connection
