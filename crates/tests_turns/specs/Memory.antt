-- A turn over a stream in memory, whose bytes are known.
use Rattle.std.specs.Prelude.{◌≡◌, ℕ, List, ◌++◌}
use Rattle.http_messages.specs.declared.front.Fault.{Fault}
use Rattle.http_connection.specs.Requests.{HttpRequestData}
use Rattle.http_connection.specs.Connections.{ConnectionData}
use Rattle.http_connection.specs.Steps.{Step, AreSteps}
use Rattle.http_connection.specs.Turns.{Goes}

-- the first bytes of what there was to read were taken, steps were made for their messages, and behind what was written stands a first part of what was pending and of the text of their answers: the rest is pending
module _ {S C : Type 0} (refusal : Fault → List ℕ) (responds : S → ℕ → HttpRequestData → List ℕ → S → Type 0) (ticks : C → ℕ → C → Type 0) where
  abbrev pub HasTakenTurn : ConnectionData → List ℕ → List ℕ → S → C → ConnectionData → List ℕ → List ℕ → S → C → Type 0
  HasTakenTurn before input output state clock after left written later read =
      (bytes : List ℕ) × (steps : List Step) × (text : List ℕ) × (sent : List ℕ)
      × (input ≡ bytes ++ left) × (written ≡ output ++ sent)
      × AreSteps responds ticks state clock steps later read
      × Goes refusal before.stage before.unread bytes steps text after.stage after.unread
      × (before.pending ++ text ≡ sent ++ after.pending)
