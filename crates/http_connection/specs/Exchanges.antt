-- What a connection reads, answers and writes in a turn, or in several.
use Rattle.std.specs.Prelude.{◌≡◌, ◌≢◌, ◌⊎◌, ◌≤◌, ℕ, List, [], ◌∷◌, ◌++◌, length, Option}
use Rattle.std.specs.Io.KnownBytes.{Appends, Consumes}
use Rattle.counted_io.specs.Counting.{IsBeginning}
use Rattle.http_messages.specs.declared.front.Fault.{Fault}
use Rattle.http_connection.specs.Requests.{HttpRequestData}
use Rattle.http_connection.specs.declared.stage.Stage.TheVariants as stage
use Rattle.http_connection.specs.Connections.{ConnectionData, IsKept}
use Rattle.http_connection.specs.Steps.{Step, AreSteps, counted_steps, text_of}
use Rattle.http_connection.specs.Turns.{Goes}

-- the bytes that were read, the steps that were made for their messages, the text of the answers, with that of a refusal, and the bytes that were written
pub record Exchange : Type 0 where
  pub bytes : List ℕ
  pub steps : List Step
  pub text : List ℕ
  pub sent : List ℕ

-- something was read, answered, refused or written
abbrev pub IsProgress : ConnectionData → Exchange → ConnectionData → Type 0
IsProgress before exchange after =
    (exchange.bytes ≢ []) ⊎ ((exchange.steps ≢ []) ⊎ ((exchange.sent ≢ []) ⊎ ((before.stage ≡ stage.Open) × (after.stage ≢ stage.Open))))

-- refusal is the text of the answer to a message that is refused; responds relates a state, a moment and a request to the text of the answer and the state after it; ticks relates a clock's state to the moment that it reads and the state after it
module _ (refusal : Fault → List ℕ) where
  -- the text of the last answer, or none
  abbrev pub IsLastText : List Step → List ℕ → Type 0
  IsLastText steps last =
      (last ≡ [])
      ⊎ (((earlier : List Step) × (step : Step) × (steps ≡ earlier ++ step ∷ []) × (last ≡ text_of step.answer))
      ⊎ ((fault : Fault) × (last ≡ refusal fault)))

  -- nothing is read or answered before what was pending is written, and no message is answered before the answer to the one before it is: all was written that came before the text of the last answer
  abbrev pub IsInTurn : List ℕ → Exchange → Type 0
  IsInTurn waiting exchange =
      ((exchange.bytes ≡ []) × (exchange.steps ≡ []) × (exchange.text ≡ []))
      ⊎ ((before : List ℕ) × (last : List ℕ) × (waiting ++ exchange.text ≡ before ++ last) × IsBeginning before exchange.sent × IsLastText exchange.steps last)

  module _ {S C : Type 0} (responds : S → ℕ → HttpRequestData → List ℕ → S → Type 0) (ticks : C → ℕ → C → Type 0) where
    -- from a connection, what a reader has left, a state, a clock and what a writer holds to others. Bytes were taken off the reader, steps were made for their messages from the state and the clock, and of the text that was pending and that of the answers the first part was written: the rest is pending. What is read ahead stays within its bound
    abbrev pub IsExchange : ConnectionData → Option (List ℕ) → S → C → Option (List ℕ) → ConnectionData → Option (List ℕ) → S → C → Option (List ℕ) → Exchange → Type 0
    IsExchange connection had state clock held after has later read holds exchange =
        Consumes had has exchange.bytes
        × AreSteps responds ticks state clock exchange.steps later read
        × Appends held holds exchange.sent
        × Goes refusal connection.stage connection.unread exchange.bytes exchange.steps exchange.text after.stage after.unread
        × (connection.pending ++ exchange.text ≡ exchange.sent ++ after.pending)
        × (after.answers ≡ counted_steps exchange.steps connection.answers)
        × IsInTurn connection.pending exchange
        × (IsKept connection → IsKept after)

    -- a connection had a turn, or several, or none
    abbrev pub HasGone : ConnectionData → Option (List ℕ) → S → C → Option (List ℕ) → ConnectionData → Option (List ℕ) → S → C → Option (List ℕ) → Type 0
    HasGone connection had state clock held after has later read holds =
        (exchange : Exchange) × IsExchange connection had state clock held after has later read holds exchange

    -- and it read, answered, refused or wrote something
    abbrev pub HasProgressed : ConnectionData → Option (List ℕ) → S → C → Option (List ℕ) → ConnectionData → Option (List ℕ) → S → C → Option (List ℕ) → Type 0
    HasProgressed connection had state clock held after has later read holds =
        (exchange : Exchange) × IsExchange connection had state clock held after has later read holds exchange × IsProgress connection exchange after

    -- and it made so many steps and read so many bytes at most
    abbrev pub HasGoneWithin : ℕ → ℕ → ConnectionData → Option (List ℕ) → S → C → Option (List ℕ) → ConnectionData → Option (List ℕ) → S → C → Option (List ℕ) → Type 0
    HasGoneWithin most_steps most_bytes connection had state clock held after has later read holds =
        (exchange : Exchange) × IsExchange connection had state clock held after has later read holds exchange
        × (length exchange.steps ≤ most_steps) × (length exchange.bytes ≤ most_bytes)

    -- all of this, for the parts of a turn: it progressed where it is said to
    abbrev pub HasRounds : ℕ → ℕ → Type 0 → ConnectionData → Option (List ℕ) → S → C → Option (List ℕ) → ConnectionData → Option (List ℕ) → S → C → Option (List ℕ) → Type 0
    HasRounds most_steps most_bytes progresses connection had state clock held after has later read holds =
        (exchange : Exchange) × IsExchange connection had state clock held after has later read holds exchange
        × (length exchange.steps ≤ most_steps) × (length exchange.bytes ≤ most_bytes) × (progresses → IsProgress connection exchange after)
