-- What answering one message does.
use Rattle.std.specs.Prelude.{◌≡◌, ◌≢◌, ◌⊎◌, ◌≤◌, ℕ, List, [], length}
use Rattle.http_messages.specs.declared.front.Fault.{Fault}
use Rattle.http_connection.specs.Requests.{HttpRequestData}
use Rattle.http_connection.specs.Serving.{IsUnfinished}
use Rattle.http_connection.specs.declared.answering.Answered.{Answered}
use Rattle.http_connection.specs.declared.answering.Answered.TheVariants as answered
use Rattle.http_connection.specs.declared.stage.Stage.TheVariants as stage
use Rattle.http_connection.specs.Connections.{ConnectionData, IsKept}
use Rattle.http_connection.specs.Exchanges.{IsLastText}
use Rattle.http_connection.specs.Steps.{Step, AreSteps, counted_steps}
use Rattle.http_connection.specs.Turns.{Goes}

-- how the connection stands by what became of the message, for which these steps were made
abbrev pub StandsSo : Answered → List Step → ConnectionData → Type 0
StandsSo answered.Yes steps after = (steps ≢ []) ⊎ (after.stage ≢ stage.Open)
StandsSo answered.Incomplete steps after = (after.stage ≡ stage.Open) × IsUnfinished after.unread × (after.pending ≡ [])
StandsSo answered.NoMemory steps after = (after.stage ≢ stage.Last) × (after.pending ≡ [])

module _ {S C : Type 0} (refusal : Fault → List ℕ) (responds : S → ℕ → HttpRequestData → List ℕ → S → Type 0) (ticks : C → ℕ → C → Type 0) where
  -- an open connection of which nothing is pending goes on by a step at most, from the state and the clock, and the text of its answer is pending
  abbrev pub HasAnswered : Answered → ConnectionData → S → C → ConnectionData → S → C → Type 0
  HasAnswered result connection state clock after later read =
      (steps : List Step) × AreSteps responds ticks state clock steps later read × (length steps ≤ 1)
      × Goes refusal stage.Open connection.unread [] steps after.pending after.stage after.unread
      × (after.answers ≡ counted_steps steps connection.answers)
      × IsLastText refusal steps after.pending
      × (IsKept connection → IsKept after)
      × StandsSo result steps after
