-- The log of a worker: one step after another, each for a message of one of its connections.
use Rattle.std.specs.Prelude.{◌≡◌, ◌≢◌, ℕ, List, [], ◌∷◌, ◌++◌, ◌==◌, Option, Some, None, if◌then◌else◌, ⊤}
use Rattle.http_messages.specs.declared.front.Fault.{Fault}
use Rattle.http_messages.specs.Messages.{IsPartOfMessage}
use Rattle.http_connection.specs.declared.ended.Ended.{Ended}
use Rattle.http_connection.specs.declared.ended.Ended.TheVariants as ended
use Rattle.http_connection.specs.Requests.{HttpRequestData}
use Rattle.http_connection.specs.Serving.{IsUnfinished}
use Rattle.http_connection.specs.declared.stage.Stage.{Stage}
use Rattle.http_connection.specs.declared.stage.Stage.TheVariants as stage
use Rattle.http_connection.specs.Steps.{Step, AreSteps}
use Rattle.http_connection.specs.Turns.{Reaches}

-- a step, and the number of the connection whose message it answers
pub record LoggedStep : Type 0 where
  pub number : ℕ
  pub step : Step

-- all steps, of whichever connection
abbrev pub all_steps : List LoggedStep → List Step
all_steps [] = []
all_steps (logged ∷ log) = logged.step ∷ all_steps log

-- the steps of one connection, in order
abbrev pub steps_of : ℕ → List LoggedStep → List Step
steps_of number [] = []
steps_of number (logged ∷ log) = if logged.number == number then logged.step ∷ steps_of number log else steps_of number log

-- the steps of one connection as a log
abbrev pub tag : ℕ → List Step → List LoggedStep
tag number [] = []
tag number (step ∷ steps) = record { number = number; step = step } ∷ tag number steps

-- how a connection ended, by how it stood then: its stage, the bytes behind its messages, and what of its answers wasn't sent. None: the worker closed it
abbrev pub EndsSo : Option Ended → Stage → List ℕ → List ℕ → Type 0
EndsSo None reached unread unsent = ⊤
EndsSo (Some ended.Closed) reached unread unsent = (reached ≡ stage.Open) × (unread ≡ []) × (unsent ≡ [])
EndsSo (Some ended.Truncated) reached unread unsent = (reached ≡ stage.Open) × IsPartOfMessage unread × (unsent ≡ [])
EndsSo (Some ended.Finished) reached unread unsent = (reached ≡ stage.Last) × (unsent ≡ [])
EndsSo (Some ended.ReadFailed) reached unread unsent = (reached ≡ stage.Open) × IsUnfinished unread × (unsent ≡ [])
EndsSo (Some ended.WriteFailed) reached unread unsent = unsent ≢ []
EndsSo (Some ended.OutOfMemory) reached unread unsent = (reached ≢ stage.Last) × (unsent ≡ [])

-- refusal is the text of the answer to a message that is refused
module _ (refusal : Fault → List ℕ) where
  -- the steps of a connection are those of the messages of the bytes that were taken off it, in order; of the text of their answers a first part was sent, and it ended so
  abbrev pub IsConnection : List Step → Type 0
  IsConnection steps =
      (bytes : List ℕ) × (text : List ℕ) × (reached : Stage) × (unread : List ℕ) × (sent : List ℕ) × (unsent : List ℕ) × (end : Option Ended)
      × Reaches refusal bytes steps text reached unread × (text ≡ sent ++ unsent) × EndsSo end reached unread unsent

  -- responds relates a state, a moment and a request to the text of the answer and the state after it; ticks relates a clock's state to the moment that it reads and the state after it
  module _ {S C : Type 0} (responds : S → ℕ → HttpRequestData → List ℕ → S → Type 0) (ticks : C → ℕ → C → Type 0) where
    -- some connections were served side by side. All their steps are one chain, from the first state and clock to the last, each at the moment of one reading of the clock; and those of each connection are its own
    abbrev pub HasServed : S → C → S → C → Type 0
    HasServed state clock after later =
        (log : List LoggedStep) × AreSteps responds ticks state clock (all_steps log) after later × ((number : ℕ) → IsConnection (steps_of number log))
