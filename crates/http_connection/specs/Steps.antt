-- What a responder does, one step for each message, for any number of connections.
use Rattle.std.specs.Prelude.{◌≡◌, ◌⊎◌, ℕ, List, [], ◌∷◌, ◌++◌, Option, Some, None, ⊤}
use Rattle.counted_io.specs.Counting.{one_more}
use Rattle.http_messages.specs.Messages.{Message}
use Rattle.http_connection.specs.Requests.{HttpRequestData, request_of}

-- a message, the moment at which it was answered, and the text of its answer; None where there was no memory for the text
pub record Step : Type 0 where
  pub message : Message
  pub moment : ℕ
  pub answer : Option (List ℕ)

-- responds relates a state, a moment and a request to the text of the answer and the state after it; ticks relates a clock's state to the moment that it reads and the state after it
module _ {S C : Type 0} (responds : S → ℕ → HttpRequestData → List ℕ → S → Type 0) (ticks : C → ℕ → C → Type 0) where
  -- without memory for the text what is asked was not done, or it was done and the answer is lost
  abbrev pub IsAnswer : S → ℕ → HttpRequestData → Option (List ℕ) → S → Type 0
  IsAnswer state moment request (Some text) after = responds state moment request text after
  IsAnswer state moment request None after = (after ≡ state) ⊎ ((lost : List ℕ) × responds state moment request lost after)

  -- one step after another, each at the moment of one reading of the clock. A step names no state: so the steps of many connections can stand in one list
  abbrev pub AreSteps : S → C → List Step → S → C → Type 0
  AreSteps state clock [] after later = (after ≡ state) × (later ≡ clock)
  AreSteps state clock (step ∷ steps) after later =
      (next : S) × (read : C) × ticks clock step.moment read × IsAnswer state step.moment (request_of step.message) step.answer next
      × AreSteps next read steps after later

-- ---- what steps are to their connection

-- the messages, in order
abbrev pub messages_of : List Step → List Message
messages_of [] = []
messages_of (step ∷ steps) = step.message ∷ messages_of steps

abbrev pub text_of : Option (List ℕ) → List ℕ
text_of None = []
text_of (Some text) = text

-- the texts of the answers, in order
abbrev pub texts_of : List Step → List ℕ
texts_of [] = []
texts_of (step ∷ steps) = text_of step.answer ++ texts_of steps

-- each message has an answer
abbrev pub AreAllAnswered : List Step → Type 0
AreAllAnswered [] = ⊤
AreAllAnswered (step ∷ steps) = ((text : List ℕ) × (step.answer ≡ Some text)) × AreAllAnswered steps

-- a count of steps behind these; behind 2^64 - 1 it goes on at 0
abbrev pub counted_steps : List Step → ℕ → ℕ
counted_steps [] count = count
counted_steps (step ∷ steps) count = counted_steps steps (one_more count)
