-- What becomes of services and of a clock while connections are served, side by side.
use Rattle.std.specs.Prelude.{ℕ, List}
use Rattle.service.specs.Asked.{RequestData, ResponseData}
use Rattle.http_front.specs.Answered.{fault_text, IsAnswered}
use Rattle.event_loop.specs.Log as log

-- names_of tells the names of a state's services; answers relates a state, a service's place, a moment and what is asked to the response and the state after it; ticks relates a clock's state to the moment that it reads and the state after it
module _ {S C : Type 0} (names_of : S → List (List ℕ)) (answers : S → ℕ → ℕ → RequestData → ResponseData → S → Type 0) (ticks : C → ℕ → C → Type 0) where
  -- some connections were served by an answerer: the answers to all their messages are one chain of states, each at the moment of one reading of the clock, and those of each connection are the answers to its own messages, in order
  abbrev pub HasServed : S → C → S → C → Type 0
  HasServed state clock after later = log.HasServed fault_text (IsAnswered names_of answers) ticks state clock after later
