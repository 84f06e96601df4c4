-- What a hub of sessions keeps while they are served.
use Rattle.std.specs.Prelude.{◌≡◌, ◌⊎◌, ◌<◌, ◌≤◌, ℕ, List, [], ◌∷◌, ◌++◌, Option, Some, None}
use Rattle.slab.specs.Slab.{Slab, Updates, get}
use Rattle.http_messages.specs.declared.front.Fault.{Fault}
use Rattle.http_connection.specs.Requests.{HttpRequestData}
use Rattle.http_connection.specs.Steps.{Step, AreSteps}
use Rattle.http_connection.specs.declared.ended.Ended.{Ended}
use Rattle.event_loop.specs.declared.departing.Cause.TheVariants as cause
use Rattle.event_loop.specs.declared.opened.Opened.{Opened}
use Rattle.event_loop.specs.declared.hub.Hub.{Hub}
use Rattle.event_loop.specs.Departures.{Departed, LeavesSo, Records, AreEnded}
use Rattle.event_loop.specs.Lives.{IsLife, AreLives, Differs, AreDistinct, AreBelow, IsIn}
use Rattle.event_loop.specs.Log.{LoggedStep, all_steps, steps_of, tag}

-- a session of this number is open
abbrev pub IsAt : {T : Type 0} → Slab (Opened T) → ℕ → Type 0
IsAt slab number = (key : ℕ) × (one : Opened _) × (get slab key ≡ Some one) × (one.number ≡ number)

-- the session under a key left, as its turn ended it
pub record HasLeft {T : Type 0} (key : ℕ) (end : Ended) (one : Opened T) (old : Hub T) (was : Option (List (Departed T))) (new : Hub T) (is : Option (List (Departed T))) : Type 0 where
  pub next : new.next ≡ old.next
  pub updates : Updates old.connections new.connections key None
  pub leaves : LeavesSo (cause.Ended end) one.session.connection
  pub recorded : Records was is (record { number = one.number; session = one.session; cause = cause.Ended end } ∷ [])

module _ {T : Type 0} (remaining contents : T → Option (List ℕ)) (is_new : T → Type 0) where
  -- the log has the steps of each session that is open or left, and of no other. Their numbers differ, and are below the next one
  pub record IsHub (refusal : Fault → List ℕ) (log : List LoggedStep) (left : List (Departed T)) (slab : Slab (Opened T)) (next : ℕ) : Type 0 where
    pub stands : (key : ℕ) (one : Opened T) → get slab key ≡ Some one → IsLife remaining contents is_new refusal (steps_of one.number log) one.session
    pub numbered : (key : ℕ) (one : Opened T) → get slab key ≡ Some one → one.number < next
    pub apart : (key other : ℕ) (one two : Opened T) → get slab key ≡ Some one → get slab other ≡ Some two → one.number ≡ two.number → key ≡ other
    pub absent : (key : ℕ) (one : Opened T) → get slab key ≡ Some one → Differs one.number left
    pub fresh : (number : ℕ) → next ≤ number → steps_of number log ≡ []
    pub lives : AreLives remaining contents is_new refusal log left
    pub distinct : AreDistinct left
    pub below : AreBelow next left
    pub owned : (number : ℕ) → (steps_of number log ≡ []) ⊎ (IsAt slab number ⊎ IsIn number left)

  -- some sessions came in or left, and nothing was answered
  abbrev pub HasTended : Hub T → Option (List (Departed T)) → Hub T → Option (List (Departed T)) → Type 0
  HasTended old was new is =
      (more : List (Departed T)) × Records was is more
      × ((refusal : Fault → List ℕ) (log : List LoggedStep) (left : List (Departed T)) → IsHub refusal log left old.connections old.next → IsHub refusal log (more ++ left) new.connections new.next)

  -- refusal is the text of the answer to a message that is refused; responds relates a state, a moment and a request to the text of the answer and the state after it; ticks relates a clock's state to the moment that it reads and the state after it
  module _ {S C : Type 0} (refusal : Fault → List ℕ) (responds : S → ℕ → HttpRequestData → List ℕ → S → Type 0) (ticks : C → ℕ → C → Type 0) where
    -- steps were made for the messages of one session, and it may have left, as its turn ended it and for nothing else
    abbrev pub HasTurned : Hub T → S → C → Option (List (Departed T)) → Hub T → S → C → Option (List (Departed T)) → Type 0
    HasTurned old state clock was new after later is =
        (number : ℕ) × (own : List Step) × (more : List (Departed T)) × AreSteps responds ticks state clock own after later × Records was is more × AreEnded more
        × ((log : List LoggedStep) (left : List (Departed T)) → IsHub refusal log left old.connections old.next → IsHub refusal (log ++ tag number own) (more ++ left) new.connections new.next)

    -- from a state, a clock and those who had left on, sessions were served up to these
    abbrev pub Keeps : S → C → Option (List (Departed T)) → Hub T → S → C → Option (List (Departed T)) → Type 0
    Keeps state clock was hub after later is =
        (log : List LoggedStep) × (left : List (Departed T)) × AreSteps responds ticks state clock (all_steps log) after later × Records was is left
        × IsHub refusal log left hub.connections hub.next

    -- some sessions were served side by side, and all have left. All their steps are one chain, from the first state and clock to the last, each at the moment of one reading of the clock. Each of them did with its own stream what its own steps say, and each step is of one of them
    abbrev pub HaveLived : S → C → Option (List (Departed T)) → S → C → Option (List (Departed T)) → Type 0
    HaveLived state clock was after later is =
        (log : List LoggedStep) × (left : List (Departed T)) × AreSteps responds ticks state clock (all_steps log) after later × Records was is left
        × AreLives remaining contents is_new refusal log left × AreDistinct left
        × ((number : ℕ) → (steps_of number log ≡ []) ⊎ IsIn number left)
