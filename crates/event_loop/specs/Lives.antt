-- What a session did with its own stream, from when it was accepted on.
use Rattle.std.specs.Prelude.{◌≡◌, ◌≢◌, ◌⊎◌, ◌<◌, ℕ, List, [], ◌∷◌, ◌++◌, Option, ⊤}
use Rattle.std.specs.Io.KnownBytes.{Appends, Consumes}
use Rattle.http_messages.specs.declared.front.Fault.{Fault}
use Rattle.http_connection.specs.Sessions.{SessionData, IsFinished, ReadsOn}
use Rattle.http_connection.specs.Requests.{HttpRequestData}
use Rattle.http_connection.specs.Steps.{Step, AreSteps}
use Rattle.http_connection.specs.Turns.{Reaches}
use Rattle.event_loop.specs.Log.{LoggedStep, steps_of}
use Rattle.event_loop.specs.Departures.{Departed, LeavesSo}

-- remaining is what a stream still gives, and contents what was written to it
module _ {T : Type 0} (remaining contents : T → Option (List ℕ)) where
  -- bytes were read that nobody answers, only behind the last answer, and nothing else happened
  abbrev pub Lingers : SessionData T → SessionData T → Type 0
  Lingers before after =
      (after.connection ≡ before.connection) × (contents after.wire.inner ≡ contents before.wire.inner) × ReadsOn (remaining before.wire.inner) (remaining after.wire.inner) before.connection

  -- is_new says that a stream stands as it was accepted; refusal is the text of the answer to a message that is refused
  module _ (is_new : T → Type 0) (refusal : Fault → List ℕ) where
    -- from a stream that was accepted to the stream as it is now these bytes were taken off it: those of its messages, and behind the last one some that nobody answers. The steps are those of its messages, in order, and to this stream a first part of the text of their answers was written: the rest is pending
    pub record IsLife (steps : List Step) (session : SessionData T) : Type 0 where
      pub first : T
      pub bytes : List ℕ
      pub dropped : List ℕ
      pub text : List ℕ
      pub sent : List ℕ
      pub accepted : is_new first
      pub taken : Consumes (remaining first) (remaining session.wire.inner) (bytes ++ dropped)
      pub written : Appends (contents first) (contents session.wire.inner) sent
      pub answered : Reaches refusal bytes steps text session.connection.stage session.connection.unread
      pub split : text ≡ sent ++ session.connection.pending
      pub behind : (dropped ≡ []) ⊎ IsFinished session.connection

    -- each session that left has its life by its own steps, and its cause
    abbrev pub AreLives : List LoggedStep → List (Departed T) → Type 0
    AreLives log [] = ⊤
    AreLives log (one ∷ left) = IsLife (steps_of one.number log) one.session × LeavesSo one.cause one.session.connection × AreLives log left

    -- the session made steps, from a state and a clock to these: what was its life before is its life now with these steps behind it
    abbrev pub LivesOn : {S C : Type 0} → (S → ℕ → HttpRequestData → List ℕ → S → Type 0) → (C → ℕ → C → Type 0) → SessionData T → S → C → SessionData T → S → C → Type 0
    LivesOn responds ticks before state clock session after later =
        (own : List Step) × AreSteps responds ticks state clock own after later × ((steps : List Step) → IsLife steps before → IsLife (steps ++ own) session)

-- ---- their numbers

abbrev pub Differs : {T : Type 0} → ℕ → List (Departed T) → Type 0
Differs number [] = ⊤
Differs number (one ∷ left) = (one.number ≢ number) × Differs number left

abbrev pub AreDistinct : {T : Type 0} → List (Departed T) → Type 0
AreDistinct [] = ⊤
AreDistinct (one ∷ left) = Differs one.number left × AreDistinct left

abbrev pub AreBelow : {T : Type 0} → ℕ → List (Departed T) → Type 0
AreBelow next [] = ⊤
AreBelow next (one ∷ left) = (one.number < next) × AreBelow next left

abbrev pub IsIn : {T : Type 0} → ℕ → List (Departed T) → Type 0
IsIn number [] = ⊥
IsIn number (one ∷ left) = (one.number ≡ number) ⊎ IsIn number left
