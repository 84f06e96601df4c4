-- Sessions that left.
use Rattle.std.specs.Prelude.{◌≡◌, ℕ, List, [], ◌∷◌, ◌++◌, Option, Some, None, ⊤}
use Rattle.http_connection.specs.declared.ended.Ended.{Ended}
use Rattle.http_connection.specs.Connections.{ConnectionData}
use Rattle.http_connection.specs.Phases.{IsPhase}
use Rattle.http_connection.specs.Sessions.{SessionData}
use Rattle.event_loop.specs.declared.departing.Cause.{Cause}
use Rattle.event_loop.specs.declared.departing.Cause.TheVariants as cause
use Rattle.event_loop.specs.declared.opened.Served.{Served}
use Rattle.event_loop.specs.declared.opened.Served.TheVariants as served
use Rattle.event_loop.specs.Log.{EndsSo}

-- a session that left, as it stood then, with its number and why it left
pub record Departed (T : Type 0) : Type 0 where
  pub number : ℕ
  pub session : SessionData T
  pub cause : Cause

-- how a connection stands that leaves for this cause: as its last turn left it, or as what it was about says
abbrev pub LeavesSo : Cause → ConnectionData → Type 0
LeavesSo (cause.Ended end) connection = EndsSo (Some end) connection.stage connection.unread connection.pending
LeavesSo (cause.Closed phase) connection = IsPhase phase connection

-- what is closed behind a turn is closed for an end of which P is true
abbrev pub ClosesAs : Served → (Ended → Type 0) → Type 0
ClosesAs (served.Closed end) P = P end
ClosesAs other P = ⊤

-- each of these left as its last turn ended it
abbrev pub AreEnded : {T : Type 0} → List (Departed T) → Type 0
AreEnded [] = ⊤
AreEnded (one ∷ left) = ((end : Ended) × (one.cause ≡ cause.Ended end)) × AreEnded left

-- these came to a list, the last one first, where it is known
abbrev pub Records : {A : Type 0} → Option (List A) → Option (List A) → List A → Type 0
Records None new more = ⊤
Records (Some old) None more = ⊥
Records (Some old) (Some new) more = new ≡ more ++ old
