-- What becomes of workers, each of which serves connections beside the others.
use Rattle.std.specs.Prelude.{◌≡◌, ℕ, List, [], ◌∷◌, None, IfSome, ⊤}
use Rattle.std.specs.List.{AllByRecursion}
use Rattle.service.specs.Asked.{RequestData, ResponseData}
use Rattle.http_pool.specs.declared.workers.Worker.{Worker}
use Rattle.event_loop.specs.Failures.{IsOfListener}
use Rattle.event_loop.specs.Numbers.{ends}
use Rattle.http_pool.specs.Connections.{HasServed}

-- how many workers serve at most
abbrev pub most_workers : ℕ
most_workers = 64

-- a worker met a failure of the listener, or ended by itself
abbrev pub HasEnded : {S C : Type 0} → ℕ → Worker S C → Type 0
HasEnded connections worker = worker.failure ≡ None → ends connections

-- each of them
abbrev pub HaveEnded : {S C : Type 0} → ℕ → List (Worker S C) → Type 0
HaveEnded connections [] = ⊤
HaveEnded connections (worker ∷ workers) = HasEnded connections worker × HaveEnded connections workers

-- where a worker has a failure, it has the number of an error that lies in the listener
abbrev pub FailsByListener : {S C : Type 0} → Worker S C → Type 0
FailsByListener worker = IfSome worker.failure IsOfListener

-- each of them
abbrev pub FailByListener : {S C : Type 0} → List (Worker S C) → Type 0
FailByListener workers = AllByRecursion FailsByListener workers

-- names_of tells the names of an answerer's services; answers relates an answerer, a service's place, a moment and what is asked to the response and the answerer after it; ticks relates a clock to the moment that it reads and the clock after it
module _ {S C : Type 0} (names_of : S → List (List ℕ)) (answers : S → ℕ → ℕ → RequestData → ResponseData → S → Type 0) (ticks : C → ℕ → C → Type 0) where
  -- some connections were served by a worker
  abbrev pub HasWorked : Worker S C → Worker S C → Type 0
  HasWorked worker after = HasServed names_of answers ticks worker.answerer worker.clock after.answerer after.clock

  -- worker by worker: as many come back, in their order
  abbrev pub HaveWorked : List (Worker S C) → List (Worker S C) → Type 0
  HaveWorked [] [] = ⊤
  HaveWorked (worker ∷ workers) (after ∷ later) = HasWorked worker after × HaveWorked workers later
  HaveWorked workers other = ⊥
