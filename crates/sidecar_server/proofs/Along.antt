-- What holds of an answerer at the end of serving held before each of its answers, where no answer makes it hold; and then each answer may be said with it.
use Rattle.std.proofs.Common.{ℕ, suc, List, [], ◌∷◌, Option, Some, None, subst, inl, inr}
use Rattle.service.specs.Asked.{RequestData, read, ResponseData}
use Rattle.event_loop.specs.Log.{all_steps}
use Rattle.http_front.specs.Asked.{Asking, asks, lists, refuses, asked}
use Rattle.http_front.specs.Answered.{AreRead, IsAnswerTo, IsAnswered}
use Rattle.http_pool.specs.Connections.{HasServed}
use Rattle.http_connection.specs.Requests.{HttpRequestData, request_of}
use Rattle.http_connection.specs.Steps.{Step, AreSteps, IsAnswer}

-- Before holds of the answerer before an answer where it holds after it, and then the answer is given so
module _ {S C : Type 0} (names_of : S → List (List ℕ)) (answers stronger : S → ℕ → ℕ → RequestData → ResponseData → S → Type 0) (ticks : C → ℕ → C → Type 0)
    (Holds : S → Type 0)
    (before : (s : S) (place moment : ℕ) (wanted : RequestData) (given : ResponseData) (t : S) → answers s place moment wanted given t → Holds t → Holds s × stronger s place moment wanted given t) where
  reads_before : (s : S) (place moment : ℕ) (given : List ResponseData) (t : S) → AreRead answers s place moment given t → Holds t → Holds s × AreRead stronger s place moment given t
  reads_before s place moment [] t is holds = (subst Holds is holds, is)
  reads_before s place moment (first ∷ given) t (next, one, more) holds =
      let later = reads_before next (suc place) moment given t more holds in
      let here = before s place moment read first next one later.0 in
      (here.0, (next, here.1, later.1))

  one_answer : (s : S) (moment : ℕ) (request : HttpRequestData) (asking : Asking) (text : List ℕ) (t : S) → IsAnswerTo names_of answers s moment request asking text t → Holds t → Holds s × IsAnswerTo names_of stronger s moment request asking text t
  one_answer s moment request (refuses number allow) text t is holds = (subst Holds is.1 holds, is)
  one_answer s moment request (asks place wanted) text t is holds =
      let earlier = before s place moment wanted is.0 t is.1 holds in
      (earlier.0, (is.0, earlier.1, is.2))
  one_answer s moment request lists text t is holds =
      let earlier = reads_before s 0 moment is.0 t is.2 holds in
      (earlier.0, (is.0, is.1, earlier.1, is.3))

  answer : (s : S) (moment : ℕ) (request : HttpRequestData) (text : List ℕ) (t : S) → IsAnswered names_of answers s moment request text t → Holds t → Holds s × IsAnswered names_of stronger s moment request text t
  answer s moment request text t is holds = one_answer s moment request (asked (names_of s) request) text t is holds

  one_step : (s : S) (moment : ℕ) (request : HttpRequestData) (text : Option (List ℕ)) (t : S) → IsAnswer (IsAnswered names_of answers) ticks s moment request text t → Holds t → Holds s × IsAnswer (IsAnswered names_of stronger) ticks s moment request text t
  one_step s moment request (Some text) t is holds = answer s moment request text t is holds
  one_step s moment request None t (inl same) holds = (subst Holds same holds, inl same)
  one_step s moment request None t (inr (lost, is)) holds = let earlier = answer s moment request lost t is holds in (earlier.0, inr (lost, earlier.1))

  steps_before : (s : S) (c : C) (steps : List Step) (t : S) (d : C) → AreSteps (IsAnswered names_of answers) ticks s c steps t d → Holds t → Holds s × AreSteps (IsAnswered names_of stronger) ticks s c steps t d
  steps_before s c [] t d is holds = (subst Holds is.0 holds, is)
  steps_before s c (step ∷ steps) t d (next, told, tick, one, more) holds =
      let later = steps_before next told steps t d more holds in
      let here = one_step s step.moment (request_of step.message) step.answer next one later.0 in
      (here.0, (next, told, tick, here.1, later.1))

  pub worker : (s : S) (c : C) (t : S) (d : C) → HasServed names_of answers ticks s c t d → Holds t → Holds s × HasServed names_of stronger ticks s c t d
  worker s c t d (log, are, each) holds = let earlier = steps_before s c (all_steps log) t d are holds in (earlier.0, (log, earlier.1, each))
