-- What the clauses of turns come to in the end.
use Rattle.std.proofs.Common.{ℕ, List, [], ◌∷◌, Option, refl, arith}
use Rattle.http_messages.specs.declared.front.Fault.{Fault}
use Rattle.http_connection.specs.Requests.{HttpRequestData}
use Rattle.http_connection.specs.Serving.{AreAnswered}
use Rattle.http_connection.specs.Connections.{ConnectionData, new_connection}
use Rattle.http_connection.specs.Exchanges.{HasGone}
use Rattle.http_connection.specs.Lives.{HasLived}
use Rattle.http_connection.specs.Steps.{Step, AreAllAnswered, AreSteps, messages_of, texts_of}
use Rattle.http_connection.proofs.Chains.{both, exchange_on}

module _ {S C : Type 0} (refusal : Fault → List ℕ) (responds : S → ℕ → HttpRequestData → List ℕ → S → Type 0) (ticks : C → ℕ → C → Type 0) where
  pub answered_alone : (steps : List Step) (s t : S) (c d : C) → AreAllAnswered steps → AreSteps responds ticks s c steps t d → AreAnswered refusal responds ticks s c (messages_of steps) (texts_of steps) t d
  answered_alone [] s t c d all are = (refl, are.0, are.1)
  answered_alone (step ∷ steps) s t c d (first, all) (next, read, tick, done, are) =
      (step.moment, next, read, first.0, texts_of steps, tick, rw first.1 at done, rw first.1 refl, answered_alone steps next t read d all are)

  pub gone_on : (a b z : ConnectionData) (i j k : Option (List ℕ)) (s t v : S) (c d e : C) (f g h : Option (List ℕ)) → HasGone refusal responds ticks a i s c f b j t d g → HasGone refusal responds ticks b j t d g z k v e h → HasGone refusal responds ticks a i s c f z k v e h
  gone_on a b z i j k s t v c d e f g h (one, is) (two, is_again) = (both refusal one two, exchange_on refusal responds ticks a b z i j k s c t d v e f g h one two is is_again)

  pub lived : (b : ConnectionData) (i j : Option (List ℕ)) (s t : S) (c d : C) (f g : Option (List ℕ)) → HasGone refusal responds ticks new_connection i s c f b j t d g → HasLived refusal responds ticks b i s c f j t d g
  lived b i j s t c d f g (exchange, (takes, are, puts, goes, is, count, in_turn, keeps)) = (exchange.bytes, exchange.steps, exchange.text, exchange.sent, takes, are, puts, goes, is, count, keeps (omega arith, (λ lost. refl)))
