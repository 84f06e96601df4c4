-- What the parts of a turn come to.
use Rattle.std.proofs.Common.{◌≡◌, ◌≢◌, ◌≤◌, ◌<◌, ◌+◌, ℕ, List, [], ◌++◌, length, Option, ap, sym, ◌∙◌, refl, inl, inr, arith}
use Rattle.std.proofs.lemmas.List.{append-nil, length-append}
use Rattle.counted_io.proofs.Pieces.{appends_none}
use Rattle.http_messages.specs.declared.front.Fault.{Fault}
use Rattle.http_connection.specs.Reading.{ReadsMore}
use Rattle.http_connection.specs.Requests.{HttpRequestData}
use Rattle.http_connection.specs.Serving.{IsUnfinished}
use Rattle.http_connection.specs.declared.answering.Answered.{Answered}
use Rattle.http_connection.specs.declared.answering.Answered.TheVariants as answered
use Rattle.http_connection.specs.declared.stage.Stage.TheVariants as stage
use Rattle.http_connection.specs.Answering.{HasAnswered, StandsSo}
use Rattle.http_connection.specs.Connections.{ConnectionData, IsKept}
use Rattle.http_connection.specs.Exchanges.{Exchange, IsProgress, HasGone, HasGoneWithin, HasProgressed, HasRounds}
use Rattle.http_connection.proofs.Chains.{both, consumes_none, exchange_on, goes_still, progress_on, second_none}
use Rattle.http_connection.proofs.Lengths.{unfinished_is_short}
use Rattle.http_connection.proofs.Writing.{IsSent}

length_on : {A : Type 0} (one two : List A) (n k : ℕ) → length one ≤ n → length two ≤ k → length (one ++ two) ≤ n + k
length_on one two n k first second = rw (length-append one two) (omega (arith, first, second))

more_is_some : (x y more : List ℕ) → y ≡ x ++ more → length x < length y → more ≢ []
more_is_some x y more is longer none = omega (arith, longer, let e : length y ≡ length x = ap length (is ∙ ap (λ z. x ++ z) none ∙ append-nil x) in e)

more_is_within : (x y more : List ℕ) (n : ℕ) → y ≡ x ++ more → length y ≤ length x + n → length more ≤ n
more_is_within x y more n is most = omega (arith, most, let e : length y ≡ length x + length more = ap length is ∙ length-append x more in e)

kept_by_read : (a b : ConnectionData) (n : ℕ) → a.stage ≡ stage.Open → b.stage ≡ a.stage → IsUnfinished a.unread → length b.unread ≤ length a.unread + n → n ≤ 2048 → IsKept a → IsKept b
kept_by_read a b n opened same part most few kept =
    let short : length a.unread ≤ 73728 = unfinished_is_short a.unread part in (
      omega (arith, most, few, short),
      (λ lost. absurd (let e : stage.Open ≡ stage.Lost = sym opened ∙ sym same ∙ lost in cc)),
    )

module _ {S C : Type 0} (refusal : Fault → List ℕ) (responds : S → ℕ → HttpRequestData → List ℕ → S → Type 0) (ticks : C → ℕ → C → Type 0) where
  pub rounds_on : (n m k l : ℕ) (p q : Type 0) (a b z : ConnectionData) (i j y : Option (List ℕ)) (s : S) (c : C) (t : S) (d : C) (v : S) (e : C) (f g h : Option (List ℕ))
      → HasRounds refusal responds ticks n m p a i s c f b j t d g → HasRounds refusal responds ticks k l q b j t d g z y v e h → HasRounds refusal responds ticks (n + k) (m + l) q a i s c f z y v e h
  rounds_on n m k l p q a b z i j y s c t d v e f g h (one, is, steps, bytes, progress) (two, is_again, steps_again, bytes_again, progress_again) = (
    both refusal one two,
    exchange_on refusal responds ticks a b z i j y s c t d v e f g h one two is is_again,
    length_on one.steps two.steps n k steps steps_again,
    length_on one.bytes two.bytes m l bytes bytes_again,
    (λ goes. progress_on refusal responds ticks a b z i j s c t d f g one two is (progress_again goes)),
  )

  pub rounds_weaker : (n m k l : ℕ) (p q : Type 0) (a b : ConnectionData) (i j : Option (List ℕ)) (s : S) (c : C) (t : S) (d : C) (f g : Option (List ℕ))
      → HasRounds refusal responds ticks n m p a i s c f b j t d g → n ≤ k → m ≤ l → (q → p) → HasRounds refusal responds ticks k l q a i s c f b j t d g
  rounds_weaker n m k l p q a b i j s c t d f g (exchange, is, steps, bytes, progress) more_steps more_bytes given =
      (exchange, is, omega (arith, steps, more_steps), omega (arith, bytes, more_bytes), (λ goes. progress (given goes)))

  pub rounds_none : (a : ConnectionData) (i : Option (List ℕ)) (s : S) (c : C) (f : Option (List ℕ)) → HasRounds refusal responds ticks 0 0 ⊥ a i s c f a i s c f
  rounds_none a i s c f = (
    record { bytes = []; steps = []; text = []; sent = [] },
    (consumes_none i, (refl, refl), appends_none f, goes_still refusal a.stage a.unread, append-nil a.pending, refl, inl (refl, refl, refl), (λ kept. kept)),
    omega arith,
    omega arith,
    (λ goes. absurd goes),
  )

  kept_by_write : (a b : ConnectionData) (sent : List ℕ) → b.stage ≡ a.stage → b.unread ≡ a.unread → a.pending ≡ sent ++ b.pending → IsKept a → IsKept b
  kept_by_write a b sent same stays is kept = (rw stays kept.0, (λ lost. second_none refusal sent b.pending (sym is ∙ kept.1 (sym same ∙ lost))))

  pub rounds_by_write : (a b : ConnectionData) (i : Option (List ℕ)) (s : S) (c : C) (f g : Option (List ℕ)) → b.stage ≡ a.stage → b.unread ≡ a.unread → b.answers ≡ a.answers → IsSent f g a.pending b.pending
      → HasRounds refusal responds ticks 0 0 ⊥ a i s c f b i s c g
  rounds_by_write a b i s c f g same stays count (sent, puts, is) = (
    record { bytes = []; steps = []; text = []; sent = sent },
    (consumes_none i, (refl, refl), puts, rw (same, stays) (goes_still refusal a.stage a.unread), append-nil a.pending ∙ is, count, inl (refl, refl, refl), kept_by_write a b sent same stays is),
    omega arith,
    omega arith,
    (λ goes. absurd goes),
  )

  -- a round that only writes
  pub rounds_of_write : (q : Type 0) (a b : ConnectionData) (i : Option (List ℕ)) (s : S) (c : C) (f g : Option (List ℕ)) → b.stage ≡ a.stage → b.unread ≡ a.unread → b.answers ≡ a.answers → IsSent f g a.pending b.pending → (q → ⊥)
      → HasRounds refusal responds ticks 1 2048 q a i s c f b i s c g
  rounds_of_write q a b i s c f g same stays count puts stops =
      rounds_weaker 0 0 1 2048 ⊥ q a b i i s c s c f g (rounds_by_write a b i s c f g same stays count puts) (omega arith) (omega arith) stops

  -- a round that first writes
  pub rounds_behind_write : (q : Type 0) (a b z : ConnectionData) (i j : Option (List ℕ)) (s : S) (c : C) (t : S) (d : C) (f g : Option (List ℕ)) → b.stage ≡ a.stage → b.unread ≡ a.unread → b.answers ≡ a.answers → IsSent f g a.pending b.pending
      → HasRounds refusal responds ticks 1 2048 q b i s c g z j t d g → HasRounds refusal responds ticks 1 2048 q a i s c f z j t d g
  rounds_behind_write q a b z i j s c t d f g same stays count puts goes =
      rounds_on 0 0 1 2048 ⊥ q a b z i i j s c s c t d f g g (rounds_by_write a b i s c f g same stays count puts) goes

  progress_by : (a b : ConnectionData) (exchange : Exchange) → a.stage ≡ stage.Open → StandsSo answered.Yes exchange.steps b → IsProgress a exchange b
  progress_by a b exchange opened (inl some) = inr (inl some)
  progress_by a b exchange opened (inr closes) = inr (inr (inr (opened, closes)))

  pub rounds_by_answer : (a b : ConnectionData) (result : Answered) (i : Option (List ℕ)) (s : S) (c : C) (t : S) (d : C) (f : Option (List ℕ))
      → a.stage ≡ stage.Open → a.pending ≡ [] → HasAnswered refusal responds ticks result a s c b t d → HasRounds refusal responds ticks 1 0 (result ≡ answered.Yes) a i s c f b i t d f
  rounds_by_answer a b result i s c t d f opened none (steps, are, few, goes, count, last, keeps, stands) = (
    record { bytes = []; steps = steps; text = b.pending; sent = [] },
    (consumes_none i, are, appends_none f, rw opened goes, rw none refl, count, inr ([], b.pending, rw none refl, ([], refl), last), keeps),
    few,
    omega arith,
    (λ yes. progress_by a b (record { bytes = []; steps = steps; text = b.pending; sent = [] }) opened (rw yes at stands)),
  )

  pub rounds_by_read : (a b : ConnectionData) (n : ℕ) (i j : Option (List ℕ)) (s : S) (c : C) (f : Option (List ℕ))
      → a.stage ≡ stage.Open → a.pending ≡ [] → IsUnfinished a.unread → b.stage ≡ a.stage → b.pending ≡ a.pending → b.answers ≡ a.answers → ReadsMore i j a.unread b.unread → length b.unread ≤ length a.unread + n → n ≤ 2048
      → HasRounds refusal responds ticks 0 n (length a.unread < length b.unread) a i s c f b j s c f
  rounds_by_read a b n i j s c f opened none part same stays count (more, takes, is) most few = (
    record { bytes = more; steps = []; text = []; sent = [] },
    (
      takes,
      (refl, refl),
      appends_none f,
      rw (same, opened) (sym is, tt, refl),
      append-nil a.pending ∙ sym stays,
      count,
      inr ([], [], append-nil a.pending ∙ none, ([], refl), inl refl),
      kept_by_read a b n opened same part most few,
    ),
    omega arith,
    more_is_within a.unread b.unread more n is most,
    (λ longer. inl (more_is_some a.unread b.unread more is longer)),
  )

  pub gone_by : (n m : ℕ) (p : Type 0) (a b : ConnectionData) (i j : Option (List ℕ)) (s : S) (c : C) (t : S) (d : C) (f g : Option (List ℕ)) → HasRounds refusal responds ticks n m p a i s c f b j t d g → HasGone refusal responds ticks a i s c f b j t d g
  gone_by n m p a b i j s c t d f g (exchange, is, steps, bytes, progress) = (exchange, is)

  pub within_by : (n m : ℕ) (p : Type 0) (a b : ConnectionData) (i j : Option (List ℕ)) (s : S) (c : C) (t : S) (d : C) (f g : Option (List ℕ)) → HasRounds refusal responds ticks n m p a i s c f b j t d g → HasGoneWithin refusal responds ticks n m a i s c f b j t d g
  within_by n m p a b i j s c t d f g (exchange, is, steps, bytes, progress) = (exchange, is, steps, bytes)

  pub progressed_by : (n m : ℕ) (p : Type 0) (a b : ConnectionData) (i j : Option (List ℕ)) (s : S) (c : C) (t : S) (d : C) (f g : Option (List ℕ)) → HasRounds refusal responds ticks n m p a i s c f b j t d g → p → HasProgressed refusal responds ticks a i s c f b j t d g
  progressed_by n m p a b i j s c t d f g (exchange, is, steps, bytes, progress) goes = (exchange, is, progress goes)
