-- What a session does with its own stream.
use Rattle.std.proofs.Common.{◌≡◌, ◌⊎◌, inl, inr, ℕ, List, [], ◌++◌, Option, ap, sym, ◌∙◌, refl, subst, append_assoc}
use Rattle.std.proofs.lemmas.List.{append-nil}
use Rattle.std.specs.Io.KnownBytes.{Appends, Consumes}
use Rattle.counted_io.proofs.Pieces.{appends_more, appends_none}
use Rattle.counted_io.specs.Wires.{CountsOf}
use Rattle.http_messages.specs.declared.front.Fault.{Fault}
use Rattle.http_connection.proofs.Chains.{consumes_more}
use Rattle.http_connection.specs.Requests.{HttpRequestData}
use Rattle.http_connection.specs.declared.ended.Ended.{Ended}
use Rattle.http_connection.specs.declared.ended.Ended.TheVariants as end
use Rattle.http_connection.specs.declared.stage.Stage.TheVariants as stage
use Rattle.http_connection.specs.declared.turned.Turned.TheVariants as turned
use Rattle.http_connection.specs.Connections.{ConnectionData, new_connection}
use Rattle.http_connection.specs.Ends.{IsTurned}
use Rattle.http_connection.specs.Exchanges.{Exchange, IsExchange}
use Rattle.http_connection.specs.Sessions.{SessionData, IsFinished}
use Rattle.http_connection.specs.Steps.{Step}
use Rattle.http_connection.specs.Turns.{Goes}
use Rattle.http_connection.proofs.Chains.{consumes_none, goes_on, second_none}
use Rattle.event_loop.specs.declared.departing.Cause.TheVariants as cause
use Rattle.event_loop.specs.declared.opened.Served.{Served}
use Rattle.event_loop.specs.declared.opened.Served.TheVariants as served
use Rattle.event_loop.specs.Departures.{LeavesSo, ClosesAs}
use Rattle.event_loop.specs.Lives.{IsLife, Lingers}

-- ---- lists of bytes

both_none : (xs ys : List ℕ) → xs ≡ [] → ys ≡ [] → xs ++ ys ≡ []
both_none xs ys bare none = ap (λ z. z ++ ys) bare ∙ none

more_in_front : (bytes dropped more : List ℕ) → dropped ≡ [] → (bytes ++ dropped) ++ more ≡ (bytes ++ more) ++ []
more_in_front bytes dropped more none = ap (λ z. (bytes ++ z) ++ more) none ∙ ap (λ z. z ++ more) (append-nil bytes) ∙ sym (append-nil (bytes ++ more))

none_in_front : (bytes dropped more : List ℕ) → more ≡ [] → (bytes ++ dropped) ++ more ≡ (bytes ++ more) ++ dropped
none_in_front bytes dropped more none = ap (λ z. (bytes ++ dropped) ++ z) none ∙ append-nil (bytes ++ dropped) ∙ sym (ap (λ z. z ++ dropped) (ap (λ z. bytes ++ z) none ∙ append-nil bytes))

-- ---- lingering

module _ {T : Type 0} (remaining contents : T → Option (List ℕ)) where
  pub lingers_none : (a : SessionData T) → Lingers remaining contents a a
  lingers_none a = (refl, refl, ([], consumes_none (remaining a.wire.inner), inl refl))

  pub lingers_on : (a b c : SessionData T) → Lingers remaining contents a b → Lingers remaining contents b c → Lingers remaining contents a c
  lingers_on a b c (same, held, (one, takes, first)) (again, holds, (two, more, next)) = (
    again ∙ same,
    holds ∙ held,
    (one ++ two, consumes_more (remaining a.wire.inner) (remaining b.wire.inner) (remaining c.wire.inner) one two takes more, by_both first next),
  ) where
    by_both : ((one ≡ []) ⊎ IsFinished a.connection) → ((two ≡ []) ⊎ IsFinished b.connection) → ((one ++ two) ≡ []) ⊎ IsFinished a.connection
    by_both (inr done) either = inr done
    by_both (inl none) (inl bare) = inl (both_none one two none bare)
    by_both (inl none) (inr done) = inr (subst (λ z. IsFinished z) same done)

  module _ (is_new : T → Type 0) (refusal : Fault → List ℕ) where
    pub life_new : (session : SessionData T) → is_new session.wire.inner → session.connection ≡ new_connection → IsLife remaining contents is_new refusal [] session
    life_new session new same = record {
      first = session.wire.inner;
      bytes = [];
      dropped = [];
      text = [];
      sent = [];
      accepted = new;
      taken = consumes_none (remaining session.wire.inner);
      written = appends_none (contents session.wire.inner);
      answered = rw same (refl, tt, refl);
      split = rw same refl;
      behind = inl refl;
    }

    -- reading on
    pub life_linger : (steps : List Step) (a b : SessionData T) → IsLife remaining contents is_new refusal steps a → Lingers remaining contents a b → IsLife remaining contents is_new refusal steps b
    life_linger steps a b life (same, held, (more, takes, ends)) = record {
      first = life.first;
      bytes = life.bytes;
      dropped = life.dropped ++ more;
      text = life.text;
      sent = life.sent;
      accepted = life.accepted;
      taken = subst (λ z. Consumes (remaining life.first) (remaining b.wire.inner) z) (append_assoc life.bytes life.dropped more) (consumes_more (remaining life.first) (remaining a.wire.inner) (remaining b.wire.inner) (life.bytes ++ life.dropped) more life.taken takes);
      written = subst (λ z. Appends (contents life.first) z life.sent) (sym held) life.written;
      answered = rw same life.answered;
      split = rw same life.split;
      behind = by_both life.behind ends;
    } where
      by_both : ((life.dropped ≡ []) ⊎ IsFinished a.connection) → ((more ≡ []) ⊎ IsFinished a.connection) → ((life.dropped ++ more) ≡ []) ⊎ IsFinished b.connection
      by_both (inr done) either = inr (subst (λ z. IsFinished z) (sym same) done)
      by_both (inl none) (inl bare) = inl (both_none life.dropped more none bare)
      by_both (inl none) (inr done) = inr (subst (λ z. IsFinished z) (sym same) done)

    goes_last : (a b : ConnectionData) (bytes : List ℕ) (steps : List Step) (text : List ℕ) → a.stage ≡ stage.Last → Goes refusal a.stage a.unread bytes steps text b.stage b.unread
        → (bytes ≡ []) × (steps ≡ []) × (text ≡ []) × (b.stage ≡ stage.Last) × (b.unread ≡ a.unread)
    goes_last a b bytes steps text last goes = rw last at goes

    -- a turn
    module _ {S C : Type 0} (responds : S → ℕ → HttpRequestData → List ℕ → S → Type 0) (ticks : C → ℕ → C → Type 0) where
      pub life_turn : (steps : List Step) (a b : SessionData T) (s : S) (c : C) (t : S) (d : C) (e : Exchange) → IsLife remaining contents is_new refusal steps a
          → IsExchange refusal responds ticks a.connection (remaining a.wire.inner) s c (contents a.wire.inner) b.connection (remaining b.wire.inner) t d (contents b.wire.inner) e
          → IsLife remaining contents is_new refusal (steps ++ e.steps) b
      life_turn steps a b s c t d e life (takes, are, puts, goes, split, count, turn, kept) = by_behind life.behind where
        took : Consumes (remaining life.first) (remaining b.wire.inner) ((life.bytes ++ life.dropped) ++ e.bytes)
        took = consumes_more (remaining life.first) (remaining a.wire.inner) (remaining b.wire.inner) (life.bytes ++ life.dropped) e.bytes life.taken takes

        life_by : (dropped : List ℕ) → (life.bytes ++ life.dropped) ++ e.bytes ≡ (life.bytes ++ e.bytes) ++ dropped → (dropped ≡ []) ⊎ IsFinished b.connection → IsLife remaining contents is_new refusal (steps ++ e.steps) b
        life_by dropped same ends = record {
          first = life.first;
          bytes = life.bytes ++ e.bytes;
          dropped = dropped;
          text = life.text ++ e.text;
          sent = life.sent ++ e.sent;
          accepted = life.accepted;
          taken = subst (λ z. Consumes (remaining life.first) (remaining b.wire.inner) z) same took;
          written = appends_more (contents life.first) (contents a.wire.inner) (contents b.wire.inner) life.sent e.sent life.written puts;
          answered = goes_on refusal stage.Open a.connection.stage b.connection.stage [] a.connection.unread b.connection.unread life.bytes e.bytes steps e.steps life.text e.text life.answered goes;
          split = ap (λ z. z ++ e.text) life.split ∙ append_assoc life.sent a.connection.pending e.text ∙ ap (λ z. life.sent ++ z) split ∙ sym (append_assoc life.sent e.sent b.connection.pending);
          behind = ends;
        }

        by_behind : ((life.dropped ≡ []) ⊎ IsFinished a.connection) → IsLife remaining contents is_new refusal (steps ++ e.steps) b
        by_behind (inl none) = life_by [] (more_in_front life.bytes life.dropped e.bytes none) (inl refl)
        by_behind (inr (last, nothing)) =
            let still = goes_last a.connection b.connection e.bytes e.steps e.text last goes in
            life_by life.dropped (none_in_front life.bytes life.dropped e.bytes still.0) (inr (still.3, second_none refusal e.sent b.connection.pending (sym split ∙ both_none a.connection.pending e.text nothing still.2)))

-- ---- causes

-- how its turn ended is why it may leave
pub leaves_by : (end : Ended) (connection : ConnectionData) (has : Option (List ℕ)) (reader reader_after writer writer_after : CountsOf)
    → IsTurned (turned.Ended end) connection has reader reader_after writer writer_after → LeavesSo (cause.Ended end) connection
leaves_by end.Closed connection has reader reader_after writer writer_after (((opened, none), empty, ended, counts), nothing) = (opened, empty, none)
leaves_by end.Truncated connection has reader reader_after writer writer_after (((opened, none), part, ended, counts), nothing) = (opened, part, none)
leaves_by end.Finished connection has reader reader_after writer writer_after (last, none, still, nothing) = (last, none)
leaves_by end.ReadFailed connection has reader reader_after writer writer_after (((opened, none), part, counts), nothing) = (opened, part, none)
leaves_by end.WriteFailed connection has reader reader_after writer writer_after (some, still, counts) = some
leaves_by end.OutOfMemory connection has reader reader_after writer writer_after ((apart, none, still), nothing) = (apart, none)

-- what closes for one end closes for another one where that follows
pub closes_on : (served : Served) (P Q : Ended → Type 0) → ((end : Ended) → P end → Q end) → ClosesAs served P → ClosesAs served Q
closes_on (served.Closed end) P Q follows is = follows end is
closes_on served.Waits P Q follows is = tt
closes_on served.GoesOn P Q follows is = tt
