-- Exchanges one after another.
use Rattle.std.proofs.Common.{◌≡◌, ℕ, List, [], ◌∷◌, ◌++◌, Option, Some, None, ap, sym, ◌∙◌, refl, append_assoc, subst, inl, inr}
use Rattle.std.proofs.lemmas.List.{append-nil}
use Rattle.std.specs.Io.KnownBytes.{Consumes}
use Rattle.counted_io.specs.Counting.{one_more}
use Rattle.counted_io.proofs.Pieces.{appends_more}
use Rattle.http_messages.specs.declared.front.Fault.{Fault}
use Rattle.http_messages.specs.Messages.{Message, AreMessages, Ending, refused, final, closed, truncated}
use Rattle.http_messages.proofs.Longer.{messages_stay}
use Rattle.http_connection.specs.Requests.{HttpRequestData}
use Rattle.http_connection.specs.declared.stage.Stage.{Stage}
use Rattle.http_connection.specs.declared.stage.Stage.TheVariants as stage
use Rattle.http_connection.specs.Connections.{ConnectionData}
use Rattle.http_connection.specs.Exchanges.{Exchange, IsExchange, IsInTurn, IsLastText, IsProgress}
use Rattle.http_connection.specs.Steps.{Step, AreSteps, AreAllAnswered, counted_steps, messages_of, texts_of, text_of}
use Rattle.http_connection.specs.Turns.{AreToEnd, Reaches, Goes}

pub consumes_none : (v : Option (List ℕ)) → Consumes v v []
consumes_none None = tt
consumes_none (Some xs) = refl

pub consumes_more : (a b c : Option (List ℕ)) (x y : List ℕ) → Consumes a b x → Consumes b c y → Consumes a c (x ++ y)
consumes_more None b c x y h k = tt
consumes_more (Some p) None c x y h k = absurd h
consumes_more (Some p) (Some q) None x y h k = absurd k
consumes_more (Some p) (Some q) (Some r) x y h k = h ∙ ap (λ z. x ++ z) k ∙ sym (append_assoc x y r)

-- ---- lists of steps

messages_both : (one two : List Step) → messages_of (one ++ two) ≡ messages_of one ++ messages_of two
messages_both [] two = refl
messages_both (step ∷ one) two = ap (λ z. step.message ∷ z) (messages_both one two)

texts_both : (one two : List Step) → texts_of (one ++ two) ≡ texts_of one ++ texts_of two
texts_both [] two = refl
texts_both (step ∷ one) two = ap (λ z. text_of step.answer ++ z) (texts_both one two) ∙ sym (append_assoc (text_of step.answer) (texts_of one) (texts_of two))

answered_both : (one two : List Step) → AreAllAnswered one → AreAllAnswered two → AreAllAnswered (one ++ two)
answered_both [] two h k = k
answered_both (step ∷ one) two h k = (h.0, answered_both one two h.1 k)

messages_behind : (one two : List Message) (bytes between rest : List ℕ) → AreMessages bytes one between → AreMessages between two rest → AreMessages bytes (one ++ two) rest
messages_behind [] two bytes between rest same more = subst (λ z. AreMessages z two rest) (sym same) more
messages_behind (message ∷ one) two bytes between rest (behind, begins, goes_on, are) more = (behind, begins, goes_on, messages_behind one two behind between rest are more)

pub steps_behind : {S C : Type 0} (responds : S → ℕ → HttpRequestData → List ℕ → S → Type 0) (ticks : C → ℕ → C → Type 0) (one two : List Step) (s : S) (c : C) (t : S) (d : C) (u : S) (e : C)
    → AreSteps responds ticks s c one t d → AreSteps responds ticks t d two u e → AreSteps responds ticks s c (one ++ two) u e
steps_behind responds ticks [] two s c t d u e same more = subst (λ z. AreSteps responds ticks z c two u e) same.0 (subst (λ z. AreSteps responds ticks t z two u e) same.1 more)
steps_behind responds ticks (step ∷ one) two s c t d u e (next, read, tick, done, are) more = (next, read, tick, done, steps_behind responds ticks one two next read t d u e are more)

counted_both : (one two : List Step) (count : ℕ) → counted_steps (one ++ two) count ≡ counted_steps two (counted_steps one count)
counted_both [] two count = refl
counted_both (step ∷ one) two count = counted_both one two (one_more count)

-- ---- one connection

module _ (refusal : Fault → List ℕ) where
  to_end_behind : (ending : Ending) (one : List Step) (messages : List Message) (two : List Step) (text : List ℕ) → AreToEnd refusal messages ending two text → AreToEnd refusal (messages_of one ++ messages) ending (one ++ two) (texts_of one ++ text)
  to_end_behind (refused fault) one messages two text h = (
    messages_both one two ∙ ap (λ z. messages_of one ++ z) h.0,
    ap (λ z. texts_of one ++ z) h.1 ∙ sym (append_assoc (texts_of one) (texts_of two) (refusal fault)) ∙ ap (λ z. z ++ refusal fault) (sym (texts_both one two)),
  )
  to_end_behind (final message) one messages two text h = (
    messages_both one two ∙ ap (λ z. messages_of one ++ z) h.0 ∙ sym (append_assoc (messages_of one) messages (message ∷ [])),
    ap (λ z. texts_of one ++ z) h.1 ∙ sym (texts_both one two),
  )
  to_end_behind closed one messages two text h = absurd h
  to_end_behind truncated one messages two text h = absurd h

  reaches_behind : (reached : Stage) (bytes unread more : List ℕ) (one two : List Step) (text left : List ℕ) → AreMessages bytes (messages_of one) unread → AreAllAnswered one
      → Reaches refusal (unread ++ more) two text reached left → Reaches refusal (bytes ++ more) (one ++ two) (texts_of one ++ text) reached left
  reaches_behind stage.Open bytes unread more one two text left are answered (are_more, answered_more, is) = (
    rw (messages_both one two) (messages_behind (messages_of one) (messages_of two) (bytes ++ more) (unread ++ more) left (messages_stay (messages_of one) bytes unread more are) are_more),
    answered_both one two answered answered_more,
    ap (λ z. texts_of one ++ z) is ∙ sym (texts_both one two),
  )
  reaches_behind stage.Last bytes unread more one two text left are answered (messages, ending, (rest, are_more, ends), answered_more, to_end) = (
    messages_of one ++ messages,
    ending,
    (rest, messages_behind (messages_of one) messages (bytes ++ more) (unread ++ more) rest (messages_stay (messages_of one) bytes unread more are) are_more, ends),
    answered_both one two answered answered_more,
    to_end_behind ending one messages two text to_end,
  )
  reaches_behind stage.Lost bytes unread more one two text left are answered (earlier, lost, rest, behind, split, are_more, begins, answered_more, none, is) = (
    one ++ earlier,
    lost,
    rest,
    behind,
    ap (λ z. one ++ z) split ∙ sym (append_assoc one earlier (lost ∷ [])),
    rw (messages_both one earlier) (messages_behind (messages_of one) (messages_of earlier) (bytes ++ more) (unread ++ more) rest (messages_stay (messages_of one) bytes unread more are) are_more),
    begins,
    answered_both one earlier answered answered_more,
    none,
    ap (λ z. texts_of one ++ z) is ∙ sym (texts_both one earlier),
  )

  pub goes_still : (a : Stage) (unread : List ℕ) → Goes refusal a unread [] [] [] a unread
  goes_still stage.Open unread = (append-nil unread, tt, refl)
  goes_still stage.Last unread = (refl, refl, refl, refl, refl)
  goes_still stage.Lost unread = (refl, refl, refl, refl, refl)

  -- the chain law
  pub goes_on : (a b c : Stage) (unread between left more again : List ℕ) (one two : List Step) (text next : List ℕ)
      → Goes refusal a unread more one text b between → Goes refusal b between again two next c left → Goes refusal a unread (more ++ again) (one ++ two) (text ++ next) c left
  goes_on stage.Open stage.Open c unread between left more again one two text next (are, answered, is) k =
      rw (is, sym (append_assoc unread more again)) (reaches_behind c (unread ++ more) between again one two next left are answered k)
  goes_on stage.Open stage.Last c unread between left more again one two text next h k = rw (k.0, k.1, k.2, k.3, append-nil more, append-nil one, append-nil text) h
  goes_on stage.Open stage.Lost c unread between left more again one two text next h k = rw (k.0, k.1, k.2, k.3, append-nil more, append-nil one, append-nil text) h
  goes_on stage.Last b c unread between left more again one two text next h k =
      let l = rw h.3 at k in
      rw (h.0, h.1, h.2) (l.0, l.1, l.2, l.3, l.4 ∙ h.4)
  goes_on stage.Lost b c unread between left more again one two text next h k =
      let l = rw h.3 at k in
      rw (h.0, h.1, h.2) (l.0, l.1, l.2, l.3, l.4 ∙ h.4)

  goes_open : (a b : Stage) (unread more : List ℕ) (steps : List Step) (text left : List ℕ) → Goes refusal a unread more steps text b left → b ≡ stage.Open → a ≡ stage.Open
  goes_open stage.Open b unread more steps text left h opened = refl
  goes_open stage.Last b unread more steps text left h opened = sym h.3 ∙ opened
  goes_open stage.Lost b unread more steps text left h opened = sym h.3 ∙ opened

  -- ---- in turn

  -- the second exchange behind the first
  abbrev pub both : Exchange → Exchange → Exchange
  both one two = record { bytes = one.bytes ++ two.bytes; steps = one.steps ++ two.steps; text = one.text ++ two.text; sent = one.sent ++ two.sent }

  none_both : {A : Type 0} (one two : List A) → one ≡ [] → two ≡ [] → one ++ two ≡ []
  none_both one two first second = rw first second

  last_behind : (one two : List Step) (last : List ℕ) → IsLastText refusal two last → IsLastText refusal (one ++ two) last
  last_behind one two last (inl none) = inl none
  last_behind one two last (inr (inl (earlier, step, split, is))) = inr (inl (one ++ earlier, step, ap (λ z. one ++ z) split ∙ sym (append_assoc one earlier (step ∷ [])), is))
  last_behind one two last (inr (inr refuses)) = inr (inr refuses)

  in_turn_on : (waiting between : List ℕ) (one two : Exchange) → IsInTurn refusal waiting one → IsInTurn refusal between two → waiting ++ one.text ≡ one.sent ++ between → IsInTurn refusal waiting (both one two)
  in_turn_on waiting between one two first (inr (before, last, is, (rest, begins), lasts)) split = inr (
    one.sent ++ before,
    last,
    sym (append_assoc waiting one.text two.text) ∙ ap (λ z. z ++ two.text) split ∙ append_assoc one.sent between two.text ∙ ap (λ z. one.sent ++ z) is ∙ sym (append_assoc one.sent before last),
    (rest, ap (λ z. one.sent ++ z) begins ∙ sym (append_assoc one.sent before rest)),
    last_behind one.steps two.steps last lasts,
  )
  in_turn_on waiting between one two (inl (bytes, steps, text)) (inl (more, again, next)) split =
      inl (none_both one.bytes two.bytes bytes more, none_both one.steps two.steps steps again, none_both one.text two.text text next)
  in_turn_on waiting between one two (inr (before, last, is, (rest, begins), lasts)) (inl (more, again, next)) split = inr (
    before,
    last,
    ap (λ z. waiting ++ (one.text ++ z)) next ∙ ap (λ z. waiting ++ z) (append-nil one.text) ∙ is,
    (rest ++ two.sent, ap (λ z. z ++ two.sent) begins ∙ append_assoc before rest two.sent),
    subst (λ z. IsLastText refusal z last) (sym (ap (λ z. one.steps ++ z) again ∙ append-nil one.steps)) lasts,
  )

  pub second_none : {A : Type 0} (one two : List A) → one ++ two ≡ [] → two ≡ []
  second_none [] two none = none
  second_none {A = A} (first ∷ one) two none = absurd (let e : ◌≡◌ {A = List A} (first ∷ (one ++ two)) [] = none in cc)

  module _ {S C : Type 0} (responds : S → ℕ → HttpRequestData → List ℕ → S → Type 0) (ticks : C → ℕ → C → Type 0) where
    pub exchange_on : (a b z : ConnectionData) (i j k : Option (List ℕ)) (s : S) (c : C) (t : S) (d : C) (v : S) (e : C) (f g h : Option (List ℕ)) (one two : Exchange)
        → IsExchange refusal responds ticks a i s c f b j t d g one → IsExchange refusal responds ticks b j t d g z k v e h two → IsExchange refusal responds ticks a i s c f z k v e h (both one two)
    exchange_on a b z i j k s c t d v e f g h one two (takes, are, puts, goes, is, count, in_turn, keeps) (takes_again, are_again, puts_again, goes_again, is_again, count_again, in_turn_again, keeps_again) = (
      consumes_more i j k one.bytes two.bytes takes takes_again,
      steps_behind responds ticks one.steps two.steps s c t d v e are are_again,
      appends_more f g h one.sent two.sent puts puts_again,
      goes_on a.stage b.stage z.stage a.unread b.unread z.unread one.bytes two.bytes one.steps two.steps one.text two.text goes goes_again,
      sym (append_assoc a.pending one.text two.text) ∙ ap (λ w. w ++ two.text) is ∙ append_assoc one.sent b.pending two.text ∙ ap (λ w. one.sent ++ w) is_again ∙ sym (append_assoc one.sent two.sent z.pending),
      count_again ∙ ap (λ w. counted_steps two.steps w) count ∙ sym (counted_both one.steps two.steps a.answers),
      in_turn_on a.pending b.pending one two in_turn in_turn_again is,
      (λ kept. keeps_again (keeps kept)),
    )

    pub progress_on : (a b z : ConnectionData) (i j : Option (List ℕ)) (s : S) (c : C) (t : S) (d : C) (f g : Option (List ℕ)) (one two : Exchange)
        → IsExchange refusal responds ticks a i s c f b j t d g one → IsProgress b two z → IsProgress a (both one two) z
    progress_on a b z i j s c t d f g one two is (inl some) = inl (λ none. some (second_none one.bytes two.bytes none))
    progress_on a b z i j s c t d f g one two is (inr (inl some)) = inr (inl (λ none. some (second_none one.steps two.steps none)))
    progress_on a b z i j s c t d f g one two is (inr (inr (inl some))) = inr (inr (inl (λ none. some (second_none one.sent two.sent none))))
    progress_on a b z i j s c t d f g one two is (inr (inr (inr (opened, closes)))) =
        inr (inr (inr (goes_open a.stage b.stage a.unread one.bytes one.steps one.text b.unread is.3 opened, closes)))
