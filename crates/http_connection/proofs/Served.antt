-- A connection that is served alone is served as by one loop.
use Rattle.std.proofs.Common.{◌≡◌, ◌≢◌, ℕ, List, [], ◌∷◌, ◌++◌, Option, None, refl, ap, sym, ◌∙◌, subst, inl, inr}
use Rattle.std.proofs.lemmas.List.{append-nil}
use Rattle.std.specs.Io.KnownBytes.{Appends, Consumes}
use Rattle.counted_io.specs.Wires.{CountsOf}
use Rattle.http_messages.specs.declared.front.Fault.{Fault}
use Rattle.http_messages.specs.Messages.{Message, BeginsWith, Ending, refused, final, closed, truncated}
use Rattle.http_connection.specs.declared.ended.Ended.{Ended}
use Rattle.http_connection.specs.declared.ended.Ended.TheVariants as end
use Rattle.http_connection.specs.Requests.{HttpRequestData}
use Rattle.http_connection.specs.Serving.{AreAnswered, AreAnsweredToEnd, IsLost, IsOutOfMemory, IsServed, IsText}
use Rattle.http_connection.specs.declared.stage.Stage.{Stage}
use Rattle.http_connection.specs.declared.stage.Stage.TheVariants as stage
use Rattle.http_connection.specs.declared.turned.Turned.TheVariants as turned
use Rattle.http_connection.specs.Connections.{ConnectionData}
use Rattle.http_connection.specs.Ends.{IsTurned}
use Rattle.http_connection.specs.Lives.{HasLived}
use Rattle.http_connection.specs.Steps.{Step, AreAllAnswered, AreSteps, messages_of, texts_of}
use Rattle.http_connection.specs.Turns.{AreToEnd, Reaches}
use Rattle.http_connection.proofs.Alone.{answered_alone}

all_sent : (before after : Option (List ℕ)) (sent text pending texts : List ℕ) → Appends before after sent → text ≡ sent ++ pending → pending ≡ [] → text ≡ texts → Appends before after texts
all_sent before after sent text pending texts puts is none whole =
    let same : sent ≡ texts = sym (append-nil sent) ∙ ap (λ z. sent ++ z) (sym none) ∙ sym is ∙ whole in
    subst (λ z. Appends before after z) same puts

module _ {S C : Type 0} (refusal : Fault → List ℕ) (responds : S → ℕ → HttpRequestData → List ℕ → S → Type 0) (ticks : C → ℕ → C → Type 0) where
  to_end : (ending : Ending) (messages : List Message) (steps : List Step) (text : List ℕ) (s t : S) (c d : C) → AreAllAnswered steps → AreSteps responds ticks s c steps t d → AreToEnd refusal messages ending steps text
      → AreAnsweredToEnd refusal responds ticks s c messages ending text t d
  to_end (refused fault) messages steps text s t c d all are is =
      (texts_of steps, subst (λ z. AreAnswered refusal responds ticks s c z (texts_of steps) t d) is.0 (answered_alone refusal responds ticks steps s t c d all are), is.1)
  to_end (final message) messages steps text s t c d all are is =
      subst (λ z. AreAnswered refusal responds ticks s c z text t d) is.0 (subst (λ z. AreAnswered refusal responds ticks s c (messages_of steps) z t d) (sym is.1) (answered_alone refusal responds ticks steps s t c d all are))
  to_end closed messages steps text s t c d all are is = absurd is
  to_end truncated messages steps text s t c d all are is = absurd is

  text_by : (reached : Stage) (bytes unread : List ℕ) (steps : List Step) (text : List ℕ) (s t : S) (c d : C) → Reaches refusal bytes steps text reached unread → reached ≢ stage.Lost → AreSteps responds ticks s c steps t d
      → IsText refusal responds ticks bytes s c text t d
  text_by stage.Open bytes unread steps text s t c d (messages, all, is) kept are =
      inl (messages_of steps, unread, messages, subst (λ z. AreAnswered refusal responds ticks s c (messages_of steps) z t d) (sym is) (answered_alone refusal responds ticks steps s t c d all are))
  text_by stage.Last bytes unread steps text s t c d (messages, ending, input, all, is) kept are = inr (messages, ending, input, to_end ending messages steps text s t c d all are is)
  text_by stage.Lost bytes unread steps text s t c d reaches kept are = absurd (kept refl)

  split_steps : (one two : List Step) (s t : S) (c d : C) → AreSteps responds ticks s c (one ++ two) t d → (v : S) × (e : C) × AreSteps responds ticks s c one v e × AreSteps responds ticks v e two t d
  split_steps [] two s t c d are = (s, c, (refl, refl), are)
  split_steps (step ∷ one) two s t c d (next, read, tick, done, are) =
      let later = split_steps one two next t read d are in
      (later.0, later.1, (next, read, tick, done, later.2), later.3)

  lost_by : (lost : Step) (rest behind : List ℕ) (s t : S) (c d : C) → AreSteps responds ticks s c (lost ∷ []) t d → lost.answer ≡ None → BeginsWith rest lost.message behind → IsLost refusal responds ticks rest s c t d
  lost_by lost rest behind s t c d (next, read, tick, done, same) none begins =
      inr (lost.message, behind, lost.moment, begins, rw same.1 tick, rw same.0 (rw none at done))

  memory_by : (reached : Stage) (bytes unread : List ℕ) (steps : List Step) (text : List ℕ) (s t : S) (c d : C) (f g : Option (List ℕ)) → Reaches refusal bytes steps text reached unread → reached ≢ stage.Last → AreSteps responds ticks s c steps t d → Appends f g text
      → IsOutOfMemory refusal responds ticks bytes s c t d f g
  memory_by stage.Open bytes unread steps text s t c d f g (messages, all, is) goes_on are puts =
      (messages_of steps, unread, texts_of steps, t, d, messages, answered_alone refusal responds ticks steps s t c d all are, rw is at puts, inl (refl, refl))
  memory_by stage.Last bytes unread steps text s t c d f g reaches goes_on are puts = absurd (goes_on refl)
  memory_by stage.Lost bytes unread steps text s t c d f g (earlier, lost, rest, behind, split, messages, begins, all, none, is) goes_on are puts =
      let parts = split_steps earlier (lost ∷ []) s t c d (subst (λ z. AreSteps responds ticks s c z t d) split are) in
      (messages_of earlier, rest, texts_of earlier, parts.0, parts.1, messages, answered_alone refusal responds ticks earlier s parts.0 c parts.1 all parts.2, rw is at puts, lost_by lost rest behind parts.0 t parts.1 d parts.3 none begins)

  pub served : (ended : Ended) (b : ConnectionData) (i j : Option (List ℕ)) (s t : S) (c d : C) (f g : Option (List ℕ)) (r q w v : CountsOf)
      → HasLived refusal responds ticks b i s c f j t d g → IsTurned (turned.Ended ended) b j r q w v → (bytes : List ℕ) × Consumes i j bytes × IsServed refusal responds ticks ended bytes s c t d f g
  served end.Closed b i j s t c d f g r q w v (bytes, steps, text, sent, takes, are, puts, reaches, is, count, kept) by =
      let here : Reaches refusal bytes steps text stage.Open b.unread = rw by.0.0.0 at reaches in
      (bytes, takes, (messages_of steps, texts_of steps, (b.unread, here.0, by.0.1), answered_alone refusal responds ticks steps s t c d here.1 are, all_sent f g sent text b.pending (texts_of steps) puts is by.0.0.1 here.2))
  served end.Truncated b i j s t c d f g r q w v (bytes, steps, text, sent, takes, are, puts, reaches, is, count, kept) by =
      let here : Reaches refusal bytes steps text stage.Open b.unread = rw by.0.0.0 at reaches in
      (bytes, takes, (messages_of steps, texts_of steps, (b.unread, here.0, by.0.1), answered_alone refusal responds ticks steps s t c d here.1 are, all_sent f g sent text b.pending (texts_of steps) puts is by.0.0.1 here.2))
  served end.ReadFailed b i j s t c d f g r q w v (bytes, steps, text, sent, takes, are, puts, reaches, is, count, kept) by =
      let here : Reaches refusal bytes steps text stage.Open b.unread = rw by.0.0.0 at reaches in
      (bytes, takes, (messages_of steps, b.unread, texts_of steps, here.0, by.0.1, answered_alone refusal responds ticks steps s t c d here.1 are, all_sent f g sent text b.pending (texts_of steps) puts is by.0.0.1 here.2))
  served end.Finished b i j s t c d f g r q w v (bytes, steps, text, sent, takes, are, puts, reaches, is, count, kept) by =
      let here : Reaches refusal bytes steps text stage.Last b.unread = rw by.0 at reaches in
      (bytes, takes, (here.0, here.1, text, here.2, to_end here.1 here.0 steps text s t c d here.3 are here.4, all_sent f g sent text b.pending text puts is by.1 refl))
  served end.WriteFailed b i j s t c d f g r q w v (bytes, steps, text, sent, takes, are, puts, reaches, is, count, kept) by =
      (bytes, takes, (text, text_by b.stage bytes b.unread steps text s t c d reaches (λ lost. by.0 (kept.1 lost)) are, (sent, (b.pending, is), puts)))
  served end.OutOfMemory b i j s t c d f g r q w v (bytes, steps, text, sent, takes, are, puts, reaches, is, count, kept) by =
      (bytes, takes, memory_by b.stage bytes b.unread steps text s t c d f g reaches by.0.0 are (all_sent f g sent text b.pending text puts is by.0.1 refl))
