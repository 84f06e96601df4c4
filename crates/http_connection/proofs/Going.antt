-- What one message does to its connection.
use Rattle.std.proofs.Common.{◌≡◌, ◌≢◌, ◌≤◌, ◌<◌, ◌+◌, ℕ, List, [], ◌∷◌, ◌++◌, length, drop, true, false, Option, Some, None, ap, sym, ◌∙◌, refl, inl, inr, arith}
use Rattle.std.proofs.lemmas.Grind.{common_steps}
use Rattle.std.proofs.lemmas.List.{append-nil, length-drop}
use Rattle.counted_io.specs.Counting.{one_more}
use Rattle.httparse.specs.Grammar.{RequestHead, print_request}
use Rattle.http_messages.specs.declared.front.Fault.{Fault}
use Rattle.http_messages.specs.declared.front.Head.{Head}
use Rattle.http_messages.specs.Fields.{ends_connection}
use Rattle.http_messages.specs.Fronts.{IsHeadAt}
use Rattle.http_messages.specs.Heads.{IsPartOfHead}
use Rattle.http_messages.specs.Messages.{Message, BeginsWith, HasFault, refused, final}
use Rattle.http_connection.specs.Reading.{message_of, IsAwaited}
use Rattle.http_connection.specs.Requests.{HttpRequestData, request_of}
use Rattle.http_connection.specs.Serving.{IsUnfinished}
use Rattle.http_connection.proofs.Messages.{begins_with}
use Rattle.http_connection.specs.declared.answering.Answered.TheVariants as answered
use Rattle.http_connection.specs.declared.stage.Stage.{Stage}
use Rattle.http_connection.specs.declared.stage.Stage.TheVariants as stage
use Rattle.http_connection.specs.Answering.{HasAnswered}
use Rattle.http_connection.specs.Connections.{ConnectionData, IsKept, most_unread}
use Rattle.http_connection.specs.Steps.{Step, AreSteps, IsAnswer}
use Rattle.http_connection.specs.Turns.{Goes}

-- the bytes of an open connection with none more
with_none : (unread : List ℕ) → unread ++ [] ≡ unread
with_none unread = append-nil unread

begins_plain : (unread behind : List ℕ) (message : Message) → BeginsWith unread message behind → BeginsWith (unread ++ []) message behind
begins_plain unread behind message begins = rw (with_none unread) begins

-- a part of a head, and a head without its whole body, are no whole message
pub part_is_unfinished : (unread : List ℕ) → IsPartOfHead unread → IsUnfinished unread
part_is_unfinished [] part = inl refl
part_is_unfinished (b ∷ bs) part = inr ((λ none. omega (arith, ap length none)), inl part)

fits_before : (xs : List ℕ) (n : ℕ) (first rest : List ℕ) → xs ≡ first ++ rest → n ≡ length first → n ≤ length xs
fits_before xs n first rest is same = rw (is, same) (grind (arith, common_steps))

head_fits : (xs : List ℕ) (found : Head) (head : RequestHead) → IsHeadAt xs found head → found.size ≤ length xs
head_fits xs found head is = fits_before xs found.size (print_request head) (drop found.size xs) (is.begins.0.1) (is.size)

short_behind : (xs : List ℕ) (a b : ℕ) → length xs < a + b → a ≤ length xs → length (drop a xs) < b
short_behind xs a b short fits = grind (arith, common_steps)

pub body_is_unfinished : (unread : List ℕ) (found : Head) (head : RequestHead) → IsHeadAt unread found head → length unread < found.size + found.body → IsUnfinished unread
body_is_unfinished [] found head is short = inl refl
body_is_unfinished (b ∷ bs) found head is short =
    inr ((λ none. omega (arith, ap length none)), inr (head, drop found.size (b ∷ bs), found.body, is.begins, is.body, short_behind (b ∷ bs) found.size found.body short (head_fits (b ∷ bs) found head is)))

-- a message isn't whole of which fewer bytes are there than it has
pub awaited_is_unfinished : (unread : List ℕ) (awaited : ℕ) → IsAwaited unread awaited → length unread < awaited → IsUnfinished unread
awaited_is_unfinished [] awaited is short = inl refl
awaited_is_unfinished (b ∷ bs) awaited is short =
    let (head, rest, size, begins, sized, sum) = is (omega (arith, short)) in
    inr ((λ none. omega (arith, ap length none)), inr (head, rest, size, begins, sized, omega (arith, sum, short)))

module _ (refusal : Fault → List ℕ) where
  goes_nowhere : (unread : List ℕ) → Goes refusal stage.Open unread [] [] [] stage.Open unread
  goes_nowhere unread = (with_none unread, tt, refl)

  goes_refused : (unread left : List ℕ) (fault : Fault) → HasFault unread fault → Goes refusal stage.Open unread [] [] (refusal fault) stage.Last left
  goes_refused unread left fault faulty = ([], refused fault, (unread, with_none unread, faulty), tt, (refl, refl))

  goes_answered : (unread behind : List ℕ) (step : Step) (text : List ℕ) → BeginsWith unread step.message behind → ends_connection step.message.head ≡ false → step.answer ≡ Some text
      → Goes refusal stage.Open unread [] (step ∷ []) text stage.Open behind
  goes_answered unread behind step text begins goes_on is = ((behind, begins_plain unread behind step.message begins, goes_on, refl), ((text, is), tt), rw is (sym (append-nil text)))

  goes_final : (unread behind left : List ℕ) (step : Step) (text : List ℕ) → BeginsWith unread step.message behind → ends_connection step.message.head ≡ true → step.answer ≡ Some text
      → Goes refusal stage.Open unread [] (step ∷ []) text stage.Last left
  goes_final unread behind left step text begins ends is = ([], final step.message, (unread, with_none unread, (behind, begins, ends)), ((text, is), tt), (refl, rw is (sym (append-nil text))))

  goes_lost : (unread behind left : List ℕ) (step : Step) → BeginsWith unread step.message behind → step.answer ≡ None → Goes refusal stage.Open unread [] (step ∷ []) [] stage.Lost left
  goes_lost unread behind left step begins is = ([], step, unread, behind, refl, with_none unread, begins, tt, is, refl)

open_not_lost : (reached : Stage) → reached ≡ stage.Open → reached ≢ stage.Lost
open_not_lost reached opened lost = absurd (let e : stage.Open ≡ stage.Lost = sym opened ∙ lost in cc)

last_not_lost : (reached : Stage) → reached ≡ stage.Last → reached ≢ stage.Lost
last_not_lost reached last lost = absurd (let e : stage.Last ≡ stage.Lost = sym last ∙ lost in cc)

drop_within : (xs : List ℕ) (n most : ℕ) → length xs ≤ most → length (drop n xs) ≤ most
drop_within xs n most within = omega (arith, within, length-drop n xs)

not_last : (reached : Stage) → reached ≡ stage.Open → reached ≢ stage.Last
not_last reached opened last = absurd (let e : stage.Open ≡ stage.Last = sym opened ∙ last in cc)

not_open : (reached : Stage) → reached ≡ stage.Last → reached ≢ stage.Open
not_open reached last opened = absurd (let e : stage.Open ≡ stage.Last = sym opened ∙ last in cc)

lost_not_last : (reached : Stage) → reached ≡ stage.Lost → reached ≢ stage.Last
lost_not_last reached lost last = absurd (let e : stage.Lost ≡ stage.Last = sym lost ∙ last in cc)

-- ---- what is kept

kept_same : (a b : ConnectionData) → b.unread ≡ a.unread → b.stage ≢ stage.Lost → IsKept a → IsKept b
kept_same a b same stands kept = (rw same kept.0, (λ lost. absurd (stands lost)))

kept_shorter : (a b : ConnectionData) (n : ℕ) → b.unread ≡ drop n a.unread → b.stage ≢ stage.Lost → IsKept a → IsKept b
kept_shorter a b n dropped stands kept = (rw dropped (drop_within a.unread n most_unread kept.0), (λ lost. absurd (stands lost)))

kept_lost : (a b : ConnectionData) → b.unread ≡ a.unread → b.pending ≡ [] → IsKept a → IsKept b
kept_lost a b same none kept = (rw same kept.0, (λ lost. none))

some_steps : (step : Step) (steps : List Step) → (step ∷ steps) ≢ []
some_steps step steps none = omega (arith, ap length none)

module _ {S C : Type 0} (refusal : Fault → List ℕ) (responds : S → ℕ → HttpRequestData → List ℕ → S → Type 0) (ticks : C → ℕ → C → Type 0) where
  pub is_refused : (a b : ConnectionData) (fault : Fault) (s : S) (c : C) → HasFault a.unread fault → b.stage ≡ stage.Last → b.unread ≡ a.unread → b.pending ≡ refusal fault → b.answers ≡ a.answers
      → HasAnswered refusal responds ticks answered.Yes a s c b s c
  is_refused a b fault s c faulty last same is count =
      ([], (refl, refl), omega arith, rw (last, is) (goes_refused refusal a.unread b.unread fault faulty), count, inr (inr (fault, is)), kept_same a b same (last_not_lost b.stage last), inr (not_open b.stage last))

  pub is_not_refused : (a b : ConnectionData) (s : S) (c : C) → b.stage ≡ stage.Open → b.unread ≡ a.unread → b.pending ≡ [] → b.answers ≡ a.answers
      → HasAnswered refusal responds ticks answered.NoMemory a s c b s c
  is_not_refused a b s c opened same is count =
      ([], (refl, refl), omega arith, rw (opened, same, is) (goes_nowhere refusal a.unread), count, inl is, kept_same a b same (open_not_lost b.stage opened), (not_last b.stage opened, is))

  pub is_unfinished : (a b : ConnectionData) (s : S) (c : C) → IsUnfinished a.unread → b.stage ≡ stage.Open → b.unread ≡ a.unread → b.pending ≡ [] → b.answers ≡ a.answers
      → HasAnswered refusal responds ticks answered.Incomplete a s c b s c
  is_unfinished a b s c part opened same is count =
      ([], (refl, refl), omega arith, rw (opened, same, is) (goes_nowhere refusal a.unread), count, inl is, kept_same a b same (open_not_lost b.stage opened), (opened, rw same part, is))

  one_step : (unread : List ℕ) (found : Head) (head : RequestHead) (q : HttpRequestData) (moment : ℕ) (answer : Option (List ℕ)) (s : S) (c : C) (t : S) (d : C)
      → q ≡ request_of (message_of unread found head) → ticks c moment d → IsAnswer responds ticks s moment q answer t
      → AreSteps responds ticks s c (record { message = message_of unread found head; moment = moment; answer = answer } ∷ []) t d
  one_step unread found head q moment answer s c t d same tick done = (t, d, tick, rw same at done, (refl, refl))

  pub is_answered : (a b : ConnectionData) (found : Head) (head : RequestHead) (q : HttpRequestData) (moment : ℕ) (text : List ℕ) (s : S) (c : C) (t : S) (d : C)
      → IsHeadAt a.unread found head → found.size + found.body ≤ length a.unread → q ≡ request_of (message_of a.unread found head) → found.closes ≡ false
      → ticks c moment d → responds s moment q text t
      → b.stage ≡ stage.Open → b.unread ≡ drop (found.size + found.body) a.unread → b.pending ≡ text → b.answers ≡ one_more a.answers
      → HasAnswered refusal responds ticks answered.Yes a s c b t d
  is_answered a b found head q moment text s c t d is fits same stays tick responded opened dropped whole count =
      let step : Step = record { message = message_of a.unread found head; moment = moment; answer = Some text } in (
        step ∷ [],
        one_step a.unread found head q moment (Some text) s c t d same tick responded,
        omega arith,
        rw (opened, dropped, whole) (goes_answered refusal a.unread (drop (found.size + found.body) a.unread) step text (begins_with a.unread found head is fits) (sym is.last ∙ stays) refl),
        count,
        inr (inl ([], step, refl, whole)),
        kept_shorter a b (found.size + found.body) dropped (open_not_lost b.stage opened),
        inl (some_steps step []),
      )

  pub is_final : (a b : ConnectionData) (found : Head) (head : RequestHead) (q : HttpRequestData) (moment : ℕ) (text : List ℕ) (s : S) (c : C) (t : S) (d : C)
      → IsHeadAt a.unread found head → found.size + found.body ≤ length a.unread → q ≡ request_of (message_of a.unread found head) → found.closes ≡ true
      → ticks c moment d → responds s moment q text t
      → b.stage ≡ stage.Last → b.unread ≡ a.unread → b.pending ≡ text → b.answers ≡ one_more a.answers
      → HasAnswered refusal responds ticks answered.Yes a s c b t d
  is_final a b found head q moment text s c t d is fits same ends tick responded last unread whole count =
      let step : Step = record { message = message_of a.unread found head; moment = moment; answer = Some text } in (
        step ∷ [],
        one_step a.unread found head q moment (Some text) s c t d same tick responded,
        omega arith,
        rw (last, whole) (goes_final refusal a.unread (drop (found.size + found.body) a.unread) b.unread step text (begins_with a.unread found head is fits) (sym is.last ∙ ends) refl),
        count,
        inr (inl ([], step, refl, whole)),
        kept_same a b unread (last_not_lost b.stage last),
        inl (some_steps step []),
      )

  pub is_lost : (a b : ConnectionData) (found : Head) (head : RequestHead) (q : HttpRequestData) (moment : ℕ) (s : S) (c : C) (t : S) (d : C)
      → IsHeadAt a.unread found head → found.size + found.body ≤ length a.unread → q ≡ request_of (message_of a.unread found head)
      → ticks c moment d → IsAnswer responds ticks s moment q None t
      → b.stage ≡ stage.Lost → b.unread ≡ a.unread → b.pending ≡ [] → b.answers ≡ one_more a.answers
      → HasAnswered refusal responds ticks answered.NoMemory a s c b t d
  is_lost a b found head q moment s c t d is fits same tick done lost unread none count =
      let step : Step = record { message = message_of a.unread found head; moment = moment; answer = None } in (
        step ∷ [],
        one_step a.unread found head q moment None s c t d same tick done,
        omega arith,
        rw (lost, none) (goes_lost refusal a.unread (drop (found.size + found.body) a.unread) b.unread step (begins_with a.unread found head is fits) refl),
        count,
        inl none,
        kept_lost a b unread none,
        (lost_not_last b.stage lost, none),
      )
