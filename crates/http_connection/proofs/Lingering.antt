-- What is read behind the last answer.
use Rattle.std.proofs.Common.{◌≡◌, ◌≤◌, ◌-◌, ℕ, List, [], ◌∷◌, length, drop, take, ◌==◌, true, Option, Some, None, refl, sym, ap, ◌∙◌, inl, inr, eqb-true, arith}
use Rattle.std.proofs.lemmas.Bool.{eq-eqb}
use Rattle.std.proofs.lemmas.List.{length-drop}
use Rattle.std.specs.Io.KnownBytes.{Consumes, Keeps}
use Rattle.counted_io.specs.declared.polling.Polling.{Polling}
use Rattle.counted_io.specs.declared.polling.Polling.TheVariants as polling
use Rattle.counted_io.specs.Polling.{IsTaken}
use Rattle.http_connection.specs.declared.stage.Stage.{Stage}
use Rattle.http_connection.specs.declared.stage.Stage.TheVariants as stage
use Rattle.http_connection.specs.Connections.{ConnectionData}
use Rattle.http_connection.specs.Sessions.{IsFinished, ReadsOn}

keeps_consumes : (had has : Option (List ℕ)) → Keeps had has → Consumes had has []
keeps_consumes None has keeps = tt
keeps_consumes (Some xs) None keeps = absurd keeps
keeps_consumes (Some xs) (Some ys) keeps = sym keeps

pub reads_on : (result : Polling) (had has : Option (List ℕ)) (buf : List ℕ) (connection : ConnectionData) → IsTaken result had has buf → IsFinished connection → ReadsOn had has connection
reads_on (polling.Done taken) had has buf connection is finished = (take taken buf, is.1, inr finished)
reads_on polling.Waits had has buf connection is finished = ([], keeps_consumes had has is, inl refl)
reads_on polling.Failed had has buf connection is finished = ([], keeps_consumes had has is, inl refl)

none_dropped : (xs : List ℕ) (i : ℕ) → i ≡ length xs → drop i xs ≡ []
none_dropped xs i is = no_length (drop i xs) (length-drop i xs ∙ omega (arith, is)) where
  no_length : (ys : List ℕ) → length ys ≡ 0 → ys ≡ []
  no_length [] h = refl
  no_length (y ∷ ys) h = absurd (omega (arith, h))

all_dropped : (xs : List ℕ) (i : ℕ) → i ≤ length xs → drop i xs ≡ [] → i ≡ length xs
all_dropped xs i within none = (let e : length xs - i ≡ 0 = sym (length-drop i xs) ∙ ap length none in omega (arith, e, within))

pub finished_by : (reached : Stage) (text pending : List ℕ) (i n : ℕ) → reached ≡ stage.Last → n ≡ length text → drop i text ≡ pending → i ≤ length text
    → ((i == n) ≡ true → (reached ≡ stage.Last) × (pending ≡ [])) × ((reached ≡ stage.Last) × (pending ≡ []) → (i == n) ≡ true)
finished_by reached text pending i n last is left within = (
  (λ same. (last, sym left ∙ none_dropped text i (eqb-true i n same ∙ is))),
  (λ done. eq-eqb i n (all_dropped text i within (left ∙ done.1) ∙ sym is)),
)
