-- The bytes that were taken off an input.
use Rattle.std.proofs.Common.{◌≡◌, ℕ, List, [], ◌∷◌, ◌++◌, Option, Some, None, ap, sym, ◌∙◌, append_assoc}
use Rattle.std.proofs.lemmas.List.{append-nil}
use Rattle.std.specs.Io.KnownBytes.{Consumes}
use Rattle.counted_io.specs.Counting.{TakesByte}
use Rattle.classifier_commands.specs.Answers.{IsAllOf}

pub taken_none : (text : Option (List ℕ)) (taken : List ℕ) → taken ≡ [] → Consumes text text taken
taken_none None taken none = tt
taken_none (Some text) taken none = ap (λ (t : List ℕ). t ++ text) (sym none)

pub taken_more : (text left after : Option (List ℕ)) (taken more : List ℕ) (byte : ℕ)
    → Consumes text left taken → TakesByte left after (Some byte) → more ≡ taken ++ byte ∷ [] → Consumes text after more
taken_more None left after taken more byte whole next is = tt
taken_more (Some text) None after taken more byte whole next is = absurd whole
taken_more (Some text) (Some []) after taken more byte whole next is = absurd (let e : Some byte ≡ None = next.0 in cc)
taken_more (Some text) (Some (x ∷ left)) None taken more byte whole next is = absurd (let e : None ≡ Some left = next.1 in cc)
taken_more (Some text) (Some (x ∷ left)) (Some after) taken more byte whole next is =
    let same : x ∷ left ≡ byte ∷ after = (let e : Some byte ≡ Some x = next.0 in let f : Some after ≡ Some left = next.1 in cc) in
    whole ∙ ap (λ (t : List ℕ). taken ++ t) same ∙ sym (append_assoc taken (byte ∷ []) after) ∙ ap (λ (t : List ℕ). t ++ after) (sym is)

pub taken_all : (text left after : Option (List ℕ)) (taken : List ℕ) → Consumes text left taken → TakesByte left after None → IsAllOf text taken
taken_all None left after taken whole end = tt
taken_all (Some text) None after taken whole end = absurd whole
taken_all (Some text) (Some (x ∷ left)) after taken whole end = absurd (let e : None ≡ Some x = end.0 in cc)
taken_all (Some text) (Some []) after taken whole end = sym (append-nil taken) ∙ sym whole
