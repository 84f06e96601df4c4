-- One piece after another.
use Rattle.std.proofs.Common.{◌≡◌, ◌≢◌, ◌<◌, ℕ, ◌+◌, ◌-◌, List, [], ◌++◌, length, take, drop, Option, ap, sym, ◌∙◌, append_assoc, arith}
use Rattle.std.proofs.lemmas.Grind.{common_steps}
use Rattle.std.proofs.lemmas.List.{length-drop, take-append-drop}
use Rattle.std.specs.Io.KnownBytes.{Appends}
use Rattle.counted_io.proofs.Pieces.{appends_more}

-- a part of what is pending went out
abbrev pub IsSent : Option (List ℕ) → Option (List ℕ) → List ℕ → List ℕ → Type 0
IsSent before after pending left = (sent : List ℕ) × Appends before after sent × (pending ≡ sent ++ left)

rest_of : (text : List ℕ) (i n : ℕ) → drop i text ≡ take n (drop i text) ++ drop (i + n) text
rest_of text i n = grind (arith, common_steps, take-append-drop n (drop i text))

pub sent_more : (a b c : Option (List ℕ)) (pending text : List ℕ) (i n : ℕ) → IsSent a b pending (drop i text) → Appends b c (take n (take (length text - i) (drop i text))) → IsSent a c pending (drop (i + n) text)
sent_more a b c pending text i n (sent, before, is) more =
    let whole : take (length text - i) (drop i text) ≡ drop i text = grind (arith, common_steps) in
    let piece : List ℕ = take n (drop i text) in
    (sent ++ piece, appends_more a b c sent piece before (rw whole at more), is ∙ ap (λ z. sent ++ z) (rest_of text i n) ∙ sym (append_assoc sent piece (drop (i + n) text)))

-- what isn't sent is left
pub some_left : (text pending : List ℕ) (i : ℕ) → i < length text → drop i text ≡ pending → pending ≢ []
some_left text pending i more is none = omega (arith, more, let e : length text - i ≡ 0 = sym (length-drop i text) ∙ ap length (is ∙ none) in e)
