-- What decoding into a stretch of the room says of the bytes that a text spells.
use Rattle.std.proofs.Common.{◌≡◌, ◌≤◌, ◌<◌, ℕ, ◌/◌, ◌%◌, List, ◌++◌, length, take, drop, replicate, Some, None, Result, Ok, Err, MatchResult, refl, sym, ap, ◌∙◌, arith, inl, inr, ◌⊎◌, is_err, true, false}
use Rattle.std.proofs.lemmas.Bool.{cases_eq}
use Rattle.std.proofs.lemmas.List.{length-replicate, drop-replicate}
use Rattle.std.proofs.lemmas.Grind.{common_steps}
use Rattle.helpers.specs.Padded.{padded}
use Rattle.hex.specs.Hex.{decode_of, decode_sized}
use Rattle.hex.specs.declared.error.FromHexError.{FromHexError}
use Rattle.hex.proofs.HexLemmas.{decode_of-ok, decode_of-odd, decode_sized-odd, decode_sized-twice}
use Rattle.texts.specs.Outcomes.{hex_bytes}

-- a text that spells nothing
none_of_err : (limit : ℕ) (s : List ℕ) (e : FromHexError) → decode_of s ≡ Err e → hex_bytes limit s ≡ None
unfolding hex_bytes
none_of_err limit s e h = rw h refl

-- a text that spells too many bytes
none_of_many : (limit : ℕ) (s bytes : List ℕ) → decode_of s ≡ Ok bytes → limit < length bytes → hex_bytes limit s ≡ None
unfolding hex_bytes
none_of_many limit s bytes h many = rw h (grind arith)

some_of_few : (limit : ℕ) (s bytes : List ℕ) → decode_of s ≡ Ok bytes → length bytes ≤ limit → hex_bytes limit s ≡ Some bytes
unfolding hex_bytes
some_of_few limit s bytes h few = rw h (grind arith)

pub none_if_long : (limit : ℕ) (s : List ℕ) → limit < length s / 2 → hex_bytes limit s ≡ None
none_if_long limit s long =
    elim (decode_of s) as (λ r. decode_of s ≡ r → hex_bytes limit s ≡ None) [
      | Ok bytes ↦ λ h. let len = (decode_of-ok s bytes h).2 in none_of_many limit s bytes h (omega (arith, len))
      | Err e ↦ λ h. none_of_err limit s e h
    ] refl

-- decoding into room for half as many bytes as there are digits answers what the text spells
sized_half : (s : List ℕ) (n : ℕ) → length s / 2 ≡ n → decode_sized s n ≡ decode_of s
sized_half s n half =
    elim (cases_eq (length s % 2) 1) [
      | inl odd ↦ decode_sized-odd s n odd ∙ sym (decode_of-odd s odd)
      | inr even ↦ decode_sized-twice s n (omega arith)
    ]

by_result : (limit n : ℕ) (s : List ℕ) (d : Result (List ℕ) FromHexError) (r : Result Unit FromHexError) (out : List ℕ) → decode_sized s n ≡ d → length s / 2 ≡ n → MatchResult d (λ bytes. (r ≡ Ok tt) × (out ≡ bytes)) (λ e. r ≡ Err e)
    → ((r ≡ Ok tt) × (decode_of s ≡ Ok out)) ⊎ ((is_err r ≡ true) × (hex_bytes limit s ≡ None))
by_result limit n s (Ok bytes) r out same half h =
    inl (h.0, sym (sized_half s n half) ∙ same ∙ ap (λ (b : List ℕ). Ok b) (sym h.1))
by_result limit n s (Err e) r out same half h =
    inr (ap is_err h, none_of_err limit s e (sym (sized_half s n half) ∙ same))

-- what such decoding answers and leaves in the front of the room
abbrev pub IsDecoded : List ℕ → List ℕ → Result Unit FromHexError → List ℕ → Type 0
IsDecoded s room r out =
    MatchResult (decode_sized s (length (take (length s / 2) room))) (λ bytes. (r ≡ Ok tt) × (out ≡ bytes)) (λ e. r ≡ Err e)

half_of : (s room : List ℕ) → length s / 2 ≤ length room → length s / 2 ≡ length (take (length s / 2) room)
half_of s room few = grind (arith, common_steps)

-- the whole answer, of a room of zeros
pub refused : (s room out : List ℕ) (size : ℕ) (r : Result Unit FromHexError) → room ≡ replicate size 0 → length s / 2 ≤ size → IsDecoded s room r out → is_err r ≡ true → hex_bytes size s ≡ None
refused s room out size r zeros few h failed =
    let size_is : length room ≡ size = ap length zeros ∙ length-replicate size 0 in
    elim (by_result size (length (take (length s / 2) room)) s (decode_sized s (length (take (length s / 2) room))) r out refl (half_of s room (omega arith)) h) [
      | inl p ↦ cc (sym failed ∙ ap is_err p.0)
      | inr p ↦ p.1
    ]

pub record IsRead (s zeros out : List ℕ) (size : ℕ) : Type 0 where
  pub found : hex_bytes size s ≡ Some out
  pub count : length s / 2 ≡ length out
  pub room : out ++ drop (length s / 2) zeros ≡ padded size out

pub read : (s room out : List ℕ) (size : ℕ) (r : Result Unit FromHexError) → room ≡ replicate size 0 → length s / 2 ≤ size → IsDecoded s room r out → is_err r ≡ false → IsRead s room out size
read s room out size r zeros few h done =
    let size_is : length room ≡ size = ap length zeros ∙ length-replicate size 0 in
    elim (by_result size (length (take (length s / 2) room)) s (decode_sized s (length (take (length s / 2) room))) r out refl (half_of s room (omega arith)) h) [
      | inl p ↦
          let len = (decode_of-ok s out p.1).2 in
          let half : length s / 2 ≡ length out = omega (arith, len) in
          record {
            found = some_of_few size s out p.1 (omega (arith, len));
            count = half;
            room = rw (zeros, drop-replicate {X = ℕ} (length s / 2) size 0, half) refl;
          }
      | inr p ↦ cc (sym done ∙ p.0)
    ]
