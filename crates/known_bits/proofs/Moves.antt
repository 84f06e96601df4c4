-- Shifts and conversions move bits that are apart to places that are apart.
use Rattle.std.proofs.Common.{◌≡◌, ℕ, ◌^◌, ◌<◌, min, sym, ap, ◌∙◌, arith}
use Rattle.std.specs.Prelude.{bit_and}
use Rattle.std.proofs.lemmas.Bool.{cases_lt}
use Rattle.bpf_profile.specs.declared.instruction.Size.{Size}
use Rattle.abs_domain.specs.OperationLaws.{shift_fits, conversion_fits}
use Rattle.abs_domain.specs.Operations.{word_shift, word_conversion}
use Rattle.abs_domain.specs.declared.operations.Conversion.{Conversion}
use Rattle.abs_domain.specs.declared.operations.Shift.{Shift}
use Rattle.known_bits.specs.BitLaws.{bit, bit_above, bit_of_and, same_bits}
use Rattle.known_bits.specs.MoveLaws.{Moved, taken, cleared, everywhere, shift_moved, conversion_moved}

-- bits that are apart are moved to places that are apart
moved_apart_at : (f : ℕ → ℕ) (v u i : ℕ) → ((j : ℕ) → min (bit v j) (bit u j) ≡ 0) → Moved f i → min (bit (f v) i) (bit (f u) i) ≡ 0
moved_apart_at f v u i h (taken j e) = (λ k. min (e v k) (e u k)) ∙ h j
moved_apart_at f v u i h (cleared e) = (λ k. min (e v k) (e u k))

moved_apart : (f : ℕ → ℕ) → ((x : ℕ) → f x < 2 ^ 64) → ((i : ℕ) → i < 64 → Moved f i) → (v u : ℕ) → bit_and v u ≡ 0 → bit_and (f v) (f u) ≡ 0
moved_apart f fits h v u e =
    same_bits (bit_and (f v) (f u)) 0 (λ i.
    bit_of_and (f v) (f u) i
    ∙ moved_apart_at f v u i (λ j. sym (bit_of_and v u j) ∙ ap (λ x. bit x j) e ∙ bit_above 0 0 j (omega arith) (omega arith)) (everywhere f fits h i (cases_lt i 64))
    ∙ sym (bit_above 0 0 i (omega arith) (omega arith)))

pub shift_apart : (shift : Shift) (count v u : ℕ) → bit_and v u ≡ 0 → bit_and (word_shift shift v count) (word_shift shift u count) ≡ 0
shift_apart shift count v u e = moved_apart (λ x. word_shift shift x count) (λ x. shift_fits shift x count) (shift_moved shift count) v u e

pub conversion_apart : (conversion : Conversion) (size : Size) (v u : ℕ) → bit_and v u ≡ 0 → bit_and (word_conversion conversion size v) (word_conversion conversion size u) ≡ 0
conversion_apart conversion size v u e = moved_apart (λ x. word_conversion conversion size x) (λ x. conversion_fits conversion size x) (conversion_moved conversion size) v u e
