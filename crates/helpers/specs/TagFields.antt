-- How a tag stands in its fields.
use Rattle.std.specs.Prelude.{◌≡◌, ◌≤◌, ℕ, List, length, take}
use Rattle.std.proofs.Common.{sym, ap, ◌∙◌}
use Rattle.bpf_profile.specs.Limits.{most_tag_bytes}
use Rattle.bpf_profile.specs.Outcomes.{AreBytes}
use Rattle.helpers.specs.Padded.{padded}
use Rattle.helpers.specs.declared.tag.Tag.TheInside.{Inside}

-- the room is filled by the front, of so many bytes, and zeros
pub record IsTag (room : List ℕ) (size : ℕ) (front : List ℕ) : Type 0 where
  pub count : size ≡ length front
  pub short : length front ≤ most_tag_bytes
  pub in_range : AreBytes front
  pub zeros : room ≡ padded most_tag_bytes front

abbrev fields : List ℕ → ℕ → Inside
fields bytes count = record { bytes = bytes; count = count }

both : (tag : Inside) (room : List ℕ) (count : ℕ) → tag.bytes ≡ room → tag.count ≡ count → fields room count ≡ tag
both tag room count e f =
    sym (ap (λ (b : List ℕ). fields b tag.count) e ∙ ap (λ (n : ℕ). fields room n) f)

-- the bytes give the fields back
pub tag_of_fields : (tag : Inside) → IsTag tag.bytes tag.count (take tag.count tag.bytes) → record { bytes = padded most_tag_bytes (take tag.count tag.bytes); count = length (take tag.count tag.bytes) } ≡ tag
tag_of_fields tag is = both tag _ _ is.zeros is.count
