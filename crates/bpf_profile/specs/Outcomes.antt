-- The record of an outcome, as a program sees it.
use Rattle.std.specs.Prelude.{ℕ, ◌^◌, ◌<◌, ◌≤◌, ◌≡◌, List, length, take, drop}
use Rattle.std.specs.List.{AllByRecursion}
use Rattle.byteorder.specs.Endian.{little_number}
use Rattle.bpf_profile.specs.Limits.{fact_count, most_tag_bytes}

-- the context's bytes, the facts, and the tag's bytes
pub record Outcome : Type 0 where
  pub context : List ℕ
  pub facts : List ℕ
  pub tag : List ℕ

abbrev pub AreBytes : List ℕ → Type 0
AreBytes bytes = AllByRecursion (λ b. b < 2 ^ 8) bytes

-- a context of at least so many bytes, sixteen facts, and a tag of at most 32 bytes
pub record IsOutcome (size : ℕ) (outcome : Outcome) : Type 0 where
  pub context : AreBytes outcome.context
  pub long : size ≤ length outcome.context
  pub facts : AllByRecursion (λ fact. fact < 2 ^ 64) outcome.facts
  pub sixteen : length outcome.facts ≡ fact_count
  pub tag : AreBytes outcome.tag
  pub short : length outcome.tag ≤ most_tag_bytes

-- two records of which a context of this size, the facts and the tag are the same
pub record AgreeOn (size : ℕ) (left right : Outcome) : Type 0 where
  pub context : take size left.context ≡ take size right.context
  pub facts : left.facts ≡ right.facts
  pub tag : left.tag ≡ right.tag

-- the record with a context of this size alone
abbrev pub shortened : ℕ → Outcome → Outcome
shortened size outcome = record outcome { context = take size outcome.context }

-- how long the call took, in milliseconds: the double word at offset 8
abbrev pub duration_of : Outcome → ℕ
duration_of outcome = little_number 8 (drop 8 outcome.context)
