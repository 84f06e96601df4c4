-- Values under the keys of an object.
use Rattle.std.specs.Prelude.{ℕ, List, Option, option_and_then}
use Rattle.serde_json.specs.Data.{Data}
use Rattle.serde_json.specs.Find.{get, as_str}
use Rattle.texts.specs.Outcomes.{if_there, u64_of}

-- a whole number below 2^64; None where it is missing or another value
abbrev pub number_at : List ℕ → Data → Option ℕ
number_at key d = option_and_then u64_of (get key d)

-- the same, with a default where the key is missing
abbrev pub number_or : ℕ → List ℕ → Data → Option ℕ
number_or default key d = if_there default u64_of (get key d)

abbrev pub text_at : List ℕ → Data → Option (List ℕ)
text_at key d = option_and_then as_str (get key d)
