-- The outcome that a JSON value describes.
use Rattle.std.specs.Prelude.{ℕ, ◌^◌, List, [], ◌∷◌, length, Option, Some, None, Result, Ok, Err, option_and_then, option_map, nat_lt, nat_le, if◌then◌else◌, codes}
use Rattle.hex.specs.Hex.{decode_of}
use Rattle.serde_json.specs.Data.{Data, Items, no_items, item}
use Rattle.serde_json.specs.Find.{get, as_number, as_u64, as_str, as_array, as_object}
use Rattle.bpf_profile.specs.Limits.{front_size, fact_count, most_tag_bytes}
use Rattle.bpf_profile.specs.Outcomes.{Outcome}
use Rattle.helpers.specs.declared.fields.Fields.{Fields}
use Rattle.helpers.specs.declared.fields.Kind.{Kind}
use Rattle.helpers.specs.declared.fields.Kind.TheVariants as kind
use Rattle.helpers.specs.declared.fields.Method.{Method}
use Rattle.helpers.specs.declared.fields.Method.TheVariants as method
use Rattle.helpers.specs.Layout.{context_of}
use Rattle.helpers.specs.Names.{kind_named, method_named}
use Rattle.helpers.specs.Padded.{padded}

-- the second step, where the first gave a value
infixl 10 ◌>>=◌
abbrev pub ◌>>=◌ : {A B : Type 0} → Option A → (A → Option B) → Option B
o >>= f = option_and_then f o

-- what reading gives of a value that may be missing
abbrev pub if_there : {A : Type 0} → A → (Data → Option A) → Option Data → Option A
if_there default read None = Some default
if_there default read (Some d) = read d

-- ---- numbers

-- a whole number below 2^64; a float is none, also where it is whole
abbrev pub u64_of : Data → Option ℕ
u64_of d = option_and_then as_u64 (as_number d)

abbrev pub below : ℕ → ℕ → Option ℕ
below bound n = if nat_lt n bound then Some n else None

abbrev pub u64_at : List ℕ → Data → Option ℕ
u64_at key d = if_there 0 u64_of (get key d)

abbrev pub u32_at : List ℕ → Data → Option ℕ
u32_at key d = option_and_then (below (2 ^ 32)) (u64_at key d)

-- ---- names

abbrev pub kind_at : Data → Option Kind
kind_at d = if_there kind.Response (λ v. option_and_then kind_named (as_str v)) (get (codes "kind") d)

abbrev pub method_at : Data → Option Method
method_at d = if_there method.Other (λ v. option_map method_named (as_str v)) (get (codes "method") d)

-- ---- bytes and facts

abbrev pub at_most : ℕ → List ℕ → Option (List ℕ)
at_most limit xs = if nat_le (length xs) limit then Some xs else None

abbrev pub ok_or_none : {A E : Type 0} → Result A E → Option A
ok_or_none (Ok a) = Some a
ok_or_none (Err e) = None

-- the bytes that a hexadecimal text spells, at most so many
unfoldable pub hex_bytes : ℕ → List ℕ → Option (List ℕ)
hex_bytes limit s = option_and_then (at_most limit) (ok_or_none (decode_of s))

abbrev pub bytes_at : ℕ → List ℕ → Data → Option (List ℕ)
bytes_at limit key d = if_there [] (λ v. option_and_then (hex_bytes limit) (as_str v)) (get key d)

abbrev pub front_at : Data → Option (List ℕ)
front_at d = option_map (padded front_size) (bytes_at front_size (codes "body_front") d)

abbrev pub tag_at : Data → Option (List ℕ)
tag_at d = bytes_at most_tag_bytes (codes "tag") d

-- each item as a whole number
abbrev pub numbers_of : Items → Option (List ℕ)
numbers_of no_items = Some []
numbers_of (item d ds) = option_and_then (λ n. option_map (λ ns. n ∷ ns) (numbers_of ds)) (u64_of d)

abbrev pub facts_of : Items → Option (List ℕ)
facts_of items = option_and_then (at_most fact_count) (numbers_of items)

abbrev pub facts_at : Data → Option (List ℕ)
facts_at d = option_map (padded fact_count) (if_there [] (λ v. option_and_then facts_of (as_array v)) (get (codes "facts") d))

-- ---- the whole

-- the fields of the context, key by key; None where one is of the wrong kind or out of range
unfoldable pub fields_of : Data → Option Fields
fields_of d = do
  kind ← kind_at d
  status ← u32_at (codes "status") d
  duration ← u64_at (codes "duration_ms") d
  request_bytes ← u64_at (codes "request_bytes") d
  response_bytes ← u64_at (codes "response_bytes") d
  attempt ← u32_at (codes "attempt") d
  method ← method_at d
  flags ← u64_at (codes "flags") d
  body_length ← u64_at (codes "body_length") d
  front ← front_at d
  Some (record { kind = kind; status = status; duration = duration; request_bytes = request_bytes; response_bytes = response_bytes; attempt = attempt; method = method; flags = flags; body_length = body_length; front = front })

-- the outcome; None too where the value is no object
unfoldable pub outcome_of : Data → Option Outcome
outcome_of d = do
  members ← as_object d
  fields ← fields_of d
  facts ← facts_at d
  tag ← tag_at d
  Some (record { context = context_of fields; facts = facts; tag = tag })
