-- The keys of an object.
use Rattle.std.specs.Prelude.{ℕ, List, Bool, true, false, ◌&&◌, Option, Some, None}
use Rattle.std.specs.List.{list_any}
use Rattle.std.specs.Str.{bytes_eq}
use Rattle.serde_json.specs.Data.{Data, Members, no_members, member}
use Rattle.serde_json.specs.Find.{as_object}

abbrev pub is_one_of : List (List ℕ) → List ℕ → Bool
is_one_of keys key = list_any (λ known. bytes_eq known key) keys

-- each key of the members is one of these
abbrev pub are_known : (List ℕ → Bool) → Members → Bool
are_known is_known no_members = true
are_known is_known (member key d ms) = is_known key && are_known is_known ms

abbrev pub has_known_members : (List ℕ → Bool) → Option Members → Bool
has_known_members is_known None = false
has_known_members is_known (Some ms) = are_known is_known ms

-- the value is an object, and each of its keys is one of these
abbrev pub has_known_keys : (List ℕ → Bool) → Data → Bool
has_known_keys is_known d = has_known_members is_known (as_object d)
