-- The keys of a map, and those of the object that it is.
use Rattle.std.proofs.Common.{◌≡◌, ℕ, List, [], ◌∷◌, Bool, ◌&&◌, ap, refl, string_bytes, Global, String}
use Rattle.std.specs.List.{list_all}
use Rattle.std.specs.Map.{keys_of}
use Rattle.serde_json.specs.View.{members_view}
use Rattle.serde_json.specs.declared.value.Value.{Value}
use Rattle.requests.specs.Keys.{are_known}

pub known_of_entries : (is_known : List ℕ → Bool) (es : List (String Global × Value)) → list_all (λ key. is_known (string_bytes key)) (keys_of es) ≡ are_known is_known (members_view es)
known_of_entries is_known [] = refl
known_of_entries is_known (e ∷ es) = ap (λ b. is_known (string_bytes e.0) && b) (known_of_entries is_known es)
