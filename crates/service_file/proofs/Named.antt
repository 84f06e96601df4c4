-- Names among services, and how many there are.
use Rattle.std.proofs.Common.{◌≡◌, ◌∙◌, length, suc, true, false, Some, None, option_and_then, if◌then◌else◌, List, [], ◌∷◌, Bool, ◌||◌, ap, refl, map}
use Rattle.std.specs.List.{list_any}
use Rattle.serde_json.specs.View.{items_view}
use Rattle.serde_json.specs.declared.value.Value.{Value}
use Rattle.service_file.specs.Files.{items_length, is_count, services_after, services_of}

pub any_of_map : {A B : Type 0} (test : B → Bool) (f : A → B) (xs : List A) → list_any test (map f xs) ≡ list_any (λ x. test (f x)) xs
any_of_map test f [] = refl
any_of_map test f (x ∷ xs) = ap (λ b. test (f x) || b) (any_of_map test f xs)

pub length_of_items : (values : List Value) → items_length (items_view values) ≡ length values
length_of_items [] = refl
length_of_items (value ∷ values) = ap suc (length_of_items values)

pub too_many : (values : List Value) → is_count (length values) ≡ false → services_of (items_view values) ≡ None
too_many values beyond = ap (λ b. option_and_then (services_after []) (if b then Some (items_view values) else None)) (ap is_count (length_of_items values) ∙ beyond)

pub as_many : (values : List Value) → is_count (length values) ≡ true → services_of (items_view values) ≡ services_after [] (items_view values)
as_many values within = ap (λ b. option_and_then (services_after []) (if b then Some (items_view values) else None)) (ap is_count (length_of_items values) ∙ within)
