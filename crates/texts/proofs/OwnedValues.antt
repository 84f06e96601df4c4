-- Items and members that own their texts, made one after another of those that borrow them.
use Rattle.std.proofs.Common.{◌≡◌, ℕ, List, [], ◌∷◌, ◌++◌, Option, Some, None, option_map, refl, ap}
use Rattle.json.specs.Json as json
use Rattle.serde_json.specs.Data.{Data, Items, no_items, item, Members, put}
use Rattle.serde_json.specs.Read.{of_json, of_items, of_members}
use Rattle.serde_json.specs.View.{view, items_view}
use Rattle.serde_json.specs.declared.value.Value.{Value}

-- items, before which those of some values stand
abbrev pub items_before : List Value → Items → Items
items_before [] rest = rest
items_before (value ∷ values) rest = item (view value) (items_before values rest)

pub items_before-no_items : (values : List Value) → items_before values no_items ≡ items_view values
items_before-no_items [] = refl
items_before-no_items (value ∷ values) = ap (item (view value)) (items_before-no_items values)

items_push : (made : List Value) (value : Value) (rest : Items) → items_before made (item (view value) rest) ≡ items_before (made ++ value ∷ []) rest
items_push [] value rest = refl
items_push (first ∷ made) value rest = ap (item (view first)) (items_push made value rest)

one_more : (made : List Value) (value : Value) (rest : Option Items) → option_map (items_before made) (option_map (item (view value)) rest) ≡ option_map (items_before (made ++ value ∷ [])) rest
one_more made value None = refl
one_more made value (Some items) = ap Some (items_push made value items)

pub item_made : (made : List Value) (value : Value) (j : json.Json) (js : json.Items) → of_json j ≡ Some (view value)
    → option_map (items_before made) (of_items (json.item j js)) ≡ option_map (items_before (made ++ value ∷ [])) (of_items js)
item_made made value j js e = rw e (one_more made value (of_items js))

pub item_refused : (made : List Value) (j : json.Json) (js : json.Items) → of_json j ≡ None → option_map (items_before made) (of_items (json.item j js)) ≡ None
item_refused made j js e = rw e

pub none_before : (rest : Option Items) → option_map (items_before []) rest ≡ rest
none_before None = refl
none_before (Some items) = refl

pub member_made : (key : List ℕ) (d : Data) (j : json.Json) (js : json.Members) (found : Members) → of_json j ≡ Some d → of_members (json.member key j js) found ≡ of_members js (put key d found)
member_made key d j js found e = rw e

pub member_refused : (key : List ℕ) (j : json.Json) (js : json.Members) (found : Members) → of_json j ≡ None → of_members (json.member key j js) found ≡ None
member_refused key j js found e = rw e
