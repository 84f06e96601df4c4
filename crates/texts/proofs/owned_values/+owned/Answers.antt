use Rattle.std.proofs.Common.{◌≡◌, ◌+◌, List, ◌∷◌, [], drop, Some, None, option_map, string_bytes, sym, ap, ◌∙◌, arith, rules}
use Rattle.std.proofs.lemmas.List.{drop_more, drop_all}
use Rattle.json.specs.Value.{value_view as borrowed_view, items_view as borrowed_items, members_view as borrowed_members}
use Rattle.serde_json.specs.Data.{no_members, put}
use Rattle.serde_json.specs.Read.{of_json, of_items, of_members}
use Rattle.serde_json.specs.View.{view, members_view}
use Rattle.serde_json.specs.declared.value.Value.{Value}
use Rattle.serde_json.proofs.Views.{members_view-insert_entry}
use Rattle.texts.proofs.OwnedValues.{items_before, items_before-no_items, item_made, item_refused, none_before, member_made, member_refused}
use Rattle.texts.proofs.owned_values.+owned.Goals as goal

pub owned_items-loop-item-init : goal.owned_items-loop-item-init
owned_items-loop-item-init t c =
    let xs = c.deref-item-items.result.now in
    sym (ap (λ made. option_map (items_before made) (of_items (borrowed_items xs))) c.in_ok-found.ensures.items ∙ none_before (of_items (borrowed_items xs)))

pub owned_items-loop-item-preserved : goal.owned_items-loop-item-preserved
owned_items-loop-item-preserved t c =
    let l = c.loop-item in
    let xs = c.deref-item-items.result.now in
    let x = c.item-item.result in
    let here : drop l.item-index xs ≡ x ∷ drop (l.item-index + 1) xs = drop_more xs l.item-index x (omega arith) ∙ ap (λ y. y ∷ drop (l.item-index + 1) xs) (sym c.item-item.is) in
    let seen : of_json (borrowed_view x) ≡ Some (view c.in-Some.value) = sym c.in_ok-value.ensures ∙ ap (option_map view) c.in-Some.is in
    let rest = borrowed_items (drop (l.item-index + 1) xs) in
    l.invariant ∙ ap (λ ys. option_map (items_before l.found.items) (of_items (borrowed_items ys))) here ∙ item_made l.found.items c.in-Some.value (borrowed_view x) rest seen
    ∙ ap (λ made. option_map (items_before made) (of_items rest)) (sym {A = List Value} c.in_ok-push.ensures.items)

pub owned_items-returns-in_default : goal.owned_items-returns-in_default
owned_items-returns-in_default t c =
    let l = c.loop-item in
    let xs = c.deref-item-items.result.now in
    let x = c.item-item.result in
    let here : drop l.item-index xs ≡ x ∷ drop (l.item-index + 1) xs = drop_more xs l.item-index x (omega arith) ∙ ap (λ y. y ∷ drop (l.item-index + 1) xs) (sym c.item-item.is) in
    let seen : of_json (borrowed_view x) ≡ None = sym c.in_ok-value.ensures ∙ ap (option_map view) c.in_default.is in
    sym
    (ap (λ ys. of_items (borrowed_items ys)) (sym c.deref-item-items.ensures.value) ∙ l.invariant ∙ ap (λ ys. option_map (items_before l.found.items) (of_items (borrowed_items ys))) here
    ∙ item_refused l.found.items (borrowed_view x) (borrowed_items (drop (l.item-index + 1) xs)) seen)

pub owned_items-returns : goal.owned_items-returns
owned_items-returns t c =
    let l = c.loop-item in
    let xs = c.deref-item-items.result.now in
    let done : drop l.item-index xs ≡ [] = drop_all l.item-index xs (omega arith) in
    sym
    (ap (λ ys. of_items (borrowed_items ys)) (sym c.deref-item-items.ensures.value) ∙ l.invariant ∙ ap (λ ys. option_map (items_before l.found.items) (of_items (borrowed_items ys))) done
    ∙ ap Some (items_before-no_items l.found.items))

pub owned_members-loop-member-init : goal.owned_members-loop-member-init
owned_members-loop-member-init t c = ap (λ made. of_members (borrowed_members c.deref-member-items.result.now) (members_view made)) (sym c.new-found.ensures.empty)

pub owned_members-loop-member-preserved : goal.owned_members-loop-member-preserved
owned_members-loop-member-preserved t c =
    let l = c.loop-member in
    let xs = c.deref-member-items.result.now in
    let x = c.member-item.result in
    let here : drop l.member-index xs ≡ x ∷ drop (l.member-index + 1) xs = drop_more xs l.member-index x (omega arith) ∙ ap (λ y. y ∷ drop (l.member-index + 1) xs) (sym c.member-item.is) in
    let seen : of_json (borrowed_view x.1) ≡ Some (view c.in-Some.value) = sym c.in_ok-value.ensures ∙ ap (option_map view) c.in-Some.is in
    let copied : string_bytes c.in_ok-key.key ≡ x.0.now = search rules in
    let old = members_view l.found.entries in
    let inserted : members_view c.insert.new.self.entries ≡ put x.0.now (view c.in-Some.value) old =
    ap members_view c.in_ok-insert.ensures.entries ∙ members_view-insert_entry l.found.entries c.in_ok-key.key c.in-Some.value ∙ ap (λ name. put name (view c.in-Some.value) old) copied in
    let rest = borrowed_members (drop (l.member-index + 1) xs) in
    l.invariant ∙ ap (λ ys. of_members (borrowed_members ys) old) here ∙ member_made x.0.now (view c.in-Some.value) (borrowed_view x.1) rest old seen
    ∙ ap (of_members rest) (sym inserted)

pub owned_members-returns-in_default : goal.owned_members-returns-in_default
owned_members-returns-in_default t c =
    let l = c.loop-member in
    let xs = c.deref-member-items.result.now in
    let x = c.member-item.result in
    let here : drop l.member-index xs ≡ x ∷ drop (l.member-index + 1) xs = drop_more xs l.member-index x (omega arith) ∙ ap (λ y. y ∷ drop (l.member-index + 1) xs) (sym c.member-item.is) in
    let seen : of_json (borrowed_view x.1) ≡ None = sym c.in_ok-value.ensures ∙ ap (option_map view) c.in_default.is in
    sym
    (ap (λ ys. of_members (borrowed_members ys) no_members) (sym c.deref-member-items.ensures.value) ∙ l.invariant ∙ ap (λ ys. of_members (borrowed_members ys) (members_view l.found.entries)) here
    ∙ member_refused x.0.now (borrowed_view x.1) (borrowed_members (drop (l.member-index + 1) xs)) (members_view l.found.entries) seen)
