use Rattle.std.proofs.Common.{◌≡◌, drop, option_map}
use Rattle.json.specs.Value.{items_view as borrowed_items, members_view as borrowed_members}
use Rattle.serde_json.specs.Read.{of_items, of_members}
use Rattle.serde_json.specs.Data.{no_members}
use Rattle.serde_json.specs.View.{members_view}
use Rattle.texts.proofs.OwnedValues.{items_before}
use Rattle.texts.proofs.owned_values.+owned.Given as goal

abbrev pub invariant-owned_items-loop-item : goal.invariant-owned_items-loop-item
invariant-owned_items-loop-item l =
    of_items (borrowed_items l.item-items) ≡ option_map (items_before l.found.items) (of_items (borrowed_items (drop l.item-index l.item-items)))

abbrev pub invariant-owned_members-loop-member : goal.invariant-owned_members-loop-member
invariant-owned_members-loop-member l =
    of_members (borrowed_members l.member-items) no_members ≡ of_members (borrowed_members (drop l.member-index l.member-items)) (members_view l.found.entries)
