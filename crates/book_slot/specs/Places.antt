-- What contracts see of a slot and of a place at it.
use Rattle.std.specs.Prelude.{ℕ, ◌+◌, List, ◌++◌, [], ◌∷◌, Option}
use Rattle.atomic_table.specs.Seated.{TableId}
use Rattle.service_profile.specs.Events.{History}
use Rattle.book_slot.specs.declared.view.Trace.{Trace}
use Rattle.book_slot.specs.declared.view.View.{View}

-- its table, the book that was laid into it as it opened, how many places it has dealt and taken back, and what each of those that came back left behind, in their order
pub record SlotData : Type 0 where
  pub table : TableId
  pub origin : Option History
  pub dealt : ℕ
  pub back : ℕ
  pub known : List Trace

abbrev pub slot_of : TableId → Option History → ℕ → ℕ → List Trace → SlotData
slot_of table origin dealt back known = record { table = table; origin = origin; dealt = dealt; back = back; known = known }

-- its number, the table of its slot, and what it knows
pub record PlaceData : Type 0 where
  pub number : ℕ
  pub table : TableId
  pub view : View

abbrev pub place_of : ℕ → TableId → View → PlaceData
place_of number table view = record { number = number; table = table; view = view }

-- the slot after one place more was dealt
abbrev pub with_dealt : SlotData → SlotData
with_dealt slot = slot_of slot.table slot.origin (slot.dealt + 1) slot.back slot.known

-- the slot after a place came back that left this behind
abbrev pub with_back : SlotData → Trace → SlotData
with_back slot left = slot_of slot.table slot.origin slot.dealt (slot.back + 1) (slot.known ++ left ∷ [])

-- the same place, with another view
abbrev pub with_view : PlaceData → View → PlaceData
with_view place view = place_of place.number place.table view
