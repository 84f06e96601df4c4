-- Parts of slots, of places, and of what a place knows.
use Rattle.std.specs.Prelude.{ℕ, List, Option}
use Rattle.atomic_table.specs.Seated.{TableId}
use Rattle.service_profile.specs.Events.{History}
use Rattle.book_slot.specs.declared.view.Trace.{Trace}
use Rattle.book_slot.specs.declared.view.View.{View}
use Rattle.book_slot.specs.Views.{trace}
use Rattle.book_slot.specs.Places.{SlotData, PlaceData}

abbrev pub table_of : SlotData → TableId
table_of slot = slot.table

-- the book that was laid into it, as it opened
abbrev pub origin_of : SlotData → Option History
origin_of slot = slot.origin

abbrev pub dealt_of : SlotData → ℕ
dealt_of slot = slot.dealt

abbrev pub back_of : SlotData → ℕ
back_of slot = slot.back

-- what each of the places that came back left behind
abbrev pub known_of : SlotData → List Trace
known_of slot = slot.known

abbrev pub table_at : PlaceData → TableId
table_at place = place.table

abbrev pub number_at : PlaceData → ℕ
number_at place = place.number

abbrev pub view_at : PlaceData → View
view_at place = place.view

-- what it leaves behind, by its number
abbrev pub trace_at : PlaceData → Trace
trace_at place = trace place.number place.view
