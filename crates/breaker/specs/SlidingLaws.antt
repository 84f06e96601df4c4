-- Proofs of the laws of windows, for a window of either kind.
use Rattle.std.specs.Prelude.{◌-◌, ◌^◌, ◌<◌, List, length}
use Rattle.breaker.specs.declared.sliding.SlidingWindow.{SlidingWindow}
use Rattle.breaker.specs.declared.sliding.SlidingWindow.TheVariants.{Count, Time}
use Rattle.breaker.specs.Sliding.{KeepsNotes, HasRoomInWindow}
use Rattle.service_profile.specs.declared.notes.Note.{Note}
use Rattle.windows.specs.KeptLaws as kept_laws

pub few_notes_leave_room : (window : SlidingWindow) (notes : List Note) → KeepsNotes window notes → length notes < 2 ^ 64 - 8 → HasRoomInWindow window
few_notes_leave_room (Count window) notes kept few = tt
few_notes_leave_room (Time window) notes kept few = kept_laws.few_notes_leave_room window notes kept few
