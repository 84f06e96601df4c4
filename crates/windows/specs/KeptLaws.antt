-- Proofs of the laws of windows.
use Rattle.std.specs.Prelude.{◌-◌, ◌^◌, ◌<◌, List, length}
use Rattle.std.proofs.Common.{arith}
use Rattle.service_profile.specs.declared.notes.Note.{Note}
use Rattle.windows.specs.Held.{HeldBuckets}
use Rattle.windows.specs.Kept.{KeepsBuckets, HasRoomForOne}

pub few_notes_leave_room : (held : HeldBuckets) (notes : List Note) → KeepsBuckets held notes → length notes < 2 ^ 64 - 8 → HasRoomForOne held
few_notes_leave_room held notes kept few = record { total = omega (arith, kept.few.total); failed = omega (arith, kept.few.failed); slow = omega (arith, kept.few.slow) }
