-- Few notes leave room for one more.
use Rattle.std.proofs.Common.{◌-◌, ◌^◌, ◌≤◌, ◌<◌, Bool, true, false, not, List, length, arith, refl}
use Rattle.std.specs.List.{filter}
use Rattle.std.proofs.lemmas.List.Filters.{length-filter_both}
use Rattle.breaker.specs.declared.sliding.SlidingWindow.{SlidingWindow}
use Rattle.breaker.specs.SlidingLaws as sliding_laws
use Rattle.breaker.specs.Situations.{KeepsIn, HasRoomIn}
use Rattle.service_profile.specs.declared.notes.Note.{Note}
use Rattle.service_profile.specs.declared.notes.Totals.{Totals}

length_filter_le : {X : Type 0} (p : X → Bool) (xs : List X) → length (filter p xs) ≤ length xs
length_filter_le p xs = omega (arith, length-filter_both p (λ x. not (p x)) (λ x. refl) xs)

pub room_in : (b : Bool) (window : SlidingWindow) (half_open : Totals) (notes : List Note) → KeepsIn b window half_open notes → length notes < 2 ^ 64 - 8 → HasRoomIn b window half_open
room_in true window half_open notes kept few = rw kept (record {
  total = omega (arith, few);
  failed = omega (arith, few, length_filter_le (λ (n : Note). n.failed) notes);
  slow = omega (arith, few, length_filter_le (λ (n : Note). n.slow) notes);
})
room_in false window half_open notes kept few = sliding_laws.few_notes_leave_room window notes kept few
