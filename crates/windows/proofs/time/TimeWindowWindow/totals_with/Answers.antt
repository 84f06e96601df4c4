use Rattle.std.proofs.Common.{ap, sym, refl, ◌∙◌}
use Rattle.service_profile.specs.declared.notes.Totals.{Totals}
use Rattle.windows.specs.Kept.{HasRoomForOne}
use Rattle.windows.specs.Rings.{totals_of_bucket}
use Rattle.windows.specs.Sums.{plus, one_note, sum_of}
use Rattle.windows.proofs.Keeping.{room_fits, totals_with_newest}
use Rattle.windows.proofs.Order.{left_in_window}
use Rattle.windows.proofs.time.TimeWindowWindow.totals_with.Goals as goal

pub plus-requires : goal.plus-requires
plus-requires c =
    let room : HasRoomForOne (record { size = c.self.inside.size; buckets = c.self.inside.ring.items }) = rw (sym c.self.view_is) at c.requires in
    rw (c.totals_left-staying.ensures, c.one_note.ensures) (room_fits c.self.inside.size _ c.self.inside.ring.items c.args.failed c.args.slow room)

pub returns : goal.returns
returns c = rw (← c.self.view_is) (λ notes kept after.
    c.plus.ensures
    ∙ ap (λ (t : Totals). plus c.totals_left-staying.result t) c.one_note.ensures
    ∙ ap (λ (t : Totals). plus t (one_note c.args.failed c.args.slow)) (c.totals_left-staying.ensures ∙ ap (sum_of totals_of_bucket) (left_in_window c.self.inside.size c.args.moment c.self.inside.ring.items c.self.invariant.some c.self.invariant.ordered) ∙ kept.exact c.args.moment after)
    ∙ sym (totals_with_newest c.self.inside.size c.args.moment notes (record { moment = c.args.moment; failed = c.args.failed; slow = c.args.slow }) c.self.invariant.some refl))
