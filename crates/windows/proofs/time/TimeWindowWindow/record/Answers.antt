use Rattle.std.proofs.Common.{◌≡◌, ◌-◌, ◌^◌, List, ap, sym, subst, ◌∙◌}
use Rattle.circular_buffer.specs.Buffer.{Buffer, buffer, keep_last}
use Rattle.service_profile.specs.declared.notes.Totals.{Totals}
use Rattle.service_profile.specs.Windows.{second_of}
use Rattle.service_profile.specs.RunningTotals.{AreTotals}
use Rattle.windows.specs.declared.buckets.Bucket.{Bucket}
use Rattle.windows.specs.Kept.{HasRoomForOne}
use Rattle.windows.specs.Rings.{IsCounted, left, totals_of_bucket}
use Rattle.windows.specs.Sums.{plus, one_note, sum_of}
use Rattle.windows.proofs.Fallen.{left_all}
use Rattle.windows.proofs.Keeping.{noted_counted, keeps_noted, room_fits}
use Rattle.windows.proofs.Noted.{noted, noted_sum, noted_in_order, noted_whole}
use Rattle.windows.proofs.time.TimeWindowWindow.record.Goals as goal
use Rattle.windows.proofs.time.TimeWindowWindow.record.Goals.{After-drop_fallen-staying, After-add}

room : (c : After-drop_fallen-staying) → HasRoomForOne (record { size = c.self.inside.size; buckets = c.self.inside.ring.items })
room c = rw (sym c.self.view_is) at c.requires

staying_is : (c : After-drop_fallen-staying) → c.drop_fallen-staying.result ≡ sum_of totals_of_bucket (left c.self.inside.size (second_of c.args.moment) c.self.inside.ring.items)
staying_is c = c.drop_fallen-staying.ensures.totals ∙ ap (λ (ring : Buffer Bucket). sum_of totals_of_bucket ring.items) c.drop_fallen-staying.ensures.ring

ring_is : (c : After-add) → c.add.new.ring ≡ buffer (noted (second_of c.args.moment) (one_note c.args.failed c.args.slow) (left c.self.inside.size (second_of c.args.moment) c.self.inside.ring.items)) c.self.inside.size
ring_is c =
    c.add.ensures
    ∙ ap (λ (ring : Buffer Bucket). buffer (keep_last ring.capacity (noted (second_of c.args.moment) c.one_note-one.result ring.items)) ring.capacity)
    (c.drop_fallen-staying.ensures.ring ∙ ap (buffer (left c.self.inside.size (second_of c.args.moment) c.self.inside.ring.items)) c.self.invariant.capacity)
    ∙ ap (λ (one : Totals). buffer (keep_last c.self.inside.size (noted (second_of c.args.moment) one (left c.self.inside.size (second_of c.args.moment) c.self.inside.ring.items))) c.self.inside.size) c.one_note-one.ensures
    ∙ ap (λ (ys : List Bucket). buffer ys c.self.inside.size) (noted_whole c.self.inside.size c.args.moment (one_note c.args.failed c.args.slow) c.self.inside.ring.items c.self.invariant.some c.self.invariant.ordered)

pub add-requires : goal.add-requires
add-requires c =
    let before = (goal.at.add-requires c).After-drop_fallen-staying in
    let fits : AreTotals (2 ^ 64 - 1) (plus (sum_of totals_of_bucket (left c.self.inside.size (second_of c.args.moment) c.self.inside.ring.items)) c.one_note-one.result) =
    rw c.one_note-one.ensures (room_fits c.self.inside.size (second_of c.args.moment) c.self.inside.ring.items c.args.failed c.args.slow (room before)) in
    subst (λ (t : Totals). AreTotals (2 ^ 64 - 1) (plus t c.one_note-one.result)) (sym (staying_is before) ∙ c.drop_fallen-staying.ensures.totals) fits

pub plus-self-inside-requires : goal.plus-self-inside-requires
plus-self-inside-requires c = rw (staying_is (goal.at.plus-self-inside-requires c).After-drop_fallen-staying, c.one_note-one.ensures)
    (room_fits c.self.inside.size (second_of c.args.moment) c.self.inside.ring.items c.args.failed c.args.slow (room (goal.at.plus-self-inside-requires c).After-drop_fallen-staying))

pub invariant_of-self : goal.invariant_of-self
invariant_of-self c =
    let all = goal.at.invariant_of-self c in
    let is = ring_is all.After-add in
    record {
      some = c.self.invariant.some;
      few = c.self.invariant.few;
      capacity = ap (λ (ring : Buffer Bucket). ring.capacity) is;
      ordered = rw is (noted_in_order c.self.inside.size c.args.moment (one_note c.args.failed c.args.slow) c.self.inside.ring.items c.self.invariant.some c.self.invariant.ordered);
      counted = rw is (noted_counted (second_of c.args.moment) c.args.failed c.args.slow (left c.self.inside.size (second_of c.args.moment) c.self.inside.ring.items) (left_all c.self.inside.size (second_of c.args.moment) IsCounted c.self.inside.ring.items c.self.invariant.counted));
      summed = rw (c.plus-self-inside.ensures, staying_is all.After-drop_fallen-staying, c.one_note-one.ensures, is) (sym (noted_sum (second_of c.args.moment) (one_note c.args.failed c.args.slow) (left c.self.inside.size (second_of c.args.moment) c.self.inside.ring.items)));
    }

pub returns-clause-kept : goal.returns-clause-kept
returns-clause-kept c =
    let all = goal.at.returns-clause-kept c in
    rw (ring_is all.After-add, ← c.self.view_is) (λ notes kept after.
    keeps_noted (record { size = c.self.inside.size; buckets = c.self.inside.ring.items }) notes (record { moment = c.args.moment; failed = c.args.failed; slow = c.args.slow }) c.self.invariant.some c.self.invariant.ordered kept after)
