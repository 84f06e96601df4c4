use Rattle.std.proofs.Common.{ap, refl, sym, arith, ◌∙◌, ◌+◌}
use Rattle.service_profile.specs.Calls.{applies, replies}
use Rattle.book.specs.Accepted.{seen}
use Rattle.slot_desk.specs.Desks.{DeskData}
use Rattle.slot_desk.proofs.Entries.{tried_makes, missed_makes}
use Rattle.slot_desk.proofs.Places.{here, numbers_stay, counts_on, is_tried_at, is_missed_at}
use Rattle.slot_desk.proofs.desks.Desk.try_call_with.Goals as goal

pub try_call_with-requires : goal.try_call_with-requires
try_call_with-requires g c = record { here = here c.self.inside.slots.items c.args.self.now c.seat.inside.number c.seat.inside.count c.seat.inside.places.items c.args.seat.now (ap (λ (d : DeskData). d.tables) c.self.view_is) c.seat.view_is c.requires.seat c.args.service c.requires.service c.place-at.result c.place-at.ensures _ _ c.index.ensures c.index_mut-place.ensures.value }

pub invariant_of-seat : goal.invariant_of-seat
invariant_of-seat g c = (
  numbers_stay c.self.inside.slots.items c.args.self.now c.seat.inside.number c.seat.inside.count c.seat.inside.places.items c.args.seat.now (ap (λ (d : DeskData). d.tables) c.self.view_is) c.seat.view_is c.requires.seat c.args.service c.requires.service c.place-at.result c.place-at.ensures _ c.index_mut-place.ensures.value _ c.try_call_with.ensures.same _ c.seat.invariant.0,
  counts_on c.self.inside.slots.items c.args.self.now c.seat.inside.number c.seat.inside.count c.seat.inside.places.items c.args.seat.now (ap (λ (d : DeskData). d.tables) c.self.view_is) c.seat.view_is c.requires.seat c.args.service c.requires.service c.place-at.result c.place-at.ensures _ c.index_mut-place.ensures.value _ _ _ refl (tried_makes _ (applies c.args.moment (seen c.args.event)) (replies c.in-Ok.reply) _ _ c.in-Ok.ensures.called ∙ ap (λ n. c.index_mut-place.result.now.view.entries + n) (sym c.in-Ok.ensures.made)) c.seat.invariant.1,
)

pub invariant_of-seat-in-Err : goal.invariant_of-seat-in-Err
invariant_of-seat-in-Err g c = (
  numbers_stay c.self.inside.slots.items c.args.self.now c.seat.inside.number c.seat.inside.count c.seat.inside.places.items c.args.seat.now (ap (λ (d : DeskData). d.tables) c.self.view_is) c.seat.view_is c.requires.seat c.args.service c.requires.service c.place-at.result c.place-at.ensures _ c.index_mut-place.ensures.value _ c.try_call_with.ensures.same _ c.seat.invariant.0,
  counts_on c.self.inside.slots.items c.args.self.now c.seat.inside.number c.seat.inside.count c.seat.inside.places.items c.args.seat.now (ap (λ (d : DeskData). d.tables) c.self.view_is) c.seat.view_is c.requires.seat c.args.service c.requires.service c.place-at.result c.place-at.ensures _ c.index_mut-place.ensures.value _ 0 _ (omega arith) (missed_makes _ _ c.in-Err.ensures.busy.1) c.seat.invariant.1,
)

pub returns-in-Ok-clause-called : goal.returns-in-Ok-clause-called
returns-in-Ok-clause-called g c =
    is_tried_at c.self.inside.slots.items c.args.self.now c.seat.inside.number c.seat.inside.count c.seat.inside.places.items c.args.seat.now (ap (λ (d : DeskData). d.tables) c.self.view_is) c.seat.view_is c.requires.seat c.args.service c.requires.service c.place-at.result c.place-at.ensures _ c.index_mut-place.ensures.value _ c.try_call_with.ensures.same _ c.seat.invariant.0 (applies c.args.moment (seen c.args.event)) (replies c.in-Ok.reply) c.in-Ok.made _ c.in-Ok.ensures.made refl c.in-Ok.ensures.called

pub returns-in-Err-clause-busy : goal.returns-in-Err-clause-busy
returns-in-Err-clause-busy g c =
    (c.in-Err.ensures.busy.0, is_missed_at c.self.inside.slots.items c.args.self.now c.seat.inside.number c.seat.inside.count c.seat.inside.places.items c.args.seat.now (ap (λ (d : DeskData). d.tables) c.self.view_is) c.seat.view_is c.requires.seat c.args.service c.requires.service c.place-at.result c.place-at.ensures _ c.index_mut-place.ensures.value _ c.try_call_with.ensures.same c.in-Err.ensures.busy.1)
