use Rattle.std.proofs.Common.{ap, refl, sym, ◌∙◌, ◌+◌}
use Rattle.slot_desk.specs.Desks.{DeskData}
use Rattle.slot_desk.proofs.Entries.{called_makes}
use Rattle.slot_desk.proofs.Places.{here, numbers_stay, counts_on, is_called_at}
use Rattle.slot_desk.proofs.desks.Desk.call.Goals as goal

pub call-answer-requires : goal.call-answer-requires
call-answer-requires g c = record { here = here c.self.inside.slots.items c.args.self.now c.seat.inside.number c.seat.inside.count c.seat.inside.places.items c.args.seat.now (ap (λ (d : DeskData). d.tables) c.self.view_is) c.seat.view_is c.requires.seat c.args.service c.requires.service c.place-at.result c.place-at.ensures _ _ c.index.ensures c.index_mut-place.ensures.value }

pub invariant_of-seat : goal.invariant_of-seat
invariant_of-seat g c = (
  numbers_stay c.self.inside.slots.items c.args.self.now c.seat.inside.number c.seat.inside.count c.seat.inside.places.items c.args.seat.now (ap (λ (d : DeskData). d.tables) c.self.view_is) c.seat.view_is c.requires.seat c.args.service c.requires.service c.place-at.result c.place-at.ensures _ c.index_mut-place.ensures.value _ c.call-answer.ensures.same _ c.seat.invariant.0,
  counts_on c.self.inside.slots.items c.args.self.now c.seat.inside.number c.seat.inside.count c.seat.inside.places.items c.args.seat.now (ap (λ (d : DeskData). d.tables) c.self.view_is) c.seat.view_is c.requires.seat c.args.service c.requires.service c.place-at.result c.place-at.ensures _ c.index_mut-place.ensures.value _ _ _ refl (called_makes _ (g.C.Call.called c.args.call) (g.C.Call.answered c.call-answer.result.0) _ _ c.call-answer.ensures.called ∙ ap (λ n. c.index_mut-place.result.now.view.entries + n) (sym c.call-answer.ensures.made)) c.seat.invariant.1,
)

pub returns : goal.returns
returns g c = record {
  called = is_called_at c.self.inside.slots.items c.args.self.now c.seat.inside.number c.seat.inside.count c.seat.inside.places.items c.args.seat.now (ap (λ (d : DeskData). d.tables) c.self.view_is) c.seat.view_is c.requires.seat c.args.service c.requires.service c.place-at.result c.place-at.ensures _ c.index_mut-place.ensures.value _ c.call-answer.ensures.same _ c.seat.invariant.0 (g.C.Call.called c.args.call) (g.C.Call.answered c.call-answer.result.0) c.call-answer.result.1 _ c.call-answer.ensures.made refl c.call-answer.ensures.called;
}
