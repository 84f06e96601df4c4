use Rattle.std.proofs.Common.{ap}
use Rattle.slot_desk.specs.Desks.{DeskData}
use Rattle.slot_desk.proofs.Places.{here, view_stands}
use Rattle.slot_desk.proofs.desks.Desk.meet.Goals as goal

pub meet-requires-clause-one_here : goal.meet-requires-clause-one_here
meet-requires-clause-one_here c = here c.self.inside.slots.items c.args.self.now c.one.inside.number c.one.inside.count c.one.inside.places.items c.args.one.now (ap (λ (d : DeskData). d.tables) c.self.view_is) c.one.view_is c.requires.one c.args.service c.requires.service c.place-at.result c.place-at.ensures _ _ c.index.ensures c.index_mut-first.ensures.value

pub meet-requires-clause-other_here : goal.meet-requires-clause-other_here
meet-requires-clause-other_here c = here c.self.inside.slots.items c.args.self.now c.other.inside.number c.other.inside.count c.other.inside.places.items c.args.other.now (ap (λ (d : DeskData). d.tables) c.self.view_is) c.other.view_is c.requires.other c.args.service c.requires.service c.place-at.result c.place-at.ensures _ _ c.index.ensures c.index_mut-second.ensures.value

pub returns-clause-met : goal.returns-clause-met
returns-clause-met c = (
  c.index_mut-first.result.now.view,
  c.index_mut-second.result.now.view,
  view_stands c.self.inside.slots.items c.args.self.now c.one.inside.number c.one.inside.count c.one.inside.places.items c.args.one.now (ap (λ (d : DeskData). d.tables) c.self.view_is) c.one.view_is c.requires.one c.args.service c.requires.service c.place-at.result c.place-at.ensures _ c.index_mut-first.ensures.value,
  view_stands c.self.inside.slots.items c.args.self.now c.other.inside.number c.other.inside.count c.other.inside.places.items c.args.other.now (ap (λ (d : DeskData). d.tables) c.self.view_is) c.other.view_is c.requires.other c.args.service c.requires.service c.place-at.result c.place-at.ensures _ c.index_mut-second.ensures.value,
  c.meet.ensures.met,
)
