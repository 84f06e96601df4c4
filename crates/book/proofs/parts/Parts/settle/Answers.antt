use Rattle.book.specs.Following.{without}
use Rattle.book.proofs.Settled.{noted, orderly_without}
use Rattle.book.proofs.parts.Parts.settle.Goals as goal

pub stand-requires-clause-situation : goal.stand-requires-clause-situation
stand-requires-clause-situation c = record {
  held = c.requires.situation.held;
  situation = without c.requires.situation.situation c.args.effects.ended;
  stands = c.end_some.ensures.stands _ _ c.requires.situation.stands;
  orderly = orderly_without c.requires.situation.situation c.args.effects.ended c.requires.situation.orderly;
}

pub returns-clause-stands : goal.returns-clause-stands
returns-clause-stands c = λ held s stands orderly changes.
    c.stand.ensures.stands held (without s c.args.effects.ended) (c.end_some.ensures.stands held s stands) (orderly_without s c.args.effects.ended orderly) changes.later (noted c.args.effects.note changes.note)
