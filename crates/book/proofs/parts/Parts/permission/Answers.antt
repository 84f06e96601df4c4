use Rattle.book.specs.Situations.{breaker_of}
use Rattle.book.proofs.parts.Parts.permission.Goals as goal

pub returns : goal.returns
returns c = λ held s stands. c.permission.ensures.exact (breaker_of s) stands.stands
