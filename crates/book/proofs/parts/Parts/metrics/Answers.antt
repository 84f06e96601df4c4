use Rattle.book.specs.Situations.{breaker_of}
use Rattle.book.proofs.parts.Parts.metrics.Goals as goal

pub returns : goal.returns
returns c = λ held s stands before. c.metrics.ensures (breaker_of s) stands.stands before
