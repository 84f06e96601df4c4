use Rattle.book.specs.Situations.{breaker_of}
use Rattle.book.proofs.parts.Parts.after_note.Goals as goal

pub returns : goal.returns
returns c = λ held s stands before. c.after_note.ensures.exact (breaker_of s) stands.stands before
