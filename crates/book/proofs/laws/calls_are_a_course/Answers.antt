use Rattle.book.proofs.Driven.{from_an_opening}
use Rattle.book.proofs.laws.calls_are_a_course.Goals as goal

pub returns : goal.returns
returns c = from_an_opening
