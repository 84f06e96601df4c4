use Rattle.book.proofs.Courses.{course_settled}
use Rattle.book.proofs.laws.answers_are_settled.Goals as goal

pub returns : goal.returns
returns c = course_settled
