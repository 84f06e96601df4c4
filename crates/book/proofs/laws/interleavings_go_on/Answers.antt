use Rattle.book.proofs.Courses.{course, course_taken, course_has_memory}
use Rattle.book.proofs.laws.interleavings_go_on.Goals as goal

pub returns : goal.returns
returns c = λ judging world acts.
    let all = course judging world acts in
    (all.given, all.world, course_taken judging world acts, course_has_memory judging world acts)
