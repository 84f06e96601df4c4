use Rattle.book.specs.Interleavings.{begun}
use Rattle.service_profile.specs.Machine.{meant}
use Rattle.book.proofs.Worlds.{meant_alike, course_well, begun_world}
use Rattle.book.proofs.laws.interleavings_are_legal.Goals as goal

pub returns : goal.returns
returns g c = λ opening acts given after good program steps course.
    let safely = c.accepted_are_safe.ensures in
    (course_well g.A.Acceptance.accepts safely meant meant meant_alike meant_alike (begun opening) acts given after (begun_world g.A.Acceptance.accepts opening good program) steps course).1
