use Rattle.book.specs.Interleavings.{begun}
use Rattle.service_profile.specs.Machine.{carried, meant}
use Rattle.book.proofs.Worlds.{carried_alike, meant_alike, course_well, begun_world}
use Rattle.book.proofs.laws.interleavings_are_documented.Goals as goal

pub returns : goal.returns
returns g c = λ opening acts given after good program steps.
    let safely = c.accepted_are_safe.ensures in
    let world = begun_world g.A.Acceptance.accepts opening good program in (
      λ course. (course_well g.A.Acceptance.accepts safely carried meant carried_alike meant_alike (begun opening) acts given after world steps course).0,
      λ course. (course_well g.A.Acceptance.accepts safely meant carried meant_alike carried_alike (begun opening) acts given after world steps course).0,
    )
