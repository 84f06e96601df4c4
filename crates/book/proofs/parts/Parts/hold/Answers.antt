use Rattle.std.proofs.Common.{◌≡◌, List, None, ap, sym, subst, append-nil}
use Rattle.std.specs.Arc.{arc_value}
use Rattle.bpf_profile.specs.Programs.{VerifiedProgram}
use Rattle.service_profile.specs.Machine.{Situation}
use Rattle.book.specs.Following.{installed_in}
use Rattle.book.specs.Situations.{StandsFor}
use Rattle.book.proofs.Versions.{registered_more}
use Rattle.book.proofs.parts.Parts.hold.Goals as goal

pub returns-in-Some-clause-stands : goal.returns-in-Some-clause-stands
returns-in-Some-clause-stands c = λ held s stands. rw c.in-Some.is (record {
  configured = stands.configured;
  stands = stands.stands;
  places = stands.places;
  registered = registered_more c.args.self.now.registry c.hold.new.self s (arc_value c.in-Some.program) _ c.hold.ensures.programs stands.registered;
  entered = stands.entered;
})

pub returns-in_default-clause-stands : goal.returns-in_default-clause-stands
returns-in_default-clause-stands c = λ held s stands.
    let same : s ≡ installed_in s None = ap (λ (ps : List VerifiedProgram). record s { programs = ps }) (sym (append-nil s.programs)) in
    rw c.in_default.is (subst (λ (t : Situation). StandsFor c.args.self.now held t) same stands)
