use Rattle.std.proofs.Common.{◌≡◌, List, None, ap, sym, subst}
use Rattle.service_profile.specs.declared.tickets.OpenTicket.{OpenTicket}
use Rattle.service_profile.specs.Machine.{Situation}
use Rattle.book.specs.Following.{without}
use Rattle.book.specs.Situations.{StandsFor}
use Rattle.book.proofs.Lists.{all_kept}
use Rattle.book.proofs.parts.Parts.end_some.Goals as goal

pub returns-in-Some-clause-stands : goal.returns-in-Some-clause-stands
returns-in-Some-clause-stands c = λ held s stands. rw c.in-Some.is (c.end.ensures.stands held s stands)

pub returns-in_default-clause-stands : goal.returns-in_default-clause-stands
returns-in_default-clause-stands c = λ held s stands.
    let same : s ≡ without s None = ap (λ (ts : List OpenTicket). record s { open_tickets = ts }) (sym (all_kept s.open_tickets)) in
    rw c.in_default.is (subst (λ (t : Situation). StandsFor c.args.self.now held t) same stands)
