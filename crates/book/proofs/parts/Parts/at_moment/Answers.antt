use Rattle.std.proofs.Common.{Option, unwrap_or, arith, ap, sym, subst}
use Rattle.service_profile.specs.declared.standings.Standing.{Standing}
use Rattle.service_profile.specs.Machine.{at_moment, overstays}
use Rattle.book.specs.Finding.{IsAsFound}
use Rattle.book.specs.Situations.{breaker_of}
use Rattle.book.proofs.Finds.{is_found, next_period}
use Rattle.book.proofs.parts.Parts.at_moment.Goals as goal

pub returns-clause-found : goal.returns-clause-found
returns-clause-found c = λ held s stands. record {
  before = s;
  stands = stands;
  found = subst (λ (o : Option Standing). IsAsFound o s (at_moment s c.args.moment)) (sym (c.after_stay.ensures (breaker_of s) stands.stands)) (is_found s c.args.moment);
}

pub returns-clause-situation : goal.returns-clause-situation
returns-clause-situation c =
    let s = c.requires.situation in
    let at = ap (λ (o : Option Standing). (unwrap_or o c.args.self.now.breaker.standing).period) (c.after_stay.ensures (breaker_of s) c.requires.stands.stands) in
    let next = next_period (overstays s c.args.moment) c.args.self.now.breaker.standing s.standing c.args.moment c.requires.stands.stands.standing in
    record { situation = c.requires; period = omega (arith, at, next, c.requires.orderly.period) }
