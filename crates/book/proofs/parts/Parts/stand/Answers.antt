use Rattle.std.proofs.Common.{subst}
use Rattle.breaker.specs.Situations as breakers
use Rattle.breaker.specs.Situations.{BreakerSituation}
use Rattle.book.proofs.Settled.{stand_followed}
use Rattle.book.proofs.parts.Parts.stand.Goals as goal

pub returns-clause-stands : goal.returns-clause-stands
returns-clause-stands c = λ held s stands orderly later before. record {
  configured = stands.configured;
  stands = subst (λ (t : BreakerSituation). breakers.StandsFor c.follow.new.self t) (stand_followed s c.args.next c.args.note later orderly.periods) (c.follow.ensures.stands _ stands.stands before);
  places = stands.places;
  registered = record { first = stands.registered.first; some = stands.registered.some; versions = stands.registered.versions; needed = stands.registered.needed; tickets = stands.registered.tickets; next = stands.registered.next };
  entered = stands.entered;
}
