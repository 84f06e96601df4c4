use Rattle.std.proofs.Common.{◌≡◌, List, length, Some, arith, ap, sym, ◌∙◌, subst}
use Rattle.breaker.specs.Situations as breakers
use Rattle.breaker.specs.Situations.{BreakerSituation}
use Rattle.registry.specs.Registries.{Ascend}
use Rattle.service_profile.specs.declared.standings.Standing.{Standing}
use Rattle.service_profile.specs.declared.tickets.OpenTicket.{OpenTicket}
use Rattle.service_profile.specs.Machine.{Situation, open_ticket}
use Rattle.book.specs.Situations.{breaker_of}
use Rattle.book.proofs.Held.{place_ended}
use Rattle.book.proofs.Settled.{ended_open, some_held, stand_without, back_standing, nothing_ends, place_given, registered_without}
use Rattle.book.proofs.parts.Parts.end.Goals as goal

pub give_back-requires : goal.give_back-requires
give_back-requires c = λ same.
    let s : Situation = c.requires.situation in
    let stands = c.requires.stands in
    let found : open_ticket s.open_tickets c.args.ticket ≡ Some c.in-Ok.ended = ap (λ (ts : List OpenTicket). open_ticket ts c.args.ticket) stands.registered.tickets ∙ ended_open c.args.self.now.registry c.args.ticket c.in-Ok.ended (sym c.end.ensures.ticket ∙ c.in-Ok.is) in
    let ascend : Ascend s.open_tickets = subst Ascend (sym stands.registered.tickets) c.open_count-open.ensures.ascending in
    omega (arith, some_held s c.args.ticket c.in-Ok.ended ascend found (same ∙ ap (λ (n : Standing). n.period) stands.stands.standing), stands.stands.held)

pub returns-in-Ok-clause-standing : goal.returns-in-Ok-clause-standing
returns-in-Ok-clause-standing c =
    let after = c.give_back.ensures (breaker_of c.requires.situation) c.requires.stands.stands in
    after.standing ∙ back_standing c.in-Ok.ended.period (breaker_of c.requires.situation) ∙ sym c.requires.stands.stands.standing

pub returns-in-Ok-clause-stands : goal.returns-in-Ok-clause-stands
returns-in-Ok-clause-stands c = λ held s stands.
    let found : open_ticket s.open_tickets c.args.ticket ≡ Some c.in-Ok.ended = ap (λ (ts : List OpenTicket). open_ticket ts c.args.ticket) stands.registered.tickets ∙ ended_open c.args.self.now.registry c.args.ticket c.in-Ok.ended (sym c.end.ensures.ticket ∙ c.in-Ok.is) in
    let ascend : Ascend s.open_tickets = subst Ascend (sym stands.registered.tickets) c.open_count-open.ensures.ascending in
    record {
      configured = stands.configured;
      stands = subst (λ (t : BreakerSituation). breakers.StandsFor c.give_back.new.self t) (stand_without s c.args.ticket c.in-Ok.ended ascend found) (c.give_back.ensures (breaker_of s) stands.stands);
      places = place_given _ c.leave.new.self s.config.max_concurrent_calls (length s.open_tickets) _ stands.places c.leave.ensures (place_ended c.args.ticket s.open_tickets c.in-Ok.ended ascend found);
      registered = registered_without c.args.self.now.registry c.end.new.self s c.args.ticket c.end.ensures.others stands.registered;
      entered = stands.entered;
    }

pub returns-in_default-clause-stands : goal.returns-in_default-clause-stands
returns-in_default-clause-stands c = λ held s stands.
    let same = nothing_ends c.args.self.now.registry c.end.new.self s c.args.ticket c.end.ensures.others c.in_default.ensures.err stands.registered in
    record {
      configured = stands.configured;
      stands = subst (λ (t : Situation). breakers.StandsFor c.args.self.now.breaker (breaker_of t)) same stands.stands;
      places = stands.places ∙ ap (λ (t : Situation). record { places = t.config.max_concurrent_calls; taken = length t.open_tickets }) same;
      registered = registered_without c.args.self.now.registry c.end.new.self s c.args.ticket c.end.ensures.others stands.registered;
      entered = stands.entered;
    }
