use Rattle.std.proofs.Common.{◌≡◌, ℕ, ◌+◌, ◌==◌, ◌∷◌, [], ◌++◌, None, length, length-append, arith, refl, ap, sym, ◌∙◌, subst}
use Rattle.breaker.specs.Situations as breakers
use Rattle.breaker.specs.Situations.{BreakerSituation}
use Rattle.service_profile.specs.declared.tickets.OpenTicket.{OpenTicket}
use Rattle.book.specs.Following.{standing_so}
use Rattle.book.specs.Situations.{next_open, breaker_of}
use Rattle.book.proofs.Lists.{length_filter_le}
use Rattle.book.proofs.Settled.{stand_followed, one_taken, stand_with, place_taken, registered_with}
use Rattle.book.proofs.parts.Parts.admit.Goals as goal

pub take_permission-requires : goal.take_permission-requires
take_permission-requires c =
    let s = c.requires.situation.situation in
    omega (arith, c.follow.ensures.held, c.requires.situation.stands.stands.held, length_filter_le (λ (t : OpenTicket). t.period == s.standing.period) s.open_tickets, c.requires.situation.orderly.tickets)

pub returns-clause-stands : goal.returns-clause-stands
returns-clause-stands c = λ held s stands orderly later free.
    let ticket : OpenTicket = next_open s c.args.next.period c.args.moment in
    let followed_ = subst (λ (t : BreakerSituation). breakers.StandsFor c.follow.new.self t) (stand_followed s c.args.next None later orderly.periods) (c.follow.ensures.stands _ stands.stands tt) in
    let taken = one_taken c.follow.new.self c.take_permission.new.self (breaker_of (standing_so s c.args.next None)) c.take_permission.ensures followed_ in
    let count : length s.open_tickets + 1 ≡ length (s.open_tickets ++ ticket ∷ []) = sym (length-append s.open_tickets (ticket ∷ [])) in
    record {
      configured = stands.configured;
      stands = subst (λ (t : BreakerSituation). breakers.StandsFor c.take_permission.new.self t) (stand_with (standing_so s c.args.next None) ticket refl) taken;
      places = place_taken _ c.enter.new.self s.config.max_concurrent_calls (length s.open_tickets) stands.places c.enter.ensures.places free ∙ ap (λ (n : ℕ). record { places = s.config.max_concurrent_calls; taken = n }) count;
      registered = registered_with c.args.self.now.registry c.issue.new.self s c.args.next c.args.moment c.in_ok-issue.ensures.ok stands.registered;
      entered = stands.entered;
    }
