use Rattle.std.proofs.Common.{ℕ, ◌+◌, length, arith, refl, ap, subst}
use Rattle.std.specs.Arc.{arc_value}
use Rattle.std.specs.Option.{option_map}
use Rattle.service_profile.specs.Machine.{Situation}
use Rattle.book.specs.declared.parts.Parts.{Parts}
use Rattle.book.specs.Situations.{StandsFor}
use Rattle.book.proofs.Settled.{any_err, followed_so, installs_some}
use Rattle.book.proofs.Versions.{held_count}
use Rattle.book.proofs.parts.Parts.follow.Goals as goal

pub returns-in_err-change-clause-unchanged : goal.returns-in_err-change-clause-unchanged
returns-in_err-change-clause-unchanged c =
    let unchanged : (held : ℕ) (s : Situation) → StandsFor c.args.self.now held s → StandsFor c.change.new.self held s = λ held s stands. c.in_err-change.ensures.unchanged held s (c.make_room.ensures.stands held s stands) in
    any_err _ unchanged

pub hold-requires-clause-few : goal.hold-requires-clause-few
hold-requires-clause-few c =
    installs_some arc_value c.args.installed _ refl (λ program e.
    omega (arith, c.requires.situation.few program e, ap length c.change.ensures.kept.programs, held_count c.make_room.new.self.registry c.requires.situation.situation (c.make_room.ensures.stands _ _ c.requires.situation.stands).registered))

pub returns-clause-stands : goal.returns-clause-stands
returns-clause-stands c = λ held s stands orderly changes.
    let room = c.make_room.ensures.stands held s stands in
    let there = c.hold.ensures.stands held _ (c.in_ok-change.ensures.stands held s room orderly changes) in
    let after : Parts = record { config = c.hold.new.self.config; breaker = c.hold.new.self.breaker; bulkhead = c.hold.new.self.bulkhead; registry = c.hold.new.self.registry; refused = c.refused_after-self.result } in
    subst (λ (t : Situation). StandsFor after (held + 1) t) (followed_so s c.args.next c.args.effects (option_map arc_value c.args.installed) changes)
    (record {
      configured = there.configured;
      stands = there.stands;
      places = there.places;
      registered = record { first = there.registered.first; some = there.registered.some; versions = there.registered.versions; needed = there.registered.needed; tickets = there.registered.tickets; next = there.registered.next };
      entered = ap (λ (n : ℕ). n + 1) stands.entered;
    })
