use Rattle.std.proofs.Common.{◌≡◌, ◌+◌, ◌-◌, length, arith, refl, ap, sym, ◌∙◌}
use Rattle.std.specs.Arc.{arc_value}
use Rattle.std.specs.Vec.{vec_len, vec_capacity}
use Rattle.std.proofs.lemmas.List.{length-map}
use Rattle.registry.specs.Registries.{RegistryData, current_version, least_needed, without_unneeded}
use Rattle.registry.specs.contracts.holdings.Registry.{the_view}
use Rattle.registry.proofs.Keeping.{least_falls, least_held, kept_needed}
use Rattle.registry.proofs.holdings.Registry.drop_unneeded.Goals as goal

pub overflow_sub-count : goal.overflow_sub-count
overflow_sub-count c =
    let r : RegistryData = the_view c.self.inside in
    let current = c.current_version.ensures ∙ ap current_version (sym c.self.view_is) in
    let held = least_held r.first_version (length r.programs) r.next_ticket (current_version r) r.open_tickets (omega arith) c.self.invariant.tickets in
    rw (c.least_version-least.ensures, current) held

pub drop_first-requires : goal.drop_first-requires
drop_first-requires c =
    let r : RegistryData = the_view c.self.inside in
    let current = c.current_version.ensures ∙ ap current_version (sym c.self.view_is) in
    let falls = least_falls (current_version r) r.open_tickets in
    let least : c.least_version-least.result ≡ least_needed r = rw (c.least_version-least.ensures, current) refl in
    let held = least_held r.first_version (length r.programs) r.next_ticket (current_version r) r.open_tickets (omega arith) c.self.invariant.tickets in
    omega (arith, least, falls, held, c.self.invariant.some, length-map c.self.inside.programs.items arc_value, c.self.inside.programs.ok.0)

-- the parts after it, as contracts see them
pub invariant_of-self : goal.invariant_of-self
invariant_of-self c =
    let r : RegistryData = the_view c.self.inside in
    let current = c.current_version.ensures ∙ ap current_version (sym c.self.view_is) in
    let least : c.least_version-least.result ≡ least_needed r = rw (c.least_version-least.ensures, current) refl in
    let falls = least_falls (current_version r) r.open_tickets in
    let held = least_held r.first_version (length r.programs) r.next_ticket (current_version r) r.open_tickets (omega arith) c.self.invariant.tickets in
    let room : vec_capacity c.drop_first.new.programs - vec_len c.drop_first.new.programs ≡ r.program_room + (least_needed r - r.first_version) =
    omega (arith, c.drop_first.ensures.len, c.drop_first.ensures.capacity, least, falls, held, c.self.invariant.some, length-map c.self.inside.programs.items arc_value, c.self.inside.programs.ok.0, c.self.inside.programs.ok.1) in
    rw (c.drop_first.ensures.programs, room, least) (kept_needed r c.self.invariant)

pub returns-clause-programs : goal.returns-clause-programs
returns-clause-programs c =
    let r : RegistryData = the_view c.self.inside in
    let current = c.current_version.ensures ∙ ap current_version (sym c.self.view_is) in
    let least : c.least_version-least.result ≡ least_needed r = rw (c.least_version-least.ensures, current) refl in
    let falls = least_falls (current_version r) r.open_tickets in
    let held = least_held r.first_version (length r.programs) r.next_ticket (current_version r) r.open_tickets (omega arith) c.self.invariant.tickets in
    let room : vec_capacity c.drop_first.new.programs - vec_len c.drop_first.new.programs ≡ r.program_room + (least_needed r - r.first_version) =
    omega (arith, c.drop_first.ensures.len, c.drop_first.ensures.capacity, least, falls, held, c.self.invariant.some, length-map c.self.inside.programs.items arc_value, c.self.inside.programs.ok.0, c.self.inside.programs.ok.1) in
    rw (c.drop_first.ensures.programs, room, least) refl ∙ ap without_unneeded c.self.view_is

pub returns-clause-held : goal.returns-clause-held
returns-clause-held c =
    let r : RegistryData = the_view c.self.inside in
    rw (← c.self.view_is) (least_held r.first_version (length r.programs) r.next_ticket (current_version r) r.open_tickets (omega arith) c.self.invariant.tickets)

pub returns-clause-needed : goal.returns-clause-needed
returns-clause-needed c = least_falls (current_version c.args.self.now) c.args.self.now.open_tickets
