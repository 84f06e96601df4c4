use Rattle.std.proofs.Common.{String, Global, ◌≡◌, ◌∙◌, ◌+◌, ◌++◌, [], ◌∷◌, length, map, ap, refl, arith, length-append}
use Rattle.std.specs.Prelude.{string_bytes}
use Rattle.std.specs.Vec.Iter.{into_iter_items}
use Rattle.service_profile.specs.declared.configuration.Config.{Config}
use Rattle.verifier.specs.declared.verified.Verified.{Verified}
use Rattle.desk.specs.declared.desks.LockedService.{LockedService}
use Rattle.desk.proofs.Descent.{opens_one}
use Rattle.desk.proofs.Places.{more_names, handed_on}
use Rattle.desk.proofs.desks.behind_locks.Goals as goal

pub loop-name-preserved : goal.loop-name-preserved
loop-name-preserved g c =
    let done = c.loop-name.invariant.2.0 in
    let later = into_iter_items c.next.new.self in
    let part : String Global × Config × Verified = (c.in-Some.name, c.in-Some.config, c.in-Some.program) in
    let service : LockedService g.row.L.Denot g.row.M.Denot = record { name = c.in-Some.name; kept = tt } in
    let whole : c.args.services.items ≡ done ++ (part ∷ later) = c.loop-name.invariant.2.1 ∙ ap (λ rest. done ++ rest) c.in-Some.ensures.steps.0 in
    let items : c.push.new.self.items ≡ c.loop-name.behind.items ++ service ∷ [] = c.in_ok-push.ensures.items in
    let names : map (λ s. string_bytes s.name) c.push.new.self.items ≡ map (λ s. string_bytes s.0) (done ++ part ∷ []) =
    rw items (more_names (λ s. string_bytes s.name) (λ s. string_bytes s.0) c.loop-name.behind.items done service part c.loop-name.invariant.2.2 refl) in
    let one : length c.push.new.self.items ≡ length c.loop-name.behind.items + 1 = rw items (length-append c.loop-name.behind.items (service ∷ [])) in
    let more : length (done ++ part ∷ []) ≡ length done + 1 = length-append done (part ∷ []) in (
      tt,
      tt,
      (
        done ++ part ∷ [],
        whole ∙ handed_on done part later,
        names,
        omega (arith, one, more, c.loop-name.invariant.2.3),
        omega (arith, one, c.loop-name.invariant.2.4, c.in_ok-opened.ensures.entry_parts),
        c.in_ok-opened.ensures.no_entry,
        omega (arith, one, c.loop-name.invariant.2.6, c.in_ok-opened.ensures.entries),
        omega (arith, one, c.loop-name.invariant.2.7, c.in_ok-opened.ensures.cut_parts),
        c.in_ok-opened.ensures.no_cut,
        omega (arith, one, c.loop-name.invariant.2.9, c.in_ok-opened.ensures.cuts),
      ),
    )

-- its book is that of one of the services that are opened
pub opened-requires-clause-of_service : goal.opened-requires-clause-of_service
opened-requires-clause-of_service g c =
    let done = c.loop-name.invariant.2.0 in
    let later = into_iter_items c.next.new.self in
    let part : String Global × Config × Verified = (c.in-Some.name, c.in-Some.config, c.in-Some.program) in
    let whole : c.args.services.items ≡ done ++ (part ∷ later) = c.loop-name.invariant.2.1 ∙ ap (λ rest. done ++ rest) c.in-Some.ensures.steps.0 in
    opens_one c.args.first_ticket done later part g.M.Offered.services c.args.services.items c.requires.offered whole
