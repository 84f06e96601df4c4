use Rattle.std.proofs.Common.{◌≡◌, ◌∙◌, ap, sym, subst, map, List, [], ◌∷◌, ◌++◌}
use Rattle.std.specs.Vec.Iter.{into_iter_items}
use Rattle.service_file.specs.declared.services.ServicePart.{ServicePart}
use Rattle.service_file.specs.Parts.{service_data}
use Rattle.service_file.specs.Settled.{HasRefusal, AreServices}
use Rattle.service_file.proofs.Settling.{one_more, settled_more, refused_among}
use Rattle.service_file.proofs.settings.services.Goals as goal

pub returns-in-Err-clause-refused : goal.returns-in-Err-clause-refused
returns-in-Err-clause-refused c =
    let done : List ServicePart = c.loop-part.invariant.2.0 in
    let later : List ServicePart = into_iter_items c.next.new.self in
    let whole : c.args.parts.items ≡ done ++ (c.in-Some.part ∷ later) = c.loop-part.invariant.2.1 ∙ ap (λ rest. done ++ rest) c.in-Some.ensures.steps.0 in
    subst (λ items. HasRefusal (map service_data items)) (sym whole) (refused_among done c.in-Some.part later (rw c.in-Err.is at c.in_ok-service.ensures.refused))

pub loop-part-preserved : goal.loop-part-preserved
loop-part-preserved c =
    let done : List ServicePart = c.loop-part.invariant.2.0 in
    let later : List ServicePart = into_iter_items c.next.new.self in
    let whole : c.args.parts.items ≡ done ++ (c.in-Some.part ∷ later) = c.loop-part.invariant.2.1 ∙ ap (λ rest. done ++ rest) c.in-Some.ensures.steps.0 in
    let settled : AreServices (c.loop-part.services.items ++ c.in-Ok.service ∷ []) (map service_data (done ++ c.in-Some.part ∷ [])) = settled_more c.loop-part.services.items done c.in-Ok.service c.in-Some.part c.loop-part.invariant.2.2 (rw c.in-Ok.is at c.in_ok-service.ensures.settled) in
    (tt, tt, (done ++ c.in-Some.part ∷ [], whole ∙ one_more done c.in-Some.part later, subst (λ services. AreServices services (map service_data (done ++ c.in-Some.part ∷ []))) (sym c.in_ok-push-in-Ok.ensures.items) settled))
