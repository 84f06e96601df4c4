use Rattle.std.proofs.Common.{◌≡◌, ◌∙◌, ap, List, [], ◌∷◌, ◌++◌}
use Rattle.std.specs.Vec.Iter.{into_iter_items}
use Rattle.service_file.specs.declared.settings.ServiceSettings.{ServiceSettings}
use Rattle.sidecar_server.specs.Opened.{AreOpened}
use Rattle.sidecar_server.proofs.Openings.{one_more, opened_more, opened_as}
use Rattle.sidecar_server.proofs.opening.open.Goals as goal

pub loop-service-preserved : goal.loop-service-preserved
loop-service-preserved c =
    let done : List ServiceSettings = c.loop-service.invariant.2.0 in
    let later : List ServiceSettings = into_iter_items c.next.new.self in
    let whole : c.args.services.items ≡ done ++ (c.in-Some.service ∷ later) = c.loop-service.invariant.2.1 ∙ ap (λ rest. done ++ rest) c.in-Some.ensures.steps.0 in
    let more : AreOpened c.args.first_ticket (done ++ c.in-Some.service ∷ []) (c.loop-service.named.items ++ c.in_ok-opened.field-0 ∷ []) = opened_more c.args.first_ticket done c.loop-service.named.items c.in-Some.service c.in_ok-opened.field-0 c.loop-service.invariant.2.2 c.in_ok-opened.ensures in
    (tt, tt, (done ++ c.in-Some.service ∷ [], whole ∙ one_more done c.in-Some.service later, opened_as c.args.first_ticket (done ++ c.in-Some.service ∷ []) (c.loop-service.named.items ++ c.in_ok-opened.field-0 ∷ []) c.push.new.self.items c.in_ok-push.ensures.items more))
