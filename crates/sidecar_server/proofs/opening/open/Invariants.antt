use Rattle.std.proofs.Common.{◌≡◌, ◌++◌, List}
use Rattle.std.specs.Vec.Iter.{into_iter_items}
use Rattle.service_file.specs.declared.settings.ServiceSettings.{ServiceSettings}
use Rattle.sidecar_server.specs.Opened.{AreOpened}
use Rattle.sidecar_server.proofs.opening.open.Given as goal

abbrev pub invariant-loop-service : goal.invariant-loop-service
invariant-loop-service l =
    (goal.iterator-loop-service).can_next l.service-iterator ×
    (goal.iterator-loop-service).is_finite l.service-iterator ×
    ((done : List ServiceSettings) × (l.fn.services.items ≡ done ++ into_iter_items l.service-iterator) × AreOpened l.fn.first_ticket done l.named.items)
