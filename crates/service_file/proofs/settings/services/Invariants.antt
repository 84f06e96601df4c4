use Rattle.std.proofs.Common.{◌≡◌, ◌++◌, List, map}
use Rattle.std.specs.Vec.Iter.{into_iter_items}
use Rattle.service_file.specs.declared.services.ServicePart.{ServicePart}
use Rattle.service_file.specs.Parts.{service_data}
use Rattle.service_file.specs.Settled.{AreServices}
use Rattle.service_file.proofs.settings.services.Given as goal

abbrev pub invariant-loop-part : goal.invariant-loop-part
invariant-loop-part l =
    (goal.iterator-loop-part).can_next l.part-iterator ×
    (goal.iterator-loop-part).is_finite l.part-iterator ×
    ((done : List ServicePart) × (l.fn.parts.items ≡ done ++ into_iter_items l.part-iterator) × AreServices l.services.items (map service_data done))
