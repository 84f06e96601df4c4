use Rattle.std.proofs.Common.{◌≡◌, map, [], drop}
use Rattle.serde_json.specs.View.{items_view}
use Rattle.service_file.specs.Files.{services_after}
use Rattle.service_file.specs.Parts.{service_data}
use Rattle.service_file.proofs.services.services.Given as goal

abbrev pub invariant-loop-value : goal.invariant-loop-value
invariant-loop-value l = services_after [] (items_view l.values) ≡ services_after (map service_data l.services.items) (items_view (drop l.value-index l.values))
