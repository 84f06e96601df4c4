use Rattle.http_routes.proofs.Readings.{asked_at-read}
use Rattle.http_routes.proofs.laws.found_routes_are_named.Goals as goal

pub returns : goal.returns
returns c = asked_at-read
