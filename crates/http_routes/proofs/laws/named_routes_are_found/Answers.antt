use Rattle.http_routes.proofs.Named.{named-asked}
use Rattle.http_routes.proofs.laws.named_routes_are_found.Goals as goal

pub returns : goal.returns
returns c = named-asked
