use Rattle.std.proofs.Common.{rules}
use Rattle.http_seats.proofs.seated.SeatedAnswererAnswerer.ask.Goals as goal

pub returns-clause-answered : goal.returns-clause-answered
returns-clause-answered g c = search rules

pub returns-clause-names : goal.returns-clause-names
returns-clause-names g c = search rules
