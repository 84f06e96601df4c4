use Rattle.std.proofs.Common.{sym}
use Rattle.http_seats.proofs.seated.SeatedAnswererAnswerer.count.Goals as goal

pub returns-clause-held : goal.returns-clause-held
returns-clause-held g c = λ place within. rw (sym c.self.view_is) (c.service_count.ensures.held place within)
