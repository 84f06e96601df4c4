use Rattle.std.proofs.Common.{sym}
use Rattle.http_routes.proofs.Found.{text_finds}
use Rattle.http_routes.proofs.matching.Routes.route_of.Goals as goal

pub returns-in-Ok : goal.returns-in-Ok
returns-in-Ok c = sym (text_finds c.args.path.now c.args.self.now.router _ c.utf8.path c.args.self.now.are_all c.in-Ok.ensures.found)
