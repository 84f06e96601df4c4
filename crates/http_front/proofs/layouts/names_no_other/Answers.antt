use Rattle.std.proofs.Common.{rules}
use Rattle.http_front.proofs.layouts.names_no_other.Goals as goal

pub returns-else-not-starts_with : goal.returns-else-not-starts_with
returns-else-not-starts_with c = search rules
