use Rattle.std.proofs.Common.{rules}
use Rattle.server_output.proofs.lines.refuse_for.Goals as goal

pub returns-in-Refused-clause-refused : goal.returns-in-Refused-clause-refused
returns-in-Refused-clause-refused g c = search rules

pub returns-in_default : goal.returns-in_default
returns-in_default g c = search rules
