use Rattle.std.proofs.Common.{rules}
use Rattle.service_file.proofs.settings.verified.Goals as goal

pub returns-in-Some-clause-layout : goal.returns-in-Some-clause-layout
returns-in-Some-clause-layout c = search rules

pub returns-in-Some-clause-refused : goal.returns-in-Some-clause-refused
returns-in-Some-clause-refused c = search rules

pub returns-in-Some-clause-verified : goal.returns-in-Some-clause-verified
returns-in-Some-clause-verified c = search rules
