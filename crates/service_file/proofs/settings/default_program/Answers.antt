use Rattle.std.proofs.Common.{rules}
use Rattle.service_file.proofs.settings.default_program.Goals as goal

pub returns-in-Two-clause-layout : goal.returns-in-Two-clause-layout
returns-in-Two-clause-layout c = search rules

pub returns-in-Two-clause-refused : goal.returns-in-Two-clause-refused
returns-in-Two-clause-refused c = search rules
