use Rattle.std.proofs.Common.{rules}
use Rattle.texts.proofs.verdicts.verdict_name.Goals as goal

pub returns-in-Ignored : goal.returns-in-Ignored
returns-in-Ignored c = search rules
