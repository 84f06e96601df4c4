use Rattle.std.proofs.Common.{rules}
use Rattle.texts.proofs.outcomes.front.Goals as goal

pub returns-in_err-read_padded : goal.returns-in_err-read_padded
returns-in_err-read_padded c = search rules

pub returns-in_ok-read_padded : goal.returns-in_ok-read_padded
returns-in_ok-read_padded c = search rules
