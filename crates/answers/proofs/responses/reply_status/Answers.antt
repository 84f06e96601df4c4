use Rattle.std.proofs.Common.{rules}
use Rattle.answers.proofs.responses.reply_status.Goals as goal

pub returns-in-Refused : goal.returns-in-Refused
returns-in-Refused c = search rules
