use Rattle.std.proofs.Common.{rules}
use Rattle.book.proofs.machine.note_of.Goals as goal

pub returns : goal.returns
returns c = search rules
