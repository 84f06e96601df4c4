use Rattle.book.proofs.Rolled.{endless}
use Rattle.book.proofs.laws.replies_are_full_or_those_of_an_endless_journal.Goals as goal

pub returns : goal.returns
returns c = endless
