use Rattle.book.proofs.Runs.{invisible}
use Rattle.book.proofs.laws.rolling_is_invisible.Goals as goal

pub returns : goal.returns
returns c = invisible
