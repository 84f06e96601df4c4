use Rattle.service.proofs.Roomy.{never_full}
use Rattle.service.proofs.laws.no_event_meets_a_full_journal.Goals as goal

pub returns : goal.returns
returns c = never_full
