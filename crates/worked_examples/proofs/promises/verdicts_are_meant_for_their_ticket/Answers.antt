use Rattle.worked_examples.proofs.Small.{line_is_meant, unissued_is_not_meant, other_is_not_meant}
use Rattle.worked_examples.proofs.promises.verdicts_are_meant_for_their_ticket.Goals as goal

pub returns-clause-meant : goal.returns-clause-meant
returns-clause-meant c = line_is_meant c.work_is_tied_to_one_verdict.ensures.tied

pub returns-clause-unissued : goal.returns-clause-unissued
returns-clause-unissued c = unissued_is_not_meant

pub returns-clause-other : goal.returns-clause-other
returns-clause-other c = other_is_not_meant
