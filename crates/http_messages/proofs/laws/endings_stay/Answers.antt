use Rattle.http_messages.proofs.Longer.{refused_stays, final_stays}
use Rattle.http_messages.proofs.laws.endings_stay.Goals as goal

pub returns-clause-refused : goal.returns-clause-refused
returns-clause-refused c = refused_stays

pub returns-clause-last : goal.returns-clause-last
returns-clause-last c = final_stays
