use Rattle.std.proofs.Common.{rules}
use Rattle.desk.proofs.desks.Desk.close.Goals as goal

pub returns-then-is_err-clause-unclosed : goal.returns-then-is_err-clause-unclosed
returns-then-is_err-clause-unclosed g c = search rules

pub returns-clause-all_seats : goal.returns-clause-all_seats
returns-clause-all_seats g c = search rules

pub returns-clause-of_services : goal.returns-clause-of_services
returns-clause-of_services g c = search rules

pub returns-clause-agree : goal.returns-clause-agree
returns-clause-agree g c = search rules
