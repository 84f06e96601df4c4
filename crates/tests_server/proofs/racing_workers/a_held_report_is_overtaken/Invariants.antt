use Rattle.std.proofs.Common.{map}
use Rattle.desk.specs.Services.{service_of}
use Rattle.tests_server.proofs.racing_workers.a_held_report_is_overtaken.Given as goal

abbrev pub ghosts-reports_of_two_workers-L-Ledger : goal.ghosts-reports_of_two_workers-L-Ledger
ghosts-reports_of_two_workers-L-Ledger g a = record { name = a.entries.name; parts = a.entries.parts }

abbrev pub ghosts-reports_of_two_workers-M-Ledger : goal.ghosts-reports_of_two_workers-M-Ledger
ghosts-reports_of_two_workers-M-Ledger g a = record { name = a.cuts.name; parts = a.cuts.parts }

abbrev pub ghosts-reports_of_two_workers-M-Offered : goal.ghosts-reports_of_two_workers-M-Offered
ghosts-reports_of_two_workers-M-Offered g a = record { services = map service_of a.services.items }
