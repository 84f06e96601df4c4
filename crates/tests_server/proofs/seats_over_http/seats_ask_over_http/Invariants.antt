use Rattle.std.proofs.Common.{map}
use Rattle.desk.specs.Services.{service_of}
use Rattle.tests_server.proofs.seats_over_http.seats_ask_over_http.Given as goal

abbrev pub ghosts-asked_by_two-L-Ledger : goal.ghosts-asked_by_two-L-Ledger
ghosts-asked_by_two-L-Ledger g a = record { name = a.entries.name; parts = a.entries.parts }

abbrev pub ghosts-asked_by_two-M-Ledger : goal.ghosts-asked_by_two-M-Ledger
ghosts-asked_by_two-M-Ledger g a = record { name = a.cuts.name; parts = a.cuts.parts }

abbrev pub ghosts-asked_by_two-M-Offered : goal.ghosts-asked_by_two-M-Offered
ghosts-asked_by_two-M-Offered g a = record { services = map service_of a.services.items }
