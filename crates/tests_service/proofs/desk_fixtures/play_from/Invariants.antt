use Rattle.std.proofs.Common.{map}
use Rattle.desk.specs.Services.{service_from}
use Rattle.tests_service.proofs.desk_fixtures.play_from.Given as goal

abbrev pub ghosts-play_at-L-Ledger : goal.ghosts-play_at-L-Ledger
ghosts-play_at-L-Ledger g a = record { name = a.entries.name; parts = a.entries.parts }

abbrev pub ghosts-play_at-M-Ledger : goal.ghosts-play_at-M-Ledger
ghosts-play_at-M-Ledger g a = record { name = a.cuts.name; parts = a.cuts.parts }

abbrev pub ghosts-play_at-M-Offered : goal.ghosts-play_at-M-Offered
ghosts-play_at-M-Offered g a = record { services = map (service_from a.first_ticket) a.services.items }
