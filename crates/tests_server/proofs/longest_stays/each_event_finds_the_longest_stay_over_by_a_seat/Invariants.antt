use Rattle.std.proofs.Common.{map}
use Rattle.desk.specs.Services.{service_of}
use Rattle.tests_server.proofs.longest_stays.each_event_finds_the_longest_stay_over_by_a_seat.Given as goal

abbrev pub ghosts-are_answered_at_a_desk-L-Ledger : goal.ghosts-are_answered_at_a_desk-L-Ledger
ghosts-are_answered_at_a_desk-L-Ledger g a = record { name = a.entries.name; parts = a.entries.parts }

abbrev pub ghosts-are_answered_at_a_desk-M-Ledger : goal.ghosts-are_answered_at_a_desk-M-Ledger
ghosts-are_answered_at_a_desk-M-Ledger g a = record { name = a.cuts.name; parts = a.cuts.parts }

abbrev pub ghosts-are_answered_at_a_desk-M-Offered : goal.ghosts-are_answered_at_a_desk-M-Offered
ghosts-are_answered_at_a_desk-M-Offered g a = record { services = map service_of a.services.items }
