use Rattle.std.proofs.Common.{◌≡◌, ◌≤◌}
use Rattle.http_seats.specs.Slots.{seats_of}
use Rattle.http_seats.proofs.slots.seats.Given as goal

abbrev pub invariant-loop : goal.invariant-loop
invariant-loop l = record {
  given : l.desk.seats ≡ l.counter;
  within : l.counter ≤ l.count;
  names : l.desk.names ≡ l.initial.desk.names;
  tables : l.desk.tables ≡ l.initial.desk.tables;
  origins : l.desk.origins ≡ l.initial.desk.origins;
  seated : l.seats.items ≡ seats_of l.initial.desk.tables l.initial.desk.origins 1 l.counter;
}
