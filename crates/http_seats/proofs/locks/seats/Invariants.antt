use Rattle.std.proofs.Common.{◌≡◌, ◌≤◌}
use Rattle.http_seats.specs.Locks.{seats_of}
use Rattle.http_seats.proofs.locks.seats.Given as goal

abbrev pub invariant-loop : goal.invariant-loop
invariant-loop g l = record {
  given : l.desk.seats ≡ l.counter;
  within : l.counter ≤ l.count;
  services : l.desk.services ≡ l.initial.desk.services;
  seated : l.seats.items ≡ seats_of 1 l.counter;
}
