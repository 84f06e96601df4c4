use Rattle.std.proofs.Common.{◌≡◌, ◌+◌, ◌*◌, ℕ, List, length, map}
use Rattle.std.specs.List.{AllByRecursion}
use Rattle.std.specs.Prelude.{sum, vec_capacity}
use Rattle.book.specs.Good.{IsGood}
use Rattle.desk.specs.Kept.{AreOfSome, last_number, most_numbers, most_cuts}
use Rattle.desk.proofs.closing.merge_services.Given as goal

abbrev pub invariant-loop-service : goal.invariant-loop-service
invariant-loop-service g l = record {
  entry_parts : l.entries.parts + length l.services.items ≡ l.initial.entries.parts + length l.initial.services.items;
  entries : l.entries.amount + sum (map last_number l.books.items) + length l.services.items * most_numbers ≡ l.initial.entries.amount + length l.initial.services.items * most_numbers;
  cut_parts : l.cuts.parts + length l.services.items ≡ l.initial.cuts.parts + length l.initial.services.items;
  cuts : (numbers : List ℕ) × AreOfSome g.M.Offered.services numbers l.books.items × (l.cuts.amount + sum numbers + length l.services.items * most_cuts ≡ l.initial.cuts.amount + length l.initial.services.items * most_cuts);
  count : length l.books.items + length l.services.items ≡ length l.initial.services.items;
  room : vec_capacity l.books ≡ vec_capacity l.initial.books;
  good : AllByRecursion IsGood l.books.items;
}

abbrev pub decreases-loop-service : goal.decreases-loop-service
decreases-loop-service g l = length l.services.items
