-- How a row of the code stands for one of the table: a helper, nothing to be believed.
use Rattle.std.specs.Prelude.{◌≡◌}
use Rattle.refusals.specs.Table.{Row}
use Rattle.refusals.specs.declared.Row as coded

abbrev pub IsRow : Row → coded.Row → Type 0
IsRow row found = (found.number ≡ row.number) × (found.name.now ≡ row.name) × (found.status ≡ row.status) × (found.is_answered ≡ row.is_answered)
