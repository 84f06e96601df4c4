-- Those who work at a desk.
use Rattle.std.specs.Prelude.{◌≡◌, List}
use Rattle.atomic_table.specs.Seated.{TableId}
use Rattle.slot_desk.specs.Desks.{DeskData}

-- what contracts see of a worker of a desk: its tables
abbrev pub IsAtDesk : DeskData → List TableId → Type 0
IsAtDesk desk worker = worker ≡ desk.tables
