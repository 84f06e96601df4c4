-- What one seat did in a history, and what one history adds to another.
use Rattle.std.specs.Prelude.{◌≡◌, ℕ, ◌==◌, List, ◌++◌}
use Rattle.std.specs.List.{filter}
use Rattle.service_profile.specs.Events.{EntryData}

-- the lines of a seat, in order
abbrev pub lines_of : ℕ → List EntryData → List EntryData
lines_of seat lines = filter (λ line. line.seat == seat) lines

-- the later list begins with the earlier one
abbrev pub BeginsWith : List EntryData → List EntryData → Type 0
BeginsWith later earlier = (more : List EntryData) × (later ≡ earlier ++ more)
