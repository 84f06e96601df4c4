-- The notes of the last seconds, and the order in which notes come.
use Rattle.std.specs.Prelude.{ℕ, ◌≤◌, List}
use Rattle.std.specs.List.{filter, AllByRecursion}
use Rattle.service_profile.specs.declared.notes.Note.{Note}
use Rattle.service_profile.specs.Windows.{is_recent}

abbrev pub recent : ℕ → ℕ → List Note → List Note
recent seconds now notes = filter (is_recent seconds now) notes

-- no note is later than the moment
abbrev pub AreNotAfter : ℕ → List Note → Type 0
AreNotAfter moment notes = AllByRecursion (λ note. note.moment ≤ moment) notes
