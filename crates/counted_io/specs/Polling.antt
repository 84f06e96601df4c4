-- What a call that doesn't wait took or gave.
use Rattle.std.specs.Prelude.{◌≡◌, ◌≤◌, ◌<◌, ℕ, ◌==◌, ◌&&◌, nat_lt, List, length, take, Bool, true, false, Option}
use Rattle.std.specs.Io.KnownBytes.{Appends, Consumes, Keeps, IsAtEnd}
use Rattle.counted_io.specs.declared.polling.Polling.{Polling}
use Rattle.counted_io.specs.declared.polling.Polling.TheVariants as polling

abbrev pub is_failed : Polling → Bool
is_failed polling.Failed = true
is_failed other = false

abbrev pub is_wait : Polling → Bool
is_wait polling.Waits = true
is_wait other = false

-- a read into a piece of this length met the end of the input: it gave nothing, though there was room
abbrev pub is_end : Polling → ℕ → Bool
is_end (polling.Done taken) size = (taken == 0) && nat_lt 0 size
is_end other size = false

-- the first bytes of what a reader had were taken into a piece of memory, none only at the end or without room; else it keeps all
abbrev pub IsTaken : Polling → Option (List ℕ) → Option (List ℕ) → List ℕ → Type 0
IsTaken (polling.Done taken) had has buf = (taken ≤ length buf) × Consumes had has (take taken buf) × (taken ≡ 0 → 0 < length buf → IsAtEnd has)
IsTaken other had has buf = Keeps had has

-- the first bytes of a piece were written, none only of an empty one; else the writer holds what it held
abbrev pub IsPut : Polling → Option (List ℕ) → Option (List ℕ) → List ℕ → Type 0
IsPut (polling.Done taken) held holds buf = (taken ≤ length buf) × (0 < length buf → 0 < taken) × Appends held holds (take taken buf)
IsPut other held holds buf = Keeps held holds
