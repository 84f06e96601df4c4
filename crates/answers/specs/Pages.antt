-- A page of a service's journal as JSON.
use Rattle.std.specs.Prelude.{ℕ, suc, ◌-◌, ◌^◌, min, List, [], ◌∷◌, length, map, Option, Some, None, slice_get, codes}
use Rattle.serde_json.specs.Data.{Data, array}
use Rattle.serde_json.specs.View.{items_of}
use Rattle.service_profile.specs.Events.{EntryData}
use Rattle.answers.specs.Texts.{count, object_of}
use Rattle.answers.specs.Entries.{entry_data}

abbrev pub last_line : List EntryData → Option EntryData
last_line lines = slice_get lines (length lines - 1)

-- one more than the number of a page's last line, or the number from which the page was asked where it has none; numbers are below 2^64
abbrev pub number_after : Option EntryData → ℕ → ℕ
number_after None from = from
number_after (Some line) from = min (suc line.number) (2 ^ 64 - 1)

-- the number from which the next page goes on
abbrev pub next_number : List EntryData → ℕ → ℕ
next_number lines from = number_after (last_line lines) from

-- the page of these lines, which was asked from a number on
abbrev pub page_data : List EntryData → ℕ → Data
page_data lines from = object_of ((codes "entries", array (items_of (map entry_data lines))) ∷ (codes "next", count (next_number lines from)) ∷ [])
