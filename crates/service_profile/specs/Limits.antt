-- The limits of a service, each stated once.
use Rattle.std.specs.Prelude.{ℕ, ◌^◌}

-- how many versions of its program a service holds at most
abbrev pub most_versions : ℕ
most_versions = 256

-- how many entries a journal holds at most
abbrev pub most_entries : ℕ
most_entries = 65536

-- how many entries a page of the journal has at most
abbrev pub most_page_entries : ℕ
most_page_entries = 100

-- the greatest number that an opening goes on from
abbrev pub greatest_number : ℕ
greatest_number = 2 ^ 63
