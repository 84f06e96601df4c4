-- The places of a bulkhead, and how many of them are taken.
use Rattle.std.specs.Prelude.{ℕ, ◌+◌, nat_lt, if◌then◌else◌}

pub record Taken : Type 0 where
  pub places : ℕ
  pub taken : ℕ

-- a call takes a place where one is free
abbrev pub entered : Taken → Taken
entered b = if nat_lt b.taken b.places then record { places = b.places; taken = b.taken + 1 } else b
