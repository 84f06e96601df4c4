-- The limits of the profile, each stated once.
use Rattle.std.specs.Prelude.{ℕ}

-- how many slots a program has at most
abbrev pub most_slots : ℕ
most_slots = 4096

-- the size of the stack in bytes
abbrev pub stack_size : ℕ
stack_size = 512

-- how many bytes of context a record has: as many as programs of the longest layout see
abbrev pub record_size : ℕ
record_size = 192

-- where the body's front begins in the context; it goes on to the context's end
abbrev pub front_offset : ℕ
front_offset = 64

-- how many bytes of the body's front a record has
abbrev pub front_size : ℕ
front_size = 128

-- how many facts an outcome has
abbrev pub fact_count : ℕ
fact_count = 16

-- how many bytes a tag has at most
abbrev pub most_tag_bytes : ℕ
most_tag_bytes = 32
