-- The number of an entry, as a segment of a path.
use Rattle.std.specs.Prelude.{ℕ, List, Result}
use Rattle.std.specs.Option.{ok_or}
use Rattle.refusals.specs.declared.RefusalNumber.{RefusalNumber}
use Rattle.refusals.specs.declared.RefusalNumber.TheVariants as refusal
use Rattle.http_messages.specs.Lengths.{decimal_of}

-- the number below 2^64 that the text writes in decimal digits and nothing else
abbrev pub entry_number : List ℕ → Result ℕ RefusalNumber
entry_number text = ok_or (decimal_of text) refusal.BadValue
