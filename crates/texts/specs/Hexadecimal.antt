-- The bytes that hexadecimal text spells.
use Rattle.std.specs.Prelude.{ℕ, ◌==◌, not, List, filter, Option}
use Rattle.std.specs.Result.{result_ok}
use Rattle.hex.specs.Hex.{decode_of}

-- the text without its blanks
abbrev pub without_blanks : List ℕ → List ℕ
without_blanks text = filter (λ c. not (c == 32)) text

-- the bytes of hexadecimal of either case, with blanks anywhere; None where there is another character or an odd number of digits
abbrev pub hex_of : List ℕ → Option (List ℕ)
hex_of text = result_ok (decode_of (without_blanks text))
