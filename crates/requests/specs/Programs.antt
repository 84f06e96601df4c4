-- The bytecode that a JSON object names.
use Rattle.std.specs.Prelude.{ℕ, List, Option, option_and_then, codes}
use Rattle.serde_json.specs.Data.{Data}
use Rattle.texts.specs.Hexadecimal.{hex_of}
use Rattle.requests.specs.Values.{text_at}

-- None where the program is missing, no text or no hexadecimal
abbrev pub program_of : Data → Option (List ℕ)
program_of d = option_and_then hex_of (text_at (codes "program") d)
