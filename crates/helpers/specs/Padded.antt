-- Lists filled up with zeros.
use Rattle.std.specs.Prelude.{ℕ, ◌-◌, List, ◌++◌, length, replicate}

-- the elements, and zeros behind them: so many in all
abbrev pub padded : ℕ → List ℕ → List ℕ
padded size xs = xs ++ replicate (size - length xs) 0
