-- What the program says of itself.
use Rattle.std.specs.Prelude.{ℕ, List, ◌∷◌, [], ◌++◌, codes}

-- the line of a version: the name of the program, and the version
abbrev pub version_line : List ℕ → List ℕ
version_line version = codes "sidecar " ++ (version ++ 10 ∷ [])
