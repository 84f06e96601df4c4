-- The path and the query of a request's target, and the path's segments (RFC 3986, sections 3.3 and 3.4).
use Rattle.std.specs.Prelude.{ℕ, List, ◌==◌}
use Rattle.std.specs.List.{before_first, after_first, slice_split}

-- what stands before the first question mark
abbrev pub path_of : List ℕ → List ℕ
path_of target = before_first (λ b. b == 63) target

-- what stands behind the first question mark; nothing where there is none
abbrev pub query_of : List ℕ → List ℕ
query_of target = after_first (λ b. b == 63) target

-- what stands between slashes; the first segment is what stands before the first slash
abbrev pub segments : List ℕ → List (List ℕ)
segments path = slice_split (λ b. b == 47) path
