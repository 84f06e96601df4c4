-- The layout that a JSON object names.
use Rattle.std.specs.Prelude.{ℕ, Option, Some, None, option_and_then, if◌then◌else◌, nat_eq, codes}
use Rattle.serde_json.specs.Data.{Data}
use Rattle.bpf_profile.specs.declared.layout.Layout.{Layout}
use Rattle.bpf_profile.specs.declared.layout.Layout.TheVariants as layout
use Rattle.requests.specs.Values.{number_or}

-- the layout of a number
abbrev pub layout_numbered : ℕ → Option Layout
layout_numbered n = if nat_eq n 1 then Some layout.One else (if nat_eq n 2 then Some layout.Two else None)

-- layout 1 where the key is missing; None where another value than 1 or 2 stands there
abbrev pub layout_of : Data → Option Layout
layout_of d = option_and_then layout_numbered (number_or 1 (codes "layout") d)
