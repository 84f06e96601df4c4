-- How much of an outcome's record the programs of each layout see.
use Rattle.std.specs.Prelude.{ℕ}
use Rattle.bpf_profile.specs.declared.layout.Layout.{Layout}
use Rattle.bpf_profile.specs.declared.layout.Layout.TheVariants as layout

-- how many bytes the context has
abbrev pub context_size : Layout → ℕ
context_size layout.One = 128
context_size layout.Two = 192

-- the number that names a layout
abbrev pub number_of : Layout → ℕ
number_of layout.One = 1
number_of layout.Two = 2
