-- Words of which some bits are known.
use Rattle.std.specs.Prelude.{ℕ, ◌≡◌}
use Rattle.std.specs.Int.{bit_at}
use Rattle.bpf_profile.specs.Words.{IsWord}

-- a word has the bits of the value, but where they are unknown
abbrev pub Agrees : ℕ → ℕ → ℕ → Type 0
Agrees value unknown n = IsWord n × ((i : ℕ) → bit_at unknown i ≡ 0 → bit_at n i ≡ bit_at value i)
