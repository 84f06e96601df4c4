-- Bits of words from place 64 on.
use Rattle.std.proofs.Common.{◌≡◌, ℕ, ◌-◌, ◌^◌, ◌<◌, ◌≤◌, ◌⊎◌, inl, inr, arith}
use Rattle.std.proofs.lemmas.Nat.Bits.{bit_at_ones, bit_at_above}
use Rattle.std.proofs.lemmas.Bool.{cases_lt}
use Rattle.std.specs.Int.{bit_at}
use Rattle.bpf_profile.specs.Words.{IsWord}

above_by : (n i : ℕ) → IsWord n → bit_at (2 ^ 64 - 1) i ≡ 0 → (i < 64) ⊎ (64 ≤ i) → bit_at n i ≡ 0
above_by n i h clear (inl p) = absurd (omega (arith, clear, bit_at_ones 64 i p))
above_by n i h clear (inr q) = bit_at_above n 64 i h q

-- where a word of ones has none, a word has none
pub above : (n i : ℕ) → IsWord n → bit_at (2 ^ 64 - 1) i ≡ 0 → bit_at n i ≡ 0
above n i h clear = above_by n i h clear (cases_lt i 64)
