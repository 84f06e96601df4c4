-- The lowest bytes of a number.
use Rattle.std.proofs.Common.{◌≡◌, ◌≤◌, ℕ, zero, suc, ◌∷◌, List, take, refl, ap, arith}
use Rattle.std.specs.Int.{bytes_low_first, byte_at}

-- the first k of m bytes are the k lowest
pub lowest_bytes : (i k m n : ℕ) → k ≤ m → take k (bytes_low_first i m n) ≡ bytes_low_first i k n
lowest_bytes i zero m n h = refl
lowest_bytes i (suc k) zero n h = absurd (omega arith)
lowest_bytes i (suc k) (suc m) n h = ap (λ (rest : List ℕ). byte_at i n ∷ rest) (lowest_bytes (suc i) k m n (omega arith))
