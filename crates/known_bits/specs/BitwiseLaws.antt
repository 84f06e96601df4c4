-- What is known of the bitwise operations' results.
use Rattle.std.proofs.Common.{ℕ, ◌+◌, ◌-◌, ◌%◌, min, max, arith}
use Rattle.std.specs.Prelude.{bit_and, bit_or, bit_xor}
use Rattle.bpf_profile.specs.Words.{IsWord}
use Rattle.abs_domain.specs.declared.operations.Bits.{Bits}
use Rattle.known_bits.specs.BitLaws.{bit_of_and, bit_of_or, bit_of_xor, bit_of_without}
use Rattle.known_bits.specs.KnownBitsTable.{KnownContains, known_and, known_or, known_xor}
use Rattle.known_bits.specs.PlaceLaws.{Place, places, from_places}

and_place : (v u n w t m : ℕ) → Place v u n → Place w t m → Place (min v w) (min (max v u) (max w t) - min v w) (min n m)
and_place v u n w t m p q =
    let a = p.apart in
    let b = p.from in
    let c = p.upto in
    let d = q.apart in
    let e = q.from in
    let f = q.upto in
    record { apart = omega arith; from = omega arith; upto = omega arith }

pub and_contained : (a b : Bits) (n m : ℕ) → IsWord (bit_and n m) → KnownContains a n → KnownContains b m → KnownContains (known_and a b) (bit_and n m)
and_contained a b n m fits h k =
    from_places (known_and a b) (bit_and n m) fits (λ i. simp (bit_of_and, bit_of_or, bit_of_without) (and_place _ _ _ _ _ _ (places a n h i) (places b m k i)))

or_place : (v u n w t m : ℕ) → Place v u n → Place w t m → Place (max v w) (max u t - max v w) (max n m)
or_place v u n w t m p q =
    let a = p.apart in
    let b = p.from in
    let c = p.upto in
    let d = q.apart in
    let e = q.from in
    let f = q.upto in
    record { apart = omega arith; from = omega arith; upto = omega arith }

pub or_contained : (a b : Bits) (n m : ℕ) → IsWord (bit_or n m) → KnownContains a n → KnownContains b m → KnownContains (known_or a b) (bit_or n m)
or_contained a b n m fits h k =
    from_places (known_or a b) (bit_or n m) fits (λ i. simp (bit_of_or, bit_of_without) (or_place _ _ _ _ _ _ (places a n h i) (places b m k i)))

xor_place : (v u n w t m : ℕ) → Place v u n → Place w t m → Place ((v + w) % 2 - max u t) (max u t) ((n + m) % 2)
xor_place v u n w t m p q =
    let a = p.apart in
    let b = p.from in
    let c = p.upto in
    let d = q.apart in
    let e = q.from in
    let f = q.upto in
    record { apart = omega arith; from = omega arith; upto = omega arith }

pub xor_contained : (a b : Bits) (n m : ℕ) → IsWord (bit_xor n m) → KnownContains a n → KnownContains b m → KnownContains (known_xor a b) (bit_xor n m)
xor_contained a b n m fits h k =
    from_places (known_xor a b) (bit_xor n m) fits (λ i. simp (bit_of_xor, bit_of_or, bit_of_without) (xor_place _ _ _ _ _ _ (places a n h i) (places b m k i)))
