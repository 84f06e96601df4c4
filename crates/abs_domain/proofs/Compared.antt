-- What a comparison tells of two words that its width reads as they stand.
use Rattle.std.proofs.Common.{◌≡◌, ℕ, suc, pos, negsuc, ◌-◌, ◌^◌, ◌≤◌, ◌==◌, not, Bool, true, false, cond, arith, refl, sym, ap, ◌∙◌}
use Rattle.std.proofs.Math.Nat.{mod-eq_of_lt}
use Rattle.std.proofs.lemmas.Bool.{eqb-true, eqb-false, ltb-true, ltb-false, leb-true, leb-false, lt-ltb, not-false}
use Rattle.std.specs.Int.RustNames.{int_lt, int_le}
use Rattle.std.specs.Prelude.{nat_lt, nat_le, bit_and}
use Rattle.bpf_profile.specs.Words.{low, signed, holds, holds_at, bits_of}
use Rattle.bpf_profile.specs.declared.instruction.Comparison.{Comparison}
use Rattle.bpf_profile.specs.declared.instruction.Comparison.TheVariants as comparison
use Rattle.bpf_profile.specs.declared.instruction.Width.{Width}
use Rattle.bpf_profile.specs.declared.instruction.Width.TheVariants as width
use Rattle.abs_domain.specs.Branches.{lesson_of, greatest}
use Rattle.abs_domain.specs.declared.branches.Lesson.{Lesson}
use Rattle.abs_domain.specs.Operations.{Relates}

-- what a lesson says of two words
abbrev pub Teaches : Lesson → ℕ → ℕ → Type 0
Teaches lesson n m = cond lesson.exchanged (Relates lesson.relation m n) (Relates lesson.relation n m)

not_true : (t : Bool) → not t ≡ true → t ≡ false
not_true true e = sym e
not_true false e = refl

-- the comparison of two words that are read as they stand
abbrev plain : Comparison → ℕ → ℕ → Bool
plain comparison.Equal n m = n == m
plain comparison.NotEqual n m = not (n == m)
plain comparison.Greater n m = nat_lt m n
plain comparison.GreaterOrEqual n m = nat_le m n
plain comparison.Less n m = nat_lt n m
plain comparison.LessOrEqual n m = nat_le n m
plain comparison.SignedGreater n m = nat_lt m n
plain comparison.SignedGreaterOrEqual n m = nat_le m n
plain comparison.SignedLess n m = nat_lt n m
plain comparison.SignedLessOrEqual n m = nat_le n m
plain comparison.BitsSet n m = not (bit_and n m == 0)

teaches : (c : Comparison) (taken : Bool) (n m : ℕ) → plain c n m ≡ taken → Teaches (lesson_of c taken) n m
teaches comparison.Equal true n m e = eqb-true n m e
teaches comparison.Equal false n m e = eqb-false n m e
teaches comparison.NotEqual true n m e = eqb-false n m (not_true (n == m) e)
teaches comparison.NotEqual false n m e = eqb-true n m (not-false (n == m) e)
teaches comparison.Greater true n m e = ltb-true m n e
teaches comparison.Greater false n m e = ltb-false m n e
teaches comparison.GreaterOrEqual true n m e = leb-true m n e
teaches comparison.GreaterOrEqual false n m e = leb-false m n e
teaches comparison.Less true n m e = ltb-true n m e
teaches comparison.Less false n m e = ltb-false n m e
teaches comparison.LessOrEqual true n m e = leb-true n m e
teaches comparison.LessOrEqual false n m e = leb-false n m e
teaches comparison.SignedGreater true n m e = ltb-true m n e
teaches comparison.SignedGreater false n m e = ltb-false m n e
teaches comparison.SignedGreaterOrEqual true n m e = leb-true m n e
teaches comparison.SignedGreaterOrEqual false n m e = leb-false m n e
teaches comparison.SignedLess true n m e = ltb-true n m e
teaches comparison.SignedLess false n m e = ltb-false n m e
teaches comparison.SignedLessOrEqual true n m e = leb-true n m e
teaches comparison.SignedLessOrEqual false n m e = leb-false n m e
teaches comparison.BitsSet true n m e = eqb-false (bit_and n m) 0 (not_true (bit_and n m == 0) e)
teaches comparison.BitsSet false n m e = eqb-true (bit_and n m) 0 (not-false (bit_and n m == 0) e)

-- words within a width's greatest number are their own low bits
low_same : (w : Width) (sign : Bool) (n : ℕ) → n ≤ greatest w sign → low (bits_of w) n ≡ n
low_same width.Bits64 false n h = mod-eq_of_lt (omega (arith, h))
low_same width.Bits64 true n h = mod-eq_of_lt (omega (arith, h))
low_same width.Bits32 false n h = mod-eq_of_lt (omega (arith, h))
low_same width.Bits32 true n h = mod-eq_of_lt (omega (arith, h))

-- and, with a sign, their own signed reading
signed_same : (w : Width) (n : ℕ) → n ≤ greatest w true → signed (bits_of w) n ≡ pos n
signed_same width.Bits64 n h =
    let same : low 64 n ≡ n = low_same width.Bits64 true n h in
    (λ i. cond (nat_lt (same i) (2 ^ 63)) (pos (same i)) (negsuc (2 ^ 64 - suc (same i)))) ∙ ap (λ t. cond t (pos n) (negsuc (2 ^ 64 - suc n))) (lt-ltb n (2 ^ 63) (omega (arith, h)))
signed_same width.Bits32 n h =
    let same : low 32 n ≡ n = low_same width.Bits32 true n h in
    (λ i. cond (nat_lt (same i) (2 ^ 31)) (pos (same i)) (negsuc (2 ^ 32 - suc (same i)))) ∙ ap (λ t. cond t (pos n) (negsuc (2 ^ 32 - suc n))) (lt-ltb n (2 ^ 31) (omega (arith, h)))

lows : (c : Comparison) (w : Width) (sign : Bool) (n m : ℕ) → n ≤ greatest w sign → m ≤ greatest w sign → holds c w n m ≡ holds_at c (bits_of w) n m
lows c w sign n m p q = λ i. holds_at c (bits_of w) (low_same w sign n p i) (low_same w sign m q i)

reads : (c : Comparison) (taken : Bool) (w : Width) (n m : ℕ) → n ≤ greatest w (lesson_of c taken).signed → m ≤ greatest w (lesson_of c taken).signed → holds c w n m ≡ plain c n m
reads comparison.Equal true w n m p q = lows comparison.Equal w false n m p q
reads comparison.Equal false w n m p q = lows comparison.Equal w false n m p q
reads comparison.NotEqual true w n m p q = lows comparison.NotEqual w false n m p q
reads comparison.NotEqual false w n m p q = lows comparison.NotEqual w false n m p q
reads comparison.Greater true w n m p q = lows comparison.Greater w false n m p q
reads comparison.Greater false w n m p q = lows comparison.Greater w false n m p q
reads comparison.GreaterOrEqual true w n m p q = lows comparison.GreaterOrEqual w false n m p q
reads comparison.GreaterOrEqual false w n m p q = lows comparison.GreaterOrEqual w false n m p q
reads comparison.Less true w n m p q = lows comparison.Less w false n m p q
reads comparison.Less false w n m p q = lows comparison.Less w false n m p q
reads comparison.LessOrEqual true w n m p q = lows comparison.LessOrEqual w false n m p q
reads comparison.LessOrEqual false w n m p q = lows comparison.LessOrEqual w false n m p q
reads comparison.SignedGreater true w n m p q = lows comparison.SignedGreater w true n m p q ∙ (λ i. int_lt (signed_same w m q i) (signed_same w n p i))
reads comparison.SignedGreater false w n m p q = lows comparison.SignedGreater w true n m p q ∙ (λ i. int_lt (signed_same w m q i) (signed_same w n p i))
reads comparison.SignedGreaterOrEqual true w n m p q = lows comparison.SignedGreaterOrEqual w true n m p q ∙ (λ i. int_le (signed_same w m q i) (signed_same w n p i))
reads comparison.SignedGreaterOrEqual false w n m p q = lows comparison.SignedGreaterOrEqual w true n m p q ∙ (λ i. int_le (signed_same w m q i) (signed_same w n p i))
reads comparison.SignedLess true w n m p q = lows comparison.SignedLess w true n m p q ∙ (λ i. int_lt (signed_same w n p i) (signed_same w m q i))
reads comparison.SignedLess false w n m p q = lows comparison.SignedLess w true n m p q ∙ (λ i. int_lt (signed_same w n p i) (signed_same w m q i))
reads comparison.SignedLessOrEqual true w n m p q = lows comparison.SignedLessOrEqual w true n m p q ∙ (λ i. int_le (signed_same w n p i) (signed_same w m q i))
reads comparison.SignedLessOrEqual false w n m p q = lows comparison.SignedLessOrEqual w true n m p q ∙ (λ i. int_le (signed_same w n p i) (signed_same w m q i))
reads comparison.BitsSet true w n m p q = lows comparison.BitsSet w false n m p q
reads comparison.BitsSet false w n m p q = lows comparison.BitsSet w false n m p q

-- a comparison of words within its width's greatest number teaches its lesson
pub compared : (c : Comparison) (w : Width) (taken : Bool) (n m : ℕ) → n ≤ greatest w (lesson_of c taken).signed → m ≤ greatest w (lesson_of c taken).signed → holds c w n m ≡ taken → Teaches (lesson_of c taken) n m
compared c w taken n m p q e = teaches c taken n m (sym (reads c taken w n m p q) ∙ e)
