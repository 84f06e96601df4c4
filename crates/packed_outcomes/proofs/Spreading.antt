-- Words from their marks and those that are kept.
use Rattle.std.proofs.Common.{◌≡◌, refl, sym, ap, ◌∙◌, ℕ, zero, suc, ◌+◌, ◌-◌, ◌*◌, ◌/◌, ◌%◌, ◌^◌, ◌<◌, ◌≤◌, List, [], ◌∷◌, ◌++◌, length, take, drop, set, replicate, get_or, arith, inl, inr}
use Rattle.std.proofs.Math.Nat.{pow-succ', pow-le-pow_right}
use Rattle.std.proofs.lemmas.Bool.{cases_eq}
use Rattle.std.proofs.lemmas.List.{drop_more, drop-drop, drop-set, drop-set-lt, drop_all, drop-replicate, take_all, take_more, take_more_set, take-append-drop, get_or-drop, length-set, length-replicate, append-nil, append_assoc, replicate_more}
use Rattle.std.proofs.lemmas.Nat.Bits.{bit_at_or, bit_at-zero, same_from_bits}
use Rattle.std.specs.Int.RustNames.{bit_or}
use Rattle.std.specs.Int.{bit_at}
use Rattle.packed_outcomes.specs.Marks.{marks_of, kept_of, spread, packed_of, with_marks, unpacked_words}

marks_of_zero : (words : List ℕ) → marks_of (0 ∷ words) ≡ 2 * marks_of words
unfolding marks_of
marks_of_zero words = refl

marks_of_some : (w : ℕ) (words : List ℕ) → marks_of (suc w ∷ words) ≡ 2 * marks_of words + 1
unfolding marks_of
marks_of_some w words = refl

pub spread_zero : (n marks : ℕ) (kept : List ℕ) → marks % 2 ≡ 0 → spread (suc n) marks kept ≡ 0 ∷ spread n (marks / 2) kept
unfolding spread
spread_zero n marks kept even = rw even refl

pub spread_some : (n marks : ℕ) (kept : List ℕ) → marks % 2 ≡ 1 → spread (suc n) marks kept ≡ get_or kept 0 0 ∷ spread n (marks / 2) (drop 1 kept)
unfolding spread
spread_some n marks kept odd = rw odd refl

pub spread_empty : (marks : ℕ) (kept : List ℕ) → spread 0 marks kept ≡ []
unfolding spread
spread_empty marks kept = refl

-- what is packed comes back
pub spread_again : (words : List ℕ) → spread (length words) (marks_of words) (kept_of words) ≡ words
unfolding kept_of
spread_again [] = spread_empty (marks_of []) []
spread_again (zero ∷ words) =
    let is = marks_of_zero words in
    let half : marks_of (0 ∷ words) / 2 ≡ marks_of words = omega (arith, is) in
    spread_zero (length words) (marks_of (0 ∷ words)) (kept_of words) (omega (arith, is))
    ∙ ap (λ (ws : List ℕ). 0 ∷ ws) (ap (λ (m : ℕ). spread (length words) m (kept_of words)) half ∙ spread_again words)
spread_again (suc w ∷ words) =
    let is = marks_of_some w words in
    let half : marks_of (suc w ∷ words) / 2 ≡ marks_of words = omega (arith, is) in
    spread_some (length words) (marks_of (suc w ∷ words)) (suc w ∷ kept_of words) (omega (arith, is))
    ∙ ap (λ (ws : List ℕ). suc w ∷ ws) (ap (λ (m : ℕ). spread (length words) m (kept_of words)) half ∙ spread_again words)

-- as many bits as words
pub marks_fit : (words : List ℕ) → marks_of words < 2 ^ length words
unfolding marks_of
marks_fit [] = omega arith
marks_fit (zero ∷ words) = omega (arith, marks_fit words, pow-succ' 2 (length words))
marks_fit (suc w ∷ words) = omega (arith, marks_fit words, pow-succ' 2 (length words))

pub marks_small : (words : List ℕ) → length words < 45 → marks_of words < 2 ^ 45
marks_small words few =
    let power : 2 ^ length words ≤ 2 ^ 45 = pow-le-pow_right {n = 2} (omega arith) {i = length words} {j = 45} (omega arith) in
    omega (arith, marks_fit words)

-- one word more, from the end
pub word_before : (words : List ℕ) (n i w : ℕ) → length words ≡ n → i < n → w ≡ get_or words (n - 1 - i) 0 → drop (n - (i + 1)) words ≡ w ∷ drop (n - i) words
word_before words n i w size inside is =
    let before : n - (i + 1) ≡ n - 1 - i = omega arith in
    let behind : n - 1 - i + 1 ≡ n - i = omega arith in
    ap (λ (k : ℕ). drop k words) before ∙ drop_more words (n - 1 - i) 0 (omega arith) ∙ ap (λ (x : ℕ). x ∷ drop (n - 1 - i + 1) words) (sym is) ∙ ap (λ (k : ℕ). w ∷ drop k words) behind

pub marks_with_zero : (words rest : List ℕ) (w : ℕ) → words ≡ w ∷ rest → w ≡ 0 → marks_of words ≡ 2 * marks_of rest
marks_with_zero words rest w e zero_is = ap marks_of (e ∙ ap (λ (x : ℕ). x ∷ rest) zero_is) ∙ marks_of_zero rest

pub kept_with_zero : (words rest : List ℕ) (w : ℕ) → words ≡ w ∷ rest → w ≡ 0 → kept_of words ≡ kept_of rest
unfolding kept_of
kept_with_zero words rest w e zero_is = ap kept_of (e ∙ ap (λ (x : ℕ). x ∷ rest) zero_is)

pub marks_with_some : (words rest : List ℕ) (w : ℕ) → words ≡ w ∷ rest → 0 < w → marks_of words ≡ 2 * marks_of rest + 1
marks_with_some words rest zero e some = absurd (omega arith)
marks_with_some words rest (suc w) e some = ap marks_of e ∙ marks_of_some w rest

pub kept_with_some : (words rest : List ℕ) (w : ℕ) → words ≡ w ∷ rest → 0 < w → kept_of words ≡ w ∷ kept_of rest
unfolding kept_of
kept_with_some words rest zero e some = absurd (omega arith)
kept_with_some words rest (suc w) e some = ap kept_of e

-- no marks are left
pub spread_zeros : (n : ℕ) (kept : List ℕ) → spread n 0 kept ≡ replicate n 0
unfolding spread
spread_zeros zero kept = refl
spread_zeros (suc n) kept = ap (λ (ws : List ℕ). 0 ∷ ws) (spread_zeros n kept)

-- what a turn of the loop keeps
pub record IsSpreadTo (n marks : ℕ) (kept words : List ℕ) (left next i : ℕ) : Type 0 where
  pub full : length words ≡ n
  pub few : next ≤ i
  pub zeros : drop i words ≡ replicate (n - i) 0
  pub same : take i words ++ spread (n - i) left (drop next kept) ≡ spread n marks kept

zero_there : (words : List ℕ) (i k : ℕ) → drop i words ≡ replicate (suc k) 0 → get_or words i 0 ≡ 0
zero_there words i k zeros = ap (λ (n : ℕ). get_or words n 0) (omega arith) ∙ sym (get_or-drop i words 0 0) ∙ ap (λ (ws : List ℕ). get_or ws 0 0) zeros

zeros_behind : (n i : ℕ) (words : List ℕ) → i < n → drop i words ≡ replicate (n - i) 0 → drop (i + 1) words ≡ replicate (n - (i + 1)) 0
zeros_behind n i words inside zeros =
    let count : n - i - 1 ≡ n - (i + 1) = omega arith in
    sym (drop-drop 1 i words) ∙ ap (drop 1) zeros ∙ drop-replicate {X = ℕ} 1 (n - i) 0 ∙ ap (λ (k : ℕ). replicate k 0) count

pub turn_zero : (n marks : ℕ) (kept words : List ℕ) (left next i : ℕ) → i < n → left % 2 ≡ 0
    → IsSpreadTo n marks kept words left next i → IsSpreadTo n marks kept words (left / 2) next (i + 1)
turn_zero n marks kept words left next i inside even is =
    let more : n - i ≡ suc (n - (i + 1)) = omega arith in
    let rest = spread (n - (i + 1)) (left / 2) (drop next kept) in
    let front : take (i + 1) words ≡ take i words ++ 0 ∷ [] =
    take_more words i 0 (omega (arith, is.full)) ∙ ap (λ (x : ℕ). take i words ++ x ∷ []) (zero_there words i (n - (i + 1)) (is.zeros ∙ ap (λ (k : ℕ). replicate k 0) more)) in
    record {
      full = is.full;
      few = omega (arith, is.few);
      zeros = zeros_behind n i words inside is.zeros;
      same = ap (λ (ws : List ℕ). ws ++ rest) front ∙ append_assoc (take i words) (0 ∷ []) rest ∙ ap (λ (ws : List ℕ). take i words ++ ws) (sym (ap (λ (k : ℕ). spread k left (drop next kept)) more ∙ spread_zero (n - (i + 1)) left (drop next kept) even)) ∙ is.same;
    }

pub turn_some : (n marks : ℕ) (kept words : List ℕ) (left next i w : ℕ) → i < n → left % 2 ≡ 1 → w ≡ get_or kept next 0
    → IsSpreadTo n marks kept words left next i → IsSpreadTo n marks kept (set words i w) (left / 2) (next + 1) (i + 1)
turn_some n marks kept words left next i w inside odd word is =
    let more : n - i ≡ suc (n - (i + 1)) = omega arith in
    let rest = spread (n - (i + 1)) (left / 2) (drop (next + 1) kept) in
    let front : take (i + 1) (set words i w) ≡ take i words ++ w ∷ [] = take_more_set words i w (omega (arith, is.full)) in
    let first : get_or (drop next kept) 0 0 ≡ w = get_or-drop next kept 0 0 ∙ ap (λ (k : ℕ). get_or kept k 0) (omega arith) ∙ sym word in
    record {
      full = length-set words i w ∙ is.full;
      few = omega (arith, is.few);
      zeros = drop-set-lt (i + 1) words i w (omega arith) ∙ zeros_behind n i words inside is.zeros;
      same = ap (λ (ws : List ℕ). ws ++ rest) front ∙ append_assoc (take i words) (w ∷ []) rest
          ∙ ap (λ (ws : List ℕ). take i words ++ ws) (sym (ap (λ (k : ℕ). spread k left (drop next kept)) more ∙ spread_some (n - (i + 1)) left (drop next kept) odd ∙ ap (λ (x : ℕ). x ∷ spread (n - (i + 1)) (left / 2) (drop 1 (drop next kept))) first ∙ ap (λ (ks : List ℕ). w ∷ spread (n - (i + 1)) (left / 2) ks) (drop-drop 1 next kept)))
          ∙ is.same;
    }

pub at_start : (n marks : ℕ) (kept words : List ℕ) → words ≡ replicate n 0 → IsSpreadTo n marks kept words marks 0 0
at_start n marks kept words zeros = record {
  full = ap length zeros ∙ length-replicate {A = ℕ} n 0;
  few = omega arith;
  zeros = zeros ∙ ap (λ (k : ℕ). replicate k 0) (omega arith);
  same = ap (λ (k : ℕ). spread k marks kept) (omega arith);
}

-- no marks are left
pub no_more : (n marks : ℕ) (kept words : List ℕ) (left next i : ℕ) → i ≤ n → left ≡ 0 → IsSpreadTo n marks kept words left next i → words ≡ spread n marks kept
no_more n marks kept words left next i inside none is =
    sym (take-append-drop i words) ∙ ap (λ (ws : List ℕ). take i words ++ ws) (is.zeros ∙ sym (spread_zeros (n - i) (drop next kept)) ∙ ap (λ (m : ℕ). spread (n - i) m (drop next kept)) (sym none)) ∙ is.same

-- no words are left
pub at_end : (n marks : ℕ) (kept words : List ℕ) (left next i : ℕ) → n ≤ i → IsSpreadTo n marks kept words left next i → words ≡ spread n marks kept
at_end n marks kept words left next i past is =
    let none : n - i ≡ 0 = omega arith in
    sym (take_all i words (omega (arith, is.full))) ∙ sym (append-nil (take i words)) ∙ ap (λ (ws : List ℕ). take i words ++ ws) (sym (ap (λ (k : ℕ). spread k left (drop next kept)) none ∙ spread_empty left (drop next kept))) ∙ is.same

pub nothing_kept : (words : List ℕ) (n : ℕ) → length words ≡ n → (marks_of (drop n words) ≡ 0) × (kept_of (drop n words) ≡ [])
unfolding marks_of kept_of
nothing_kept words n size = rw (drop_all n words (omega arith)) (refl, refl)

-- a word is written in front of what the room's end has
pub room_before : (room : List ℕ) (start w : ℕ) → 1 ≤ start → start ≤ length room → drop (start - 1) (set room (start - 1) w) ≡ w ∷ drop start room
room_before room start w some inside =
    drop-set room (start - 1) w (omega arith) ∙ ap (λ (n : ℕ). w ∷ drop n room) (omega arith)

-- ---- words behind which all are 0

marks_of_zeros : (n : ℕ) → marks_of (replicate n 0) ≡ 0
unfolding marks_of
marks_of_zeros zero = refl
marks_of_zeros (suc n) = omega (arith, marks_of_zeros n)

kept_of_zeros : (n : ℕ) → kept_of (replicate n 0) ≡ []
unfolding kept_of
kept_of_zeros zero = refl
kept_of_zeros (suc n) = kept_of_zeros n

marks_of_front : (words : List ℕ) (n : ℕ) → marks_of (words ++ replicate n 0) ≡ marks_of words
unfolding marks_of
marks_of_front [] n = marks_of_zeros n
marks_of_front (zero ∷ words) n = omega (arith, marks_of_front words n)
marks_of_front (suc w ∷ words) n = omega (arith, marks_of_front words n)

kept_of_front : (words : List ℕ) (n : ℕ) → kept_of (words ++ replicate n 0) ≡ kept_of words
unfolding kept_of
kept_of_front [] n = kept_of_zeros n
kept_of_front (zero ∷ words) n = kept_of_front words n
kept_of_front (suc w ∷ words) n = ap (λ (ws : List ℕ). suc w ∷ ws) (kept_of_front words n)

-- bits of which none is set
or_none : (a b : ℕ) → bit_or a b ≡ 0 → (a ≡ 0) × (b ≡ 0)
or_none a b none =
    (same_from_bits a 0 (λ i. omega (arith, bit_at_or a b i, ap (λ (n : ℕ). bit_at n i) none, bit_at-zero i)), same_from_bits b 0 (λ i. omega (arith, bit_at_or a b i, ap (λ (n : ℕ). bit_at n i) none, bit_at-zero i)))

-- as long as no bit is set, all words so far are 0
abbrev pub AreZeroTo : List ℕ → ℕ → ℕ → Type 0
AreZeroTo words i bits = bits ≡ 0 → take i words ≡ replicate i 0

pub zero_more : (words : List ℕ) (i bits w : ℕ) → i < length words → w ≡ get_or words i 0 → AreZeroTo words i bits → AreZeroTo words (i + 1) (bit_or bits w)
zero_more words i bits w inside is zeros none =
    let both = or_none bits w none in
    take_more words i 0 inside ∙ ap (λ (ws : List ℕ). ws ++ get_or words i 0 ∷ []) (zeros both.0) ∙ ap (λ (x : ℕ). replicate i 0 ++ x ∷ []) (sym is ∙ both.1) ∙ replicate_more i 0

-- ---- what is packed

pub unpacked_again : (words : List ℕ) → unpacked_words (length words) (packed_of words) ≡ words
unpacked_again words = by_marks (marks_of words) refl where
  by_marks : (m : ℕ) → marks_of words ≡ m → unpacked_words (length words) (with_marks (marks_of words) (kept_of words)) ≡ words
  by_marks zero none =
      ap (λ (m : ℕ). unpacked_words (length words) (with_marks m (kept_of words))) none ∙ spread_zeros (length words) [] ∙ sym (spread_zeros (length words) (kept_of words)) ∙ ap (λ (m : ℕ). spread (length words) m (kept_of words)) (sym none) ∙ spread_again words
  by_marks (suc m) some =
      ap (λ (k : ℕ). unpacked_words (length words) (with_marks k (kept_of words))) some ∙ ap (λ (k : ℕ). spread (length words) k (kept_of words)) (sym some) ∙ spread_again words

pub with_no_marks : (m : ℕ) (kept : List ℕ) → m ≡ 0 → with_marks m kept ≡ []
with_no_marks m kept none = ap (λ (k : ℕ). with_marks k kept) none

pub with_some_marks : (m : ℕ) (kept : List ℕ) → 0 < m → with_marks m kept ≡ m ∷ kept
with_some_marks zero kept some = absurd (omega arith)
with_some_marks (suc m) kept some = refl

-- ---- words behind which none is marked

pub packed_front : (words : List ℕ) (n : ℕ) → packed_of (words ++ replicate n 0) ≡ packed_of words
packed_front words n =
    ap (λ (m : ℕ). with_marks m (kept_of (words ++ replicate n 0))) (marks_of_front words n) ∙ ap (λ (ks : List ℕ). with_marks (marks_of words) ks) (kept_of_front words n)

pub spread_front : (n k t m : ℕ) (kept : List ℕ) → t ≡ n + k → m < 2 ^ n → spread t m kept ≡ spread n m kept ++ replicate k 0
spread_front zero k t m kept size small =
    let none : m ≡ 0 = omega arith in
    let same : t ≡ k = omega arith in
    ap (λ (j : ℕ). spread j m kept) same ∙ ap (λ (j : ℕ). spread k j kept) none ∙ spread_zeros k kept ∙ ap (λ (ws : List ℕ). ws ++ replicate k 0) (sym (spread_empty m kept))
spread_front (suc n) k zero m kept size small = absurd (omega arith)
spread_front (suc n) k (suc t) m kept size small =
    let half : m / 2 < 2 ^ n = omega (arith, pow-succ' 2 n) in
    elim (cases_eq (m % 2) 0) [
      | inl even ↦
          spread_zero t m kept even ∙ ap (λ (ws : List ℕ). 0 ∷ ws) (spread_front n k t (m / 2) kept (omega arith) half) ∙ ap (λ (ws : List ℕ). ws ++ replicate k 0) (sym (spread_zero n m kept even))
      | inr odd ↦
          let one : m % 2 ≡ 1 = omega arith in
          spread_some t m kept one ∙ ap (λ (ws : List ℕ). get_or kept 0 0 ∷ ws) (spread_front n k t (m / 2) (drop 1 kept) (omega arith) half) ∙ ap (λ (ws : List ℕ). ws ++ replicate k 0) (sym (spread_some n m kept one))
    ]
