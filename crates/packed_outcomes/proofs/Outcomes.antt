-- An outcome from its words.
use Rattle.std.proofs.Common.{◌≡◌, refl, sym, ap, ◌∙◌, ℕ, zero, suc, ◌+◌, ◌-◌, ◌/◌, ◌%◌, ◌^◌, ◌<◌, ◌≤◌, inl, inr, List, [], ◌∷◌, ◌++◌, length, take, drop, replicate, get_or, slice_set, min, arith}
use Rattle.std.proofs.lemmas.List.{take_at, drop_at, drop-drop, get_or-drop, take_min, length-append, length-drop, length-take-le, length-replicate, take-replicate, append_assoc}
use Rattle.std.proofs.lemmas.Bool.{cases_eq}
use Rattle.byteorder.specs.Endian.{little_number}
use Rattle.helpers.specs.Padded.{padded}
use Rattle.bpf_profile.specs.Outcomes.{Outcome, IsOutcome, AreBytes, duration_of}
use Rattle.packed_outcomes.specs.Words.{words_in, words_of, bytes_of, outcome_of, HasNumbersAlone}
use Rattle.packed_outcomes.specs.Marks.{spread, packed_of, unpacked_words}
use Rattle.packed_outcomes.specs.Packed.{unpacked}
use Rattle.packed_outcomes.proofs.WordBytes.{words_in_length, bytes_again, bytes_length, second_word, words_in_two}
use Rattle.packed_outcomes.proofs.Spreading.{unpacked_again, spread_zero, spread_some, spread_front, packed_front}

pub words_length : (o : Outcome) → length o.facts ≡ 16 → length (words_of o) ≡ 45
words_length o sixteen =
    omega (arith, length-append (words_in 24 o.context) (o.facts ++ (words_in 4 (padded 32 o.tag) ++ (length o.tag ∷ []))), length-append o.facts (words_in 4 (padded 32 o.tag) ++ (length o.tag ∷ [])), length-append (words_in 4 (padded 32 o.tag)) (length o.tag ∷ []), words_in_length 24 o.context, words_in_length 4 (padded 32 o.tag))

zeros_are_bytes : (n : ℕ) → AreBytes (replicate n 0)
zeros_are_bytes zero = tt
zeros_are_bytes (suc n) = (omega arith, zeros_are_bytes n)

both_are_bytes : (xs ys : List ℕ) → AreBytes xs → AreBytes ys → AreBytes (xs ++ ys)
both_are_bytes [] ys fits more = more
both_are_bytes (x ∷ xs) ys fits more = (fits.0, both_are_bytes xs ys fits.1 more)

-- the parts of a list of four parts
parts_outcome : (context facts tag : List ℕ) (n : ℕ) → length context ≡ 24 → length facts ≡ 16 → length tag ≡ 4
    → outcome_of (context ++ (facts ++ (tag ++ (n ∷ [])))) ≡ record { context = bytes_of context; facts = facts; tag = take n (bytes_of tag) }
parts_outcome context facts tag n c f t =
    let words = context ++ (facts ++ (tag ++ (n ∷ []))) in
    let first : take 24 words ≡ context = take_at context (facts ++ (tag ++ (n ∷ []))) 24 c in
    let behind : drop 24 words ≡ facts ++ (tag ++ (n ∷ [])) = drop_at context (facts ++ (tag ++ (n ∷ []))) 24 c in
    let second : take 16 (drop 24 words) ≡ facts = ap (take 16) behind ∙ take_at facts (tag ++ (n ∷ [])) 16 f in
    let further : drop 40 words ≡ tag ++ (n ∷ []) = sym (drop-drop 16 24 words) ∙ ap (drop 16) behind ∙ drop_at facts (tag ++ (n ∷ [])) 16 f in
    let third : take 4 (drop 40 words) ≡ tag = ap (take 4) further ∙ take_at tag (n ∷ []) 4 t in
    let last : drop 44 words ≡ n ∷ [] = sym (drop-drop 4 40 words) ∙ ap (drop 4) further ∙ drop_at tag (n ∷ []) 4 t in
    λ i. record { context = bytes_of (first i); facts = second i; tag = take (get_or (last i) 0 0) (bytes_of (third i)) }

-- an outcome comes back from its words
pub outcome_again : (o : Outcome) → IsOutcome 192 o → length o.context ≡ 192 → outcome_of (words_of o) ≡ o
outcome_again o is long =
    let size : length (padded 32 o.tag) ≡ 32 = omega (arith, is.short, length-append o.tag (replicate (32 - length o.tag) 0), length-replicate {A = ℕ} (32 - length o.tag) 0) in
    let context : bytes_of (words_in 24 o.context) ≡ o.context = bytes_again 24 o.context (omega arith) is.context in
    let tag : bytes_of (words_in 4 (padded 32 o.tag)) ≡ padded 32 o.tag = bytes_again 4 (padded 32 o.tag) (omega arith) (both_are_bytes o.tag (replicate (32 - length o.tag) 0) is.tag (zeros_are_bytes (32 - length o.tag))) in
    let short : take (length o.tag) (bytes_of (words_in 4 (padded 32 o.tag))) ≡ o.tag = ap (take (length o.tag)) tag ∙ take_at o.tag (replicate (32 - length o.tag) 0) (length o.tag) refl in
    parts_outcome (words_in 24 o.context) o.facts (words_in 4 (padded 32 o.tag)) (length o.tag) (words_in_length 24 o.context) is.sixteen (words_in_length 4 (padded 32 o.tag))
    ∙ (λ i. record { context = context i; facts = o.facts; tag = short i })

-- an outcome comes back from what is packed of it
pub packed_is : (o : Outcome) (packed : List ℕ) → packed ≡ packed_of (words_of o) → IsOutcome 192 o → length o.context ≡ 192 → unpacked packed ≡ o
packed_is o packed p is long =
    ap unpacked p ∙ ap (λ (n : ℕ). outcome_of (unpacked_words n (packed_of (words_of o)))) (sym (words_length o is.sixteen)) ∙ ap outcome_of (unpacked_again (words_of o)) ∙ outcome_again o is long

-- the front of a tag filled up
front_padded : (n k : ℕ) (tag : List ℕ) → length tag ≤ n → n ≤ length tag + k → take n (tag ++ replicate k 0) ≡ tag ++ replicate (n - length tag) 0
front_padded n k [] short long = take-replicate n k 0 (omega arith) ∙ ap (λ (m : ℕ). replicate {A = ℕ} m 0) (omega arith)
front_padded zero k (t ∷ tag) short long = absurd (omega arith)
front_padded (suc n) k (t ∷ tag) short long =
    let size : suc n - suc (length tag) ≡ n - length tag = omega arith in
    ap (λ (ts : List ℕ). t ∷ ts) (front_padded n k tag (omega arith) (omega arith)) ∙ ap (λ (m : ℕ). t ∷ (tag ++ replicate m 0)) (sym size)

pub tag_padded : (tag : List ℕ) → length tag ≤ 32 → take 32 (tag ++ replicate 32 0) ≡ padded 32 tag
tag_padded tag short = front_padded 32 32 tag short (omega arith)

pub only_one : (xs : List ℕ) (n m : ℕ) → length xs ≡ 1 → n ≡ m → slice_set xs 0 n ≡ m ∷ []
only_one [] n m e same = absurd (omega arith)
only_one (x ∷ []) n m e same = ap (λ (y : ℕ). y ∷ []) same
only_one (x ∷ y ∷ xs) n m e same = absurd (omega arith)

-- a tag, from the parts that its words were split into
pub tag_taken : (words first second front back : List ℕ) (count : ℕ) (bytes : List ℕ) → length words ≡ 45
    → first ≡ drop 24 words → second ≡ drop 16 first → front ≡ take 4 second → back ≡ drop 4 second → count ≡ min (get_or back 0 0) 32 → bytes ≡ bytes_of front
    → take count bytes ≡ take (get_or (drop 44 words) 0 0) (bytes_of (take 4 (drop 40 words)))
tag_taken words first second front back count bytes size e1 e2 e3 e4 ec eb =
    let behind : second ≡ drop 40 words = e2 ∙ ap (drop 16) e1 ∙ drop-drop 16 24 words in
    let front_is : front ≡ take 4 (drop 40 words) = e3 ∙ ap (take 4) behind in
    let last : back ≡ drop 44 words = e4 ∙ ap (drop 4) behind ∙ drop-drop 4 40 words in
    let four : length (take 4 (drop 40 words)) ≡ 4 = length-take-le 4 (drop 40 words) (omega (arith, length-drop 40 words)) in
    let long : length (bytes_of (take 4 (drop 40 words))) ≡ 32 = omega (arith, bytes_length (take 4 (drop 40 words)), four) in
    let few : count ≡ min (get_or (drop 44 words) 0 0) (length (bytes_of (take 4 (drop 40 words)))) = ec ∙ ap (λ (xs : List ℕ). min (get_or xs 0 0) 32) last ∙ ap (λ (n : ℕ). min (get_or (drop 44 words) 0 0) n) (sym long) in
    ap (take count) (eb ∙ ap bytes_of front_is) ∙ ap (λ (n : ℕ). take n (bytes_of (take 4 (drop 40 words)))) few ∙ take_min (get_or (drop 44 words) 0 0) (bytes_of (take 4 (drop 40 words)))

-- ---- the duration

from_second : (m a b : ℕ) (kept rest : List ℕ) → spread 45 m kept ≡ a ∷ b ∷ rest → b < 2 ^ 64 → duration_of (outcome_of (spread 45 m kept)) ≡ b
from_second m a b kept rest is small =
    ap (λ (words : List ℕ). little_number 8 (drop 8 (bytes_of (take 24 words)))) is ∙ second_word a b (take 22 rest) small

pub duration_zero : (m : ℕ) (kept : List ℕ) → m / 2 % 2 ≡ 0 → duration_of (outcome_of (spread 45 m kept)) ≡ 0
duration_zero m kept even = elim (cases_eq (m % 2) 0) [
  | inl first ↦ from_second m 0 0 kept (spread 43 (m / 2 / 2) kept) (spread_zero 44 m kept first ∙ ap (λ (ws : List ℕ). 0 ∷ ws) (spread_zero 43 (m / 2) kept even)) (omega arith)
  | inr first ↦ from_second m (get_or kept 0 0) 0 kept (spread 43 (m / 2 / 2) (drop 1 kept)) (spread_some 44 m kept (omega arith) ∙ ap (λ (ws : List ℕ). get_or kept 0 0 ∷ ws) (spread_zero 43 (m / 2) (drop 1 kept) even)) (omega arith)
]

pub duration_some : (m w : ℕ) (kept : List ℕ) → m / 2 % 2 ≡ 1 → w ≡ get_or kept (m % 2) 0 → w < 2 ^ 64 → duration_of (outcome_of (spread 45 m kept)) ≡ w
duration_some m w kept odd is small = elim (cases_eq (m % 2) 0) [
  | inl first ↦
      let word : get_or kept 0 0 ≡ w = ap (λ (k : ℕ). get_or kept k 0) (sym first) ∙ sym is in
      from_second m 0 w kept (spread 43 (m / 2 / 2) (drop 1 kept)) (spread_zero 44 m kept first ∙ ap (λ (ws : List ℕ). 0 ∷ ws) (spread_some 43 (m / 2) kept odd) ∙ ap (λ (x : ℕ). 0 ∷ x ∷ spread 43 (m / 2 / 2) (drop 1 kept)) word) small
  | inr first ↦
      let place : m % 2 ≡ 1 = omega arith in
      let word : get_or (drop 1 kept) 0 0 ≡ w = get_or-drop 1 kept 0 0 ∙ ap (λ (k : ℕ). get_or kept k 0) (sym place) ∙ sym is in
      from_second m (get_or kept 0 0) w kept (spread 43 (m / 2 / 2) (drop 1 (drop 1 kept))) (spread_some 44 m kept place ∙ ap (λ (ws : List ℕ). get_or kept 0 0 ∷ ws) (spread_some 43 (m / 2) (drop 1 kept) odd) ∙ ap (λ (x : ℕ). get_or kept 0 0 ∷ x ∷ spread 43 (m / 2 / 2) (drop 1 (drop 1 kept))) word) small
]

-- the duration, from the marks and the words behind them
pub duration_split : (packed : List ℕ) (m : ℕ) (kept : List ℕ) → m ≡ get_or packed 0 0 → kept ≡ drop 1 packed → duration_of (outcome_of (spread 45 m kept)) ≡ duration_of (unpacked packed)
duration_split packed m kept first rest =
    ap (λ (n : ℕ). duration_of (outcome_of (spread 45 n kept))) first ∙ ap (λ (ks : List ℕ). duration_of (outcome_of (spread 45 (get_or packed 0 0) ks))) rest

-- ---- outcomes of which the numbers alone are not 0

zero_words : words_in 16 (replicate 128 0) ≡ replicate 16 0
unfolding words_in
zero_words = refl

zero_tag : words_in 4 (padded 32 []) ≡ replicate 4 0
unfolding words_in
zero_tag = refl

numbers_words : (o : Outcome) → HasNumbersAlone o → words_of o ≡ words_in 8 o.context ++ replicate 37 0
numbers_words o alone =
    let first : words_in 24 o.context ≡ words_in 8 o.context ++ replicate 16 0 = words_in_two 8 16 24 o.context refl ∙ ap (λ (bs : List ℕ). words_in 8 o.context ++ words_in 16 bs) alone.front ∙ ap (λ (ws : List ℕ). words_in 8 o.context ++ ws) zero_words in
    let last : words_in 4 (padded 32 o.tag) ++ (length o.tag ∷ []) ≡ replicate 5 0 = ap (λ (t : List ℕ). words_in 4 (padded 32 t) ++ (length t ∷ [])) alone.tag ∙ ap (λ (ws : List ℕ). ws ++ (0 ∷ [])) zero_tag in
    ap (λ (ws : List ℕ). ws ++ (o.facts ++ (words_in 4 (padded 32 o.tag) ++ (length o.tag ∷ [])))) first
    ∙ ap (λ (fs : List ℕ). (words_in 8 o.context ++ replicate 16 0) ++ (fs ++ (words_in 4 (padded 32 o.tag) ++ (length o.tag ∷ [])))) alone.facts
    ∙ ap (λ (ws : List ℕ). (words_in 8 o.context ++ replicate 16 0) ++ (replicate 16 0 ++ ws)) last
    ∙ append_assoc (words_in 8 o.context) (replicate 16 0) (replicate 16 0 ++ replicate 5 0)

pub packed_numbers : (o : Outcome) → HasNumbersAlone o → packed_of (words_in 8 o.context) ≡ packed_of (words_of o)
packed_numbers o alone = sym (ap packed_of (numbers_words o alone) ∙ packed_front (words_in 8 o.context) 37)

pub numbers_outcome : (words : List ℕ) → length words ≡ 8 → record { context = padded 192 (bytes_of words); facts = replicate 16 0; tag = [] } ≡ outcome_of (words ++ replicate 37 0)
numbers_outcome (a ∷ b ∷ c ∷ d ∷ e ∷ f ∷ g ∷ h ∷ []) size = refl
numbers_outcome words size = absurd (omega arith)

pub spread_numbers : (m : ℕ) (kept : List ℕ) → m < 2 ^ 8 → outcome_of (spread 8 m kept ++ replicate 37 0) ≡ outcome_of (spread 45 m kept)
spread_numbers m kept small = ap outcome_of (sym (spread_front 8 37 45 m kept refl small))
