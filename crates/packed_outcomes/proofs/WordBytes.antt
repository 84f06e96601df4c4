-- Words as bytes and back.
use Rattle.std.proofs.Common.{◌≡◌, refl, sym, ap, ◌∙◌, ℕ, zero, suc, ◌+◌, ◌*◌, ◌/◌, ◌%◌, ◌^◌, ◌<◌, ◌≤◌, List, [], ◌∷◌, ◌++◌, length, take, drop, arith}
use Rattle.std.proofs.lemmas.List.{drop_at, drop-drop, drop-take, length-drop, length-append}
use Rattle.byteorder.specs.Endian.{little_number, little_bytes, IsRead}
use Rattle.byteorder.specs.Numbers.{little_number-reads_back, little_from-take, length-bytes_low_first}
use Rattle.bpf_profile.specs.Outcomes.{AreBytes}
use Rattle.packed_outcomes.specs.Words.{words_in, bytes_of}

-- words that were read one by one are those of the bytes
pub read_words_are : (n : ℕ) (bytes words : List ℕ) → length words ≡ n → IsRead little_number 8 bytes words → words ≡ words_in n bytes
unfolding words_in
read_words_are zero bytes [] len read = refl
read_words_are zero bytes (w ∷ ws) len read = absurd (omega arith)
read_words_are (suc n) bytes [] len read = absurd (omega arith)
read_words_are (suc n) bytes (w ∷ ws) len read =
    let first : w ≡ little_number 8 bytes = read 0 (omega arith) in
    let rest : ws ≡ words_in n (drop 8 bytes) = read_words_are n (drop 8 bytes) ws (omega arith) (λ k inside. read (suc k) (omega arith) ∙ ap (little_number 8) (ap (λ m. drop m bytes) (omega arith) ∙ sym (drop-drop (8 * k) 8 bytes))) in
    cc

pub words_in_length : (n : ℕ) (bytes : List ℕ) → length (words_in n bytes) ≡ n
unfolding words_in
words_in_length zero bytes = refl
words_in_length (suc n) bytes = ap suc (words_in_length n (drop 8 bytes))

eight_back : (a b c d e f g h : ℕ) → a < 256 → b < 256 → c < 256 → d < 256 → e < 256 → f < 256 → g < 256 → h < 256
    → little_bytes 8 (a + 256 * (b + 256 * (c + 256 * (d + 256 * (e + 256 * (f + 256 * (g + 256 * (h + 256 * 0)))))))) ≡ a ∷ b ∷ c ∷ d ∷ e ∷ f ∷ g ∷ h ∷ []
eight_back a b c d e f g h ha hb hc hd he hf hg hh =
    let n = a + 256 * (b + 256 * (c + 256 * (d + 256 * (e + 256 * (f + 256 * (g + 256 * (h + 256 * 0))))))) in
    let e0 : n % 256 ≡ a = omega arith in
    let e1 : n / 256 % 256 ≡ b = omega arith in
    let e2 : n / 65536 % 256 ≡ c = omega arith in
    let e3 : n / 16777216 % 256 ≡ d = omega arith in
    let e4 : n / 4294967296 % 256 ≡ e = omega arith in
    let e5 : n / 1099511627776 % 256 ≡ f = omega arith in
    let e6 : n / 281474976710656 % 256 ≡ g = omega arith in
    let e7 : n / 72057594037927936 % 256 ≡ h = omega arith in
    rw (e0, e1, e2, e3, e4, e5, e6, e7) refl

-- the bytes of a word are the bytes it was read from
word_again : (bytes : List ℕ) → 8 ≤ length bytes → AreBytes bytes → little_bytes 8 (little_number 8 bytes) ++ drop 8 bytes ≡ bytes
word_again (a ∷ b ∷ c ∷ d ∷ e ∷ f ∷ g ∷ h ∷ rest) long fits =
    ap (λ (xs : List ℕ). xs ++ rest) (eight_back a b c d e f g h fits.0 fits.1.0 fits.1.1.0 fits.1.1.1.0 fits.1.1.1.1.0 fits.1.1.1.1.1.0 fits.1.1.1.1.1.1.0 fits.1.1.1.1.1.1.1.0)
word_again bytes long fits = absurd (omega arith)

bytes_drop : (n : ℕ) (bytes : List ℕ) → AreBytes bytes → AreBytes (drop n bytes)
bytes_drop zero bytes fits = fits
bytes_drop (suc n) [] fits = tt
bytes_drop (suc n) (b ∷ bytes) fits = bytes_drop n bytes fits.1

-- the bytes of the words are the bytes that they were read from
pub bytes_again : (n : ℕ) (bytes : List ℕ) → length bytes ≡ 8 * n → AreBytes bytes → bytes_of (words_in n bytes) ≡ bytes
unfolding words_in
bytes_again zero [] len fits = refl
bytes_again zero (b ∷ bytes) len fits = absurd (omega arith)
bytes_again (suc n) bytes len fits =
    let rest = bytes_again n (drop 8 bytes) (omega (arith, length-drop 8 bytes)) (bytes_drop 8 bytes fits) in
    ap (λ (xs : List ℕ). little_bytes 8 (little_number 8 bytes) ++ xs) rest ∙ word_again bytes (omega arith) fits

pub bytes_length : (words : List ℕ) → length (bytes_of words) ≡ 8 * length words
bytes_length [] = refl
bytes_length (w ∷ ws) = omega (arith, length-append (little_bytes 8 w) (bytes_of ws), length-bytes_low_first 0 8 w, bytes_length ws)

-- the second word stands behind the first eight bytes
pub second_word : (a b : ℕ) (words : List ℕ) → b < 2 ^ 64 → little_number 8 (drop 8 (bytes_of (a ∷ b ∷ words))) ≡ b
second_word a b words small =
    ap (little_number 8) (drop_at (little_bytes 8 a) (bytes_of (b ∷ words)) 8 (length-bytes_low_first 0 8 a)) ∙ little_number-reads_back 8 b (bytes_of words) (omega arith)

pub words_in_two : (n k t : ℕ) (bytes : List ℕ) → t ≡ n + k → words_in t bytes ≡ words_in n bytes ++ words_in k (drop (8 * n) bytes)
unfolding words_in
words_in_two zero k t bytes size = let same : t ≡ k = omega arith in ap (λ (j : ℕ). words_in j bytes) same
words_in_two (suc n) k zero bytes size = absurd (omega arith)
words_in_two (suc n) k (suc t) bytes size =
    ap (λ (ws : List ℕ). little_number 8 bytes ∷ ws) (words_in_two n k t (drop 8 bytes) (omega arith) ∙ ap (λ (bs : List ℕ). words_in n (drop 8 bytes) ++ words_in k bs) (drop-drop (8 * n) 8 bytes ∙ ap (λ (j : ℕ). drop j bytes) (omega arith)))

-- words stand in the first bytes alone
pub words_in_front : (n t : ℕ) (bytes : List ℕ) → t ≡ 8 * n → words_in n (take t bytes) ≡ words_in n bytes
unfolding words_in
words_in_front zero t bytes size = refl
words_in_front (suc n) t bytes size =
    let first : little_number 8 (take t bytes) ≡ little_number 8 bytes = little_from-take 0 8 t bytes (omega arith) in
    let behind : drop 8 (take t bytes) ≡ take (8 * n) (drop 8 bytes) = ap (λ (k : ℕ). drop 8 (take k bytes)) (omega arith) ∙ drop-take 8 (8 * n) bytes in
    ap (λ (w : ℕ). w ∷ words_in n (drop 8 (take t bytes))) first ∙ ap (λ (ws : List ℕ). little_number 8 bytes ∷ ws) (ap (words_in n) behind ∙ words_in_front n (8 * n) (drop 8 bytes) refl)
