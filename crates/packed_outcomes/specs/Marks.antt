-- A list of words as marks, which say where it isn't 0, and the words that aren't 0.
use Rattle.std.specs.Prelude.{ℕ, zero, suc, ◌+◌, ◌*◌, ◌/◌, ◌%◌, ◌==◌, if◌then◌else◌, List, [], ◌∷◌, drop, get_or}

-- bit i is 1 where word i isn't 0
unfoldable pub marks_of : List ℕ → ℕ
marks_of [] = 0
marks_of (zero ∷ words) = 2 * marks_of words
marks_of (suc w ∷ words) = 2 * marks_of words + 1

-- the words that aren't 0, in their order
unfoldable pub kept_of : List ℕ → List ℕ
kept_of [] = []
kept_of (zero ∷ words) = kept_of words
kept_of (suc w ∷ words) = suc w ∷ kept_of words

-- so many words: where a mark is 1 the next of those that are kept, else 0
unfoldable pub spread : ℕ → ℕ → List ℕ → List ℕ
spread zero marks kept = []
spread (suc n) marks kept =
    if marks % 2 == 0 then 0 ∷ spread n (marks / 2) kept else get_or kept 0 0 ∷ spread n (marks / 2) (drop 1 kept)

-- what is packed of words: their marks, and those that aren't 0; nothing where all are 0
abbrev pub with_marks : ℕ → List ℕ → List ℕ
with_marks zero kept = []
with_marks (suc marks) kept = suc marks ∷ kept

abbrev pub packed_of : List ℕ → List ℕ
packed_of words = with_marks (marks_of words) (kept_of words)

-- so many words of what is packed of them
abbrev pub unpacked_words : ℕ → List ℕ → List ℕ
unpacked_words n packed = spread n (get_or packed 0 0) (drop 1 packed)
