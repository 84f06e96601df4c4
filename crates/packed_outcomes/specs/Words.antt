-- An outcome as a list of words below 2^64: those of its context, its facts, those of its tag, and the tag's length.
use Rattle.std.specs.Prelude.{◌≡◌, replicate, ℕ, zero, suc, List, [], ◌∷◌, ◌++◌, length, take, drop, get_or, flat_map}
use Rattle.byteorder.specs.Endian.{little_number, little_bytes}
use Rattle.bpf_profile.specs.Outcomes.{Outcome}
use Rattle.helpers.specs.Padded.{padded}

-- how many words an outcome is
abbrev pub word_count : ℕ
word_count = 45

-- the first so many words in bytes, of eight bytes each, the lowest byte first
unfoldable pub words_in : ℕ → List ℕ → List ℕ
words_in zero bytes = []
words_in (suc n) bytes = little_number 8 bytes ∷ words_in n (drop 8 bytes)

-- the bytes of words
abbrev pub bytes_of : List ℕ → List ℕ
bytes_of words = flat_map (little_bytes 8) words

-- the words of an outcome: 24 of its context, 16 facts, four of its tag and zeros behind it, and the tag's length
abbrev pub words_of : Outcome → List ℕ
words_of o = words_in 24 o.context ++ (o.facts ++ (words_in 4 (padded 32 o.tag) ++ (length o.tag ∷ [])))

-- the outcome of such words
abbrev pub outcome_of : List ℕ → Outcome
outcome_of words = record {
  context = bytes_of (take 24 words);
  facts = take 16 (drop 24 words);
  tag = take (get_or (drop 44 words) 0 0) (bytes_of (take 4 (drop 40 words)));
}

-- all is 0 or empty but the numbers at the context's front
pub record HasNumbersAlone (o : Outcome) : Type 0 where
  pub front : drop 64 o.context ≡ replicate 128 0
  pub facts : o.facts ≡ replicate 16 0
  pub tag : o.tag ≡ []
