-- How a line may be written: what of it is read, and which tokens that writes.
use Rattle.std.specs.Prelude.{◌≡◌, ◌≢◌, ℕ, ◌==◌, ◌⊎◌, ◌&&◌, not, Bool, true, IsTrue, List, [], ◌∷◌, ◌++◌, Some}
use Rattle.bpf_asm.specs.declared.tokens.Token.{Token}
use Rattle.bpf_asm.specs.Tokens.{all_digits, ends_run, mark_of, token_of}

-- spaces and tabs
abbrev pub IsBlank : ℕ → Type 0
IsBlank c = (c ≡ 32) ⊎ (c ≡ 9)

-- characters of a word, a register or a number: neither blanks nor marks
abbrev pub is_run : List ℕ → Bool
is_run [] = true
is_run (c ∷ cs) = not (ends_run c) && is_run cs

-- the end of a text, or a blank or a mark
abbrev pub closes : List ℕ → Bool
closes [] = true
closes (c ∷ cs) = ends_run c

-- a text writes its tokens one after another, with blanks anywhere between them
pub data Writes : List ℕ → List Token → Type 0 where
  nothing : Writes [] []
  blank : (c : ℕ) (text : List ℕ) (tokens : List Token) → IsBlank c → Writes text tokens → Writes (c ∷ text) tokens
  mark : (c : ℕ) (text : List ℕ) (t : Token) (tokens : List Token) → mark_of c ≡ Some t → Writes text tokens → Writes (c ∷ text) (t ∷ tokens)
  run : (c : ℕ) (cs text : List ℕ) (tokens : List Token) → is_run (c ∷ cs) ≡ true → closes text ≡ true → Writes text tokens → Writes ((c ∷ cs) ++ text) (token_of (c ∷ cs) ∷ tokens)

-- no comment begins in a text
abbrev pub has_no_comment : List ℕ → Bool
has_no_comment [] = true
has_no_comment (c ∷ cs) = not (c == 59) && has_no_comment cs

-- of a line everything is read but one carriage return at its end, and a comment from its semicolon on
pub data IsContent : List ℕ → List ℕ → Type 0 where
  whole : (line : List ℕ) → has_no_comment line ≡ true → ((before : List ℕ) → line ≢ before ++ (13 ∷ [])) → IsContent line line
  before_return : (content : List ℕ) → has_no_comment content ≡ true → IsContent (content ++ (13 ∷ [])) content
  before_comment : (content comment : List ℕ) → has_no_comment content ≡ true → IsContent (content ++ (59 ∷ comment)) content

-- what is read of a line writes these tokens
pub record IsWritten (line : List ℕ) (tokens : List Token) : Type 0 where
  pub content : List ℕ
  pub part : IsContent line content
  pub writes : Writes content tokens

-- one digit or more, in this base
abbrev pub IsNumeral : ℕ → List ℕ → Type 0
IsNumeral radix digits = (digits ≢ []) × IsTrue (all_digits radix digits)
