-- A line as tokens: words, registers, numbers and marks. Letters are small here.
use Rattle.std.specs.Prelude.{ℕ, ◌-◌, ◌^◌, ◌==◌, nat_lt, ◌&&◌, ◌||◌, Bool, true, false, if◌then◌else◌, List, [], ◌∷◌, ◌++◌, length, take, drop, option_to_list, Option, Some, None, codes}
use Rattle.std.specs.Char.{digit_value}
use Rattle.std.specs.List.{position}
use Rattle.std.specs.Option.{is_some}
use Rattle.std.specs.Str.{bytes_eq}
use Rattle.std.specs.Str.Parse.{digits_value}
use Rattle.bpf_asm.specs.declared.tokens.Token.{Token}
use Rattle.bpf_asm.specs.declared.tokens.Token.TheVariants as token
use Rattle.bpf_asm.specs.declared.words.Word.{Word}
use Rattle.bpf_asm.specs.Names.{word_named}

-- ---- numbers

-- a number below 2 ^ 64; None stands for each larger one
abbrev pub bounded : ℕ → Option ℕ
bounded n = if nat_lt n (2 ^ 64) then Some n else None

abbrev pub all_digits : ℕ → List ℕ → Bool
all_digits radix [] = true
all_digits radix (c ∷ cs) = nat_lt (digit_value c) radix && all_digits radix cs

-- the number that one digit or more write
unfoldable pub numeral : ℕ → List ℕ → Option (Option ℕ)
numeral radix [] = None
numeral radix (c ∷ cs) = if all_digits radix (c ∷ cs) then Some (bounded (digits_value radix (c ∷ cs))) else None

-- hexadecimal behind 0x, and else decimal
unfoldable pub number_of : List ℕ → Option (Option ℕ)
number_of run = if bytes_eq (take 2 run) (codes "0x") then numeral 16 (drop 2 run) else numeral 10 run

-- ---- runs of characters

-- the registers (RFC 9669, section 2)
unfoldable pub register_named : List ℕ → Option ℕ
register_named s =
    if bytes_eq s (codes "r0") then Some 0
    else (if bytes_eq s (codes "r1") then Some 1
    else (if bytes_eq s (codes "r2") then Some 2
    else (if bytes_eq s (codes "r3") then Some 3
    else (if bytes_eq s (codes "r4") then Some 4
    else (if bytes_eq s (codes "r5") then Some 5
    else (if bytes_eq s (codes "r6") then Some 6
    else (if bytes_eq s (codes "r7") then Some 7
    else (if bytes_eq s (codes "r8") then Some 8
    else (if bytes_eq s (codes "r9") then Some 9
    else (if bytes_eq s (codes "r10") then Some 10
    else None))))))))))

abbrev pub word_token : Option Word → Token
word_token (Some word) = token.Word word
word_token None = token.Unknown

abbrev pub name_token : Option ℕ → Option Word → Token
name_token (Some register) word = token.Register register
name_token None word = word_token word

abbrev pub token_from : Option (Option ℕ) → Option ℕ → Option Word → Token
token_from (Some number) register word = token.Number number
token_from None register word = name_token register word

-- what a run of characters is
unfoldable pub token_of : List ℕ → Token
token_of run = token_from (number_of run) (register_named run) (word_named run)

-- the token of a run that has ended; none where there was no run
unfoldable pub run_tokens : List ℕ → List Token
run_tokens [] = []
run_tokens (c ∷ cs) = token_of (c ∷ cs) ∷ []

-- ---- lines

-- characters that are tokens of their own
unfoldable pub mark_of : ℕ → Option Token
mark_of c =
    if c == 44 then Some token.Comma
    else (if c == 91 then Some token.Open
    else (if c == 93 then Some token.Close
    else (if c == 43 then Some token.Plus
    else (if c == 45 then Some token.Minus
    else None))))

-- blanks, tabs and marks end a run
unfoldable pub ends_run : ℕ → Bool
ends_run c = (c == 32) || ((c == 9) || is_some (mark_of c))

-- the tokens of the characters that are left, after the run that has begun
unfoldable pub tokens_after : List ℕ → List ℕ → List Token
tokens_after run [] = run_tokens run
tokens_after run (c ∷ cs) = elim (ends_run c) [
  | true ↦ run_tokens run ++ (option_to_list (mark_of c) ++ tokens_after [] cs)
  | false ↦ tokens_after (run ++ (c ∷ [])) cs
]

-- a line without the carriage return at its end
abbrev pub without_return : List ℕ → List ℕ
without_return line = if bytes_eq (drop (length line - 1) line) (13 ∷ []) then take (length line - 1) line else line

abbrev pub up_to : Option ℕ → List ℕ → List ℕ
up_to (Some end) line = take end line
up_to None line = line

-- what stands before the first semicolon, which begins a comment
abbrev pub without_comment : List ℕ → List ℕ
without_comment line = up_to (position (λ c. c == 59) line) line

abbrev pub content_of : List ℕ → List ℕ
content_of line = without_comment (without_return line)

abbrev pub tokens_of : List ℕ → List Token
tokens_of line = tokens_after [] (content_of line)
