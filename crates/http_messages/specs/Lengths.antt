-- The length of a body, as the field Content-Length has it (RFC 9112, section 6.2).
use Rattle.std.specs.Prelude.{◌≡◌, ◌≢◌, ◌⊎◌, ◌<◌, ℕ, ◌^◌, ◌==◌, ◌&&◌, All, List, [], ◌∷◌, map, Bool, true, false, Option, Some, None, option_and_then, nat_lt, if◌then◌else◌, codes}
use Rattle.std.specs.List.{Contains, filter}
use Rattle.std.specs.Char.{to_ascii_lowercase}
use Rattle.std.specs.Str.{bytes_eq, all_ascii_digits}
use Rattle.std.specs.Str.Parse.{digits_value}

-- ---- decimal digits

-- one decimal digit or more, and nothing else
abbrev pub is_decimal : List ℕ → Bool
is_decimal [] = false
is_decimal (c ∷ cs) = all_ascii_digits (c ∷ cs)

-- the number below 2^64 that a text writes in decimal digits alone; None where it is empty, has another byte, or writes a larger number
abbrev pub decimal_of : List ℕ → Option ℕ
decimal_of text = if is_decimal text && nat_lt (digits_value 10 text) (2 ^ 64) then Some (digits_value 10 text) else None

-- ---- fields

-- a field has this name, in letters of either case; the name is given in lower case
abbrev pub is_named : List ℕ → List ℕ → Bool
is_named wanted name = bytes_eq (map to_ascii_lowercase name) wanted

-- the length is the one that fields before it gave, if any did
abbrev pub agrees : Option ℕ → ℕ → Bool
agrees None number = true
agrees (Some other) number = other == number

abbrev pub with_length : Option ℕ → Option ℕ → Option (Option ℕ)
with_length seen None = None
with_length seen (Some number) = if agrees seen number then Some (Some number) else None

-- what is known of the length with one field more, a name and a value
abbrev pub with_field : Option ℕ → List ℕ × List ℕ → Option (Option ℕ)
with_field seen field = if is_named (codes "content-length") field.0 then with_length seen (decimal_of field.1) else Some seen

-- the length that fields give behind others, if any does; None where one is no number, or two differ as numbers
unfoldable pub length_from : Option ℕ → List (List ℕ × List ℕ) → Option (Option ℕ)
length_from seen [] = Some seen
length_from seen (field ∷ fields) = option_and_then (λ known. length_from known fields) (with_field seen field)

-- ---- the same in words

-- the values of the fields Content-Length, in order
abbrev pub length_texts : List (List ℕ × List ℕ) → List (List ℕ)
length_texts fields = map (λ field. field.1) (filter (λ field. is_named (codes "content-length") field.0) fields)

-- the text writes this number, below 2^64, in decimal digits and nothing else
abbrev pub Spells : List ℕ → ℕ → Type 0
Spells text number = (is_decimal text ≡ true) × (digits_value 10 text ≡ number) × (number < 2 ^ 64)

-- a text writes no such number, or two write different ones
abbrev pub AreNoLength : List (List ℕ) → Type 0
AreNoLength texts =
    ((text : List ℕ) × Contains texts text × ((number : ℕ) → ¬ (Spells text number)))
    ⊎ ((first second : List ℕ) × (one other : ℕ) × Contains texts first × Contains texts second × Spells first one × Spells second other × (one ≢ other))

-- the length that texts give: the number that each of them writes, or none where there is no text
abbrev pub IsLengthOf : List (List ℕ) → Option (Option ℕ) → Type 0
IsLengthOf texts None = AreNoLength texts
IsLengthOf texts (Some None) = texts ≡ []
IsLengthOf texts (Some (Some number)) = (texts ≢ []) × All (λ text. Spells text number) texts
