-- Failed calls, ends that were met, and what is taken and written.
use Rattle.std.specs.Prelude.{◌≡◌, ◌⊎◌, ℕ, ◌+◌, ◌%◌, ◌^◌, ◌==◌, ◌&&◌, nat_lt, Bool, true, false, List, [], ◌∷◌, ◌++◌, Option, Some, None, Result, Ok, Err, if◌then◌else◌, ⊤}
use Rattle.std.specs.Io.KnownBytes.{Appends}

-- a reader or a writer, how many of its calls failed, and how many reads met the end of the input
pub record CountedData (T : Type 0) : Type 0 where
  pub inner : T
  pub failures : ℕ
  pub ends : ℕ

-- one more call; behind 2^64 - 1 a count goes on at 0, so that it is another one after each call that counts
abbrev pub one_more : ℕ → ℕ
one_more count = (count + 1) % 2 ^ 64

-- a count after a call, which counts or doesn't
abbrev pub counted : Bool → ℕ → ℕ
counted counts count = if counts then one_more count else count

-- one call counted, or none did
abbrev pub AtMostOneMore : ℕ → ℕ → Type 0
AtMostOneMore before after = (after ≡ before) ⊎ (after ≡ one_more before)

-- a write of a piece of this length failed: it answered an error, or took nothing of a piece that isn't empty
abbrev pub is_failed_write : {E : Type 0} → Result ℕ E → ℕ → Bool
is_failed_write (Ok taken) size = (taken == 0) && nat_lt 0 size
is_failed_write (Err e) size = true

-- a read into a piece of this length met the end of the input: it gave nothing, though there was room
abbrev pub is_end : {E : Type 0} → Result ℕ E → ℕ → Bool
is_end (Ok taken) size = (taken == 0) && nat_lt 0 size
is_end (Err e) size = false

-- no byte was found, since the input had ended
abbrev pub is_end_found : {E : Type 0} → Result (Option ℕ) E → Bool
is_end_found (Ok None) = true
is_end_found (Ok (Some byte)) = false
is_end_found (Err e) = false

-- the first byte was taken off what a reader has left, where that is known; None where nothing is left
abbrev pub TakesByte : Option (List ℕ) → Option (List ℕ) → Option ℕ → Type 0
TakesByte None left found = ⊤
TakesByte (Some []) left found = (found ≡ None) × (left ≡ Some [])
TakesByte (Some (byte ∷ rest)) left found = (found ≡ Some byte) × (left ≡ Some rest)

-- a beginning of a text, or all of it
abbrev pub IsBeginning : List ℕ → List ℕ → Type 0
IsBeginning part whole = (rest : List ℕ) × (whole ≡ part ++ rest)

-- a beginning of a text was written, or all of it
abbrev pub AppendsPart : Option (List ℕ) → Option (List ℕ) → List ℕ → Type 0
AppendsPart before after text = (part : List ℕ) × IsBeginning part text × Appends before after part

-- a beginning of a text that lacks a byte of it, at least
abbrev pub IsProperBeginning : List ℕ → List ℕ → Type 0
IsProperBeginning part whole = (byte : ℕ) × (rest : List ℕ) × (whole ≡ part ++ byte ∷ rest)

-- a beginning of a text was written, and not all of it
abbrev pub AppendsProperPart : Option (List ℕ) → Option (List ℕ) → List ℕ → Type 0
AppendsProperPart before after text = (part : List ℕ) × IsProperBeginning part text × Appends before after part
