-- Lines that are taken off a text.
use Rattle.std.proofs.Common.{◌≡◌, ℕ, ◌+◌, ◌==◌, nat_lt, true, false, List, [], ◌∷◌, ◌++◌, length, Option, Some, None, refl, ap, sym, subst, ◌∙◌, append_assoc, arith, rules}
use Rattle.std.proofs.lemmas.Grind.{common_steps}
use Rattle.counted_io.specs.Counting.{TakesByte}
use Rattle.replay.specs.Lines.{in_first, lines, first_if, TakesLine, LosesLines}

-- ---- a line, byte by byte

-- a line that has begun stands in front of the first of some lines
unfoldable pub joined : List ℕ → List (List ℕ) → List (List ℕ)
joined [] later = later
joined (byte ∷ bytes) later = in_first byte (joined bytes later)

joined_more : (line : List ℕ) (byte : ℕ) (later : List (List ℕ)) → joined (line ++ byte ∷ []) later ≡ joined line (in_first byte later)
unfolding joined
joined_more [] byte later = refl
joined_more (x ∷ line) byte later = ap (in_first x) (joined_more line byte later)

joined_line : (line first : List ℕ) (later : List (List ℕ)) → joined line (first ∷ later) ≡ (line ++ first) ∷ later
unfolding joined
joined_line [] first later = refl
joined_line (x ∷ line) first later = ap (in_first x) (joined_line line first later)

joined_end : (x : ℕ) (line : List ℕ) → joined (x ∷ line) [] ≡ (x ∷ line) ∷ []
unfolding joined
joined_end x [] = refl
joined_end x (y ∷ line) = ap (in_first x) (joined_end y line)

joined_whole : (line : List ℕ) (count : ℕ) → count ≡ length line → joined line [] ≡ first_if (nat_lt 0 count) line []
unfolding joined
joined_whole [] count counted =
    let test : nat_lt 0 count ≡ false = grind (arith, common_steps) in
    rw test refl
joined_whole (x ∷ line) count counted =
    let test : nat_lt 0 count ≡ true = grind (arith, common_steps) in
    rw test (joined_end x line)

-- whatever comes behind it, a line has begun so
abbrev pub IsOpen : List ℕ → Type 0
IsOpen line = (rest : List ℕ) → lines (line ++ rest) ≡ joined line (lines rest)

-- a line has begun, and the rest of the text is left
abbrev pub HasBegun : Option (List ℕ) → Option (List ℕ) → List ℕ → Type 0
HasBegun None left line = Unit {0}
HasBegun (Some text) left line = (rest : List ℕ) × (left ≡ Some rest) × (text ≡ line ++ rest) × IsOpen line

pub begun_none : (text : Option (List ℕ)) (line : List ℕ) → line ≡ [] → HasBegun text text line
unfolding joined
begun_none text line none = search rules

open_more : (line : List ℕ) (byte : ℕ) → IsOpen line → (byte == 10) ≡ false → IsOpen (line ++ byte ∷ [])
open_more line byte begun other rest =
    ap lines (append_assoc line (byte ∷ []) rest) ∙ begun (byte ∷ rest) ∙ ap (joined line) (rw other refl) ∙ sym (joined_more line byte (lines rest))

pub begun_more : (text left after : Option (List ℕ)) (line more : List ℕ) (byte : ℕ) → HasBegun text left line → TakesByte left after (Some byte)
    → more ≡ line ++ byte ∷ [] → (byte == 10) ≡ false → HasBegun text after more
begun_more None left after line more byte begun taken is other = tt
begun_more (Some text) None after line more byte (rest, there, split, all) taken is other = absurd (let e : None ≡ Some rest = there in cc)
begun_more (Some text) (Some []) after line more byte (rest, there, split, all) taken is other = absurd (let e : Some byte ≡ None = taken.0 in cc)
begun_more (Some text) (Some (x ∷ left)) after line more byte (rest, there, split, all) taken is other =
    let same : rest ≡ byte ∷ left = (let e : Some byte ≡ Some x = taken.0 in let f : Some (x ∷ left) ≡ Some rest = there in cc) in
    subst (λ (l : List ℕ). HasBegun (Some text) after l) (sym is)
    (left, taken.1, split ∙ ap (λ (r : List ℕ). line ++ r) same ∙ sym (append_assoc line (byte ∷ []) left), open_more line byte all other)

pub line_ends : (text left after : Option (List ℕ)) (line more : List ℕ) (byte : ℕ) → HasBegun text left line → TakesByte left after (Some byte)
    → more ≡ line ++ byte ∷ [] → byte ≡ 10 → TakesLine text after true more
line_ends None left after line more byte begun taken is feed = tt
line_ends (Some text) None after line more byte (rest, there, split, all) taken is feed = absurd (let e : None ≡ Some rest = there in cc)
line_ends (Some text) (Some []) after line more byte (rest, there, split, all) taken is feed = absurd (let e : Some byte ≡ None = taken.0 in cc)
line_ends (Some text) (Some (x ∷ left)) after line more byte (rest, there, split, all) taken is feed =
    let same : rest ≡ byte ∷ left = (let e : Some byte ≡ Some x = taken.0 in let f : Some (x ∷ left) ≡ Some rest = there in cc) in
    let whole : rest ≡ 10 ∷ left = same ∙ ap (λ (b : ℕ). b ∷ left) feed in
    let ended : more ≡ line ++ 10 ∷ [] = is ∙ ap (λ (b : ℕ). line ++ b ∷ []) feed in (
      left,
      taken.1,
      ap lines (split ∙ ap (λ (r : List ℕ). line ++ r) whole) ∙ all (10 ∷ left) ∙ joined_line line (10 ∷ []) (lines left)
          ∙ ap (λ (l : List ℕ). l ∷ lines left) (sym ended),
    )

pub text_ends : (text left after : Option (List ℕ)) (line : List ℕ) (count : ℕ) → HasBegun text left line → TakesByte left after None
    → count ≡ length line → TakesLine text after (nat_lt 0 count) line
text_ends None left after line count begun taken counted = tt
text_ends (Some text) None after line count (rest, there, split, all) taken counted = absurd (let e : None ≡ Some rest = there in cc)
text_ends (Some text) (Some (x ∷ left)) after line count (rest, there, split, all) taken counted = absurd (let e : None ≡ Some x = taken.0 in cc)
text_ends (Some text) (Some []) after line count (rest, there, split, all) taken counted =
    let empty : rest ≡ [] = (let f : Some [] ≡ Some rest = there in cc) in
    ([], taken.1, ap lines (split ∙ ap (λ (r : List ℕ). line ++ r) empty) ∙ all [] ∙ joined_whole line count counted)

-- ---- lines of blanks are passed over

-- ---- how many lines are left

-- lines were taken off what was left
pub loses_more : (text left after : Option (List ℕ)) (count more : ℕ) → LosesLines count text left → LosesLines more left after → LosesLines (count + more) text after
loses_more text left after count more lost then_lost = search rules
