-- The canonical text of a program stands for the program.
use Rattle.std.proofs.Common.{◌≡◌, refl, sym, ap, ◌∙◌, subst, ℕ, ◌<◌, true, List, [], ◌∷◌, ◌++◌, map, Option, Some, None, Result, Ok, pos, negsuc, ℤ, append_assoc, arith}
use Rattle.std.specs.Prelude.{codes, decimal}
use Rattle.std.specs.List.{flat_map, AllByRecursion}
use Rattle.refusals.specs.declared.RefusalNumber.{RefusalNumber}
use Rattle.bpf_profile.specs.declared.instruction.Instruction.{Instruction}
use Rattle.bpf_profile.specs.declared.instruction.Instruction.TheVariants as instruction
use Rattle.bpf_profile.specs.declared.instruction.Operand.TheVariants as operand
use Rattle.bpf_profile.specs.declared.slot.Slot.{Slot}
use Rattle.bpf_profile.specs.Spelling.{IsProgram}
use Rattle.bpf_profile.specs.Words.{signed}
use Rattle.bpf_decode.specs.Encoding.{encoding, IsInstruction}
use Rattle.bpf_asm.specs.declared.arguments.Argument.TheVariants as argument
use Rattle.bpf_asm.specs.declared.arguments.Arguments.{Arguments}
use Rattle.bpf_asm.specs.declared.arguments.Arguments.TheVariants as arguments
use Rattle.bpf_asm.specs.declared.arguments.Sign.TheVariants as sign
use Rattle.bpf_asm.specs.declared.tokens.Token.{Token}
use Rattle.bpf_asm.specs.declared.tokens.Token.TheVariants as token
use Rattle.bpf_asm.specs.Names.{word_name}
use Rattle.bpf_asm.specs.Tokens.{tokens_after, run_tokens}
use Rattle.bpf_asm.specs.Arguments.{arguments_of, signed_by}
use Rattle.bpf_asm.specs.Reading.{◌>>=◌, operand_of, offset_of, immediate_of, distance_of, wide_of, helper_of, written, instruction_from, with_arguments, instruction_of_tokens, statement_of}
use Rattle.bpf_asm.specs.Canonical.{word_of, register_text, operand_text, offset_text, place_text, operands_text, line_of, then, instructions_of, text_of}
use Rattle.bpf_asm.specs.Assembly.{Assembles, statement_on, slots_of, lines_of, small_letters}
use Rattle.bpf_asm.proofs.Admitted.{IsNamed}
use Rattle.bpf_asm.proofs.Plain.{all_plain, plain_append, keeps_content, first_line, small_line}
use Rattle.bpf_asm.proofs.Lexing.{Lexes, joined, blank, comma, nothing, whole, blank_closes, comma_closes}
use Rattle.bpf_asm.specs.Writing.{closes}
use Rattle.bpf_asm.proofs.Pieces.{word_lexes, word_plain, register_lexes, register_plain, decimal_lexes, decimal_plain}
use Rattle.bpf_asm.proofs.Operands.{operand_tokens, offset_tokens, place_tokens, number_tokens, operand_lexes, offset_lexes, distance_lexes, place_lexes, operand_plain, offset_plain, distance_plain, place_plain, numeral_of, offset_numeral, operand_argument, immediate_read, offset_read, distance_read, wide_read, helper_read, written_read, operand_read}
use Rattle.bpf_asm.proofs.Programs.{program_is_listed, program_fits}

-- ---- the tokens of a line

word_is_named : (i : Instruction) → IsInstruction i → IsNamed (word_of i)
word_is_named (instruction.Arithmetic o w d right) h = tt
word_is_named (instruction.Negate w d) h = tt
word_is_named (instruction.MoveSigned w s d from) h = h.0
word_is_named (instruction.Convert o s d) h = h.0
word_is_named (instruction.LoadImmediate d value) h = tt
word_is_named (instruction.Load s x d base offset) h = h.0
word_is_named (instruction.Store s base offset (operand.Immediate n)) h = tt
word_is_named (instruction.Store s base offset (operand.Register r)) h = tt
word_is_named (instruction.Jump w distance) h = tt
word_is_named (instruction.Branch c w left right distance) h = tt
word_is_named (instruction.Call helper) h = tt
word_is_named instruction.Exit h = tt

abbrev pub operands_tokens : Instruction → List Token
operands_tokens (instruction.Arithmetic o w d right) = token.Register d ∷ token.Comma ∷ operand_tokens right
operands_tokens (instruction.Negate w d) = token.Register d ∷ []
operands_tokens (instruction.MoveSigned w s d from) = token.Register d ∷ token.Comma ∷ token.Register from ∷ []
operands_tokens (instruction.Convert o s d) = token.Register d ∷ []
operands_tokens (instruction.LoadImmediate d value) = token.Register d ∷ token.Comma ∷ token.Number (Some value) ∷ []
operands_tokens (instruction.Load s x d base offset) = token.Register d ∷ token.Comma ∷ place_tokens base offset
operands_tokens (instruction.Store s base offset right) = place_tokens base offset ++ (token.Comma ∷ operand_tokens right)
operands_tokens (instruction.Jump w distance) = offset_tokens (signed 64 distance)
operands_tokens (instruction.Branch c w left right distance) = token.Register left ∷ token.Comma ∷ (operand_tokens right ++ (token.Comma ∷ offset_tokens (signed 64 distance)))
operands_tokens (instruction.Call helper) = token.Number (Some helper) ∷ []
operands_tokens instruction.Exit = []

-- two operands
both : (first second : List ℕ) (a b : List Token) → Lexes first a → Lexes second b → Lexes (then first second) (a ++ (token.Comma ∷ b))
both first second a b x y = joined first (44 ∷ 32 ∷ second) a (token.Comma ∷ b) x (comma (32 ∷ second) b (blank second b y)) (λ rest e. comma_closes (32 ∷ (second ++ rest)))

register_first : (d : ℕ) (second : List ℕ) (b : List Token) → d < 11 → Lexes second b → Lexes (then (register_text d) second) (token.Register d ∷ token.Comma ∷ b)
register_first d second b h y = both (register_text d) second (token.Register d ∷ []) b (register_lexes d h) y

-- the operands behind their blank; nothing at all behind exit
pub record HasOperands (i : Instruction) : Type 0 where
  pub lexed : Lexes (operands_text i) (operands_tokens i)
  pub begins : (rest : List ℕ) → closes rest ≡ true → closes (operands_text i ++ rest) ≡ true

after_blank : (i : Instruction) (text : List ℕ) → operands_text i ≡ 32 ∷ text → Lexes text (operands_tokens i) → HasOperands i
after_blank i text e x = record {
  lexed = subst (λ (xs : List ℕ). Lexes xs (operands_tokens i)) (sym e) (blank text (operands_tokens i) x);
  begins = λ rest close. ap (λ (xs : List ℕ). closes (xs ++ rest)) e ∙ blank_closes (text ++ rest);
}

operands : (i : Instruction) → IsInstruction i → HasOperands i
operands (instruction.Arithmetic o w d right) h = after_blank _ (then (register_text d) (operand_text right)) refl (register_first d (operand_text right) (operand_tokens right) (omega (arith, h.0)) (operand_lexes right h.1))
operands (instruction.Negate w d) h = after_blank _ (register_text d) refl (register_lexes d (omega arith))
operands (instruction.MoveSigned w s d from) h = after_blank _ (then (register_text d) (register_text from)) refl (register_first d (register_text from) (token.Register from ∷ []) (omega (arith, h.1)) (register_lexes from h.2))
operands (instruction.Convert o s d) h = after_blank _ (register_text d) refl (register_lexes d (omega (arith, h.1)))
operands (instruction.LoadImmediate d value) h = after_blank _ (then (register_text d) (decimal value)) refl (register_first d (decimal value) (token.Number (Some value) ∷ []) (omega (arith, h.0)) (decimal_lexes value h.1))
operands (instruction.Load s x d base offset) h = after_blank _ (then (register_text d) (place_text base offset)) refl (register_first d (place_text base offset) (place_tokens base offset) (omega (arith, h.1)) (place_lexes base offset h.2 h.3))
operands (instruction.Store s base offset right) h =
    after_blank _ (then (place_text base offset) (operand_text right)) refl (both (place_text base offset) (operand_text right) (place_tokens base offset) (operand_tokens right) (place_lexes base offset h.0 h.1) (operand_lexes right h.2))
operands (instruction.Jump w distance) h = after_blank _ (offset_text distance) refl (distance_lexes w distance h)
operands (instruction.Branch c w left right distance) h =
    after_blank _ (then (register_text left) (then (operand_text right) (offset_text distance))) refl
    (register_first left (then (operand_text right) (offset_text distance)) (operand_tokens right ++ (token.Comma ∷ offset_tokens (signed 64 distance))) h.0
    (both (operand_text right) (offset_text distance) (operand_tokens right) (offset_tokens (signed 64 distance)) (operand_lexes right h.1) (offset_lexes distance h.2)))
operands (instruction.Call helper) h = after_blank _ (decimal helper) refl (decimal_lexes helper (omega arith))
operands instruction.Exit h = record { lexed = nothing; begins = λ rest close. close }

line_lexes : (i : Instruction) → IsInstruction i → tokens_after [] (line_of i) ≡ token.Word (word_of i) ∷ operands_tokens i
line_lexes i h =
    let o = operands i h in
    whole (line_of i) (token.Word (word_of i) ∷ operands_tokens i)
    (joined (word_name (word_of i)) (operands_text i) (token.Word (word_of i) ∷ []) (operands_tokens i) (word_lexes (word_of i) (word_is_named i h)) o.lexed o.begins)

-- ---- plain lines

then_plain : (first second : List ℕ) → all_plain first ≡ true → all_plain second ≡ true → all_plain (then first second) ≡ true
then_plain first second a b = plain_append first (codes ", " ++ second) a (plain_append (codes ", ") second refl b)

blank_plain : (text : List ℕ) → all_plain text ≡ true → all_plain (codes " " ++ text) ≡ true
blank_plain text e = plain_append (codes " ") text refl e

operands_plain : (i : Instruction) → IsInstruction i → all_plain (operands_text i) ≡ true
operands_plain (instruction.Arithmetic o w d right) h = blank_plain (then (register_text d) (operand_text right)) (then_plain (register_text d) (operand_text right) (register_plain d (omega (arith, h.0))) (operand_plain right h.1))
operands_plain (instruction.Negate w d) h = blank_plain (register_text d) (register_plain d (omega arith))
operands_plain (instruction.MoveSigned w s d from) h = blank_plain (then (register_text d) (register_text from)) (then_plain (register_text d) (register_text from) (register_plain d (omega (arith, h.1))) (register_plain from h.2))
operands_plain (instruction.Convert o s d) h = blank_plain (register_text d) (register_plain d (omega (arith, h.1)))
operands_plain (instruction.LoadImmediate d value) h = blank_plain (then (register_text d) (decimal value)) (then_plain (register_text d) (decimal value) (register_plain d (omega (arith, h.0))) (decimal_plain value h.1))
operands_plain (instruction.Load s x d base offset) h = blank_plain (then (register_text d) (place_text base offset)) (then_plain (register_text d) (place_text base offset) (register_plain d (omega (arith, h.1))) (place_plain base offset h.2 h.3))
operands_plain (instruction.Store s base offset right) h = blank_plain (then (place_text base offset) (operand_text right)) (then_plain (place_text base offset) (operand_text right) (place_plain base offset h.0 h.1) (operand_plain right h.2))
operands_plain (instruction.Jump w distance) h = blank_plain (offset_text distance) (distance_plain w distance h)
operands_plain (instruction.Branch c w left right distance) h =
    blank_plain (then (register_text left) (then (operand_text right) (offset_text distance)))
    (then_plain (register_text left) (then (operand_text right) (offset_text distance)) (register_plain left h.0) (then_plain (operand_text right) (offset_text distance) (operand_plain right h.1) (offset_plain distance h.2)))
operands_plain (instruction.Call helper) h = blank_plain (decimal helper) (decimal_plain helper (omega arith))
operands_plain instruction.Exit h = refl

line_plain : (i : Instruction) → IsInstruction i → all_plain (line_of i) ≡ true
line_plain i h = plain_append (word_name (word_of i)) (operands_text i) (word_plain (word_of i) (word_is_named i h)) (operands_plain i h)

-- ---- the arguments of a line

arguments_for : Instruction → Arguments
arguments_for (instruction.Arithmetic o w d right) = arguments.Two (argument.Register d) (operand_argument right)
arguments_for (instruction.Negate w d) = arguments.One (argument.Register d)
arguments_for (instruction.MoveSigned w s d from) = arguments.Two (argument.Register d) (argument.Register from)
arguments_for (instruction.Convert o s d) = arguments.One (argument.Register d)
arguments_for (instruction.LoadImmediate d value) = arguments.Two (argument.Register d) (argument.Number (signed_by sign.Absent (Some value)))
arguments_for (instruction.Load s x d base offset) = arguments.Two (argument.Register d) (argument.Place base (offset_numeral (signed 64 offset)))
arguments_for (instruction.Store s base offset right) = arguments.Two (argument.Place base (offset_numeral (signed 64 offset))) (operand_argument right)
arguments_for (instruction.Jump w distance) = arguments.One (argument.Number (offset_numeral (signed 64 distance)))
arguments_for (instruction.Branch c w left right distance) = arguments.Three (argument.Register left) (operand_argument right) (argument.Number (offset_numeral (signed 64 distance)))
arguments_for (instruction.Call helper) = arguments.One (argument.Number (signed_by sign.Absent (Some helper)))
arguments_for instruction.Exit = arguments.Zero

two_number : (d : ℕ) (z : ℤ) → arguments_of (token.Register d ∷ token.Comma ∷ number_tokens z) ≡ Some (arguments.Two (argument.Register d) (argument.Number (numeral_of z)))
two_number d (pos n) = refl
two_number d (negsuc n) = refl

two_place : (d base : ℕ) (z : ℤ) → arguments_of (token.Register d ∷ token.Comma ∷ token.Open ∷ token.Register base ∷ (offset_tokens z ++ (token.Close ∷ [])))
    ≡ Some (arguments.Two (argument.Register d) (argument.Place base (offset_numeral z)))
two_place d base (pos n) = refl
two_place d base (negsuc n) = refl

place_register : (base : ℕ) (z : ℤ) (r : ℕ) → arguments_of (token.Open ∷ token.Register base ∷ ((offset_tokens z ++ (token.Close ∷ [])) ++ (token.Comma ∷ token.Register r ∷ [])))
    ≡ Some (arguments.Two (argument.Place base (offset_numeral z)) (argument.Register r))
place_register base (pos n) r = refl
place_register base (negsuc n) r = refl

place_number : (base : ℕ) (z y : ℤ) → arguments_of (token.Open ∷ token.Register base ∷ ((offset_tokens z ++ (token.Close ∷ [])) ++ (token.Comma ∷ number_tokens y)))
    ≡ Some (arguments.Two (argument.Place base (offset_numeral z)) (argument.Number (numeral_of y)))
place_number base (pos n) (pos m) = refl
place_number base (pos n) (negsuc m) = refl
place_number base (negsuc n) (pos m) = refl
place_number base (negsuc n) (negsuc m) = refl

one_offset : (z : ℤ) → arguments_of (offset_tokens z) ≡ Some (arguments.One (argument.Number (offset_numeral z)))
one_offset (pos n) = refl
one_offset (negsuc n) = refl

three_register : (l r : ℕ) (z : ℤ) → arguments_of (token.Register l ∷ token.Comma ∷ token.Register r ∷ token.Comma ∷ offset_tokens z)
    ≡ Some (arguments.Three (argument.Register l) (argument.Register r) (argument.Number (offset_numeral z)))
three_register l r (pos n) = refl
three_register l r (negsuc n) = refl

three_number : (l : ℕ) (y z : ℤ) → arguments_of (token.Register l ∷ token.Comma ∷ (number_tokens y ++ (token.Comma ∷ offset_tokens z)))
    ≡ Some (arguments.Three (argument.Register l) (argument.Number (numeral_of y)) (argument.Number (offset_numeral z)))
three_number l (pos m) (pos n) = refl
three_number l (pos m) (negsuc n) = refl
three_number l (negsuc m) (pos n) = refl
three_number l (negsuc m) (negsuc n) = refl

arguments_read : (i : Instruction) → arguments_of (operands_tokens i) ≡ Some (arguments_for i)
unfolding arguments_for
arguments_read (instruction.Arithmetic o w d (operand.Register r)) = refl
arguments_read (instruction.Arithmetic o w d (operand.Immediate word)) = two_number d (signed 64 word)
arguments_read (instruction.Negate w d) = refl
arguments_read (instruction.MoveSigned w s d from) = refl
arguments_read (instruction.Convert o s d) = refl
arguments_read (instruction.LoadImmediate d value) = refl
arguments_read (instruction.Load s x d base offset) = two_place d base (signed 64 offset)
arguments_read (instruction.Store s base offset (operand.Register r)) = place_register base (signed 64 offset) r
arguments_read (instruction.Store s base offset (operand.Immediate word)) = place_number base (signed 64 offset) (signed 64 word)
arguments_read (instruction.Jump w distance) = one_offset (signed 64 distance)
arguments_read (instruction.Branch c w left (operand.Register r) distance) = three_register left r (signed 64 distance)
arguments_read (instruction.Branch c w left (operand.Immediate word) distance) = three_number left (signed 64 word) (signed 64 distance)
arguments_read (instruction.Call helper) = refl
arguments_read instruction.Exit = refl

-- ---- the instruction of a line

then_is : {A B : Type 0} (r : Result A RefusalNumber) (a : A) (f : A → Result B RefusalNumber) (b : Result B RefusalNumber) → r ≡ Ok a → f a ≡ b → (r >>= f) ≡ b
then_is r a f b e h = ap (λ r. r >>= f) e ∙ h

instruction_read : (i : Instruction) → IsInstruction i → instruction_from (word_of i) (arguments_for i) ≡ Ok i
unfolding arguments_for
instruction_read (instruction.Arithmetic o w d right) h =
    then_is (written d) d _ _ (written_read d h.0) (then_is (operand_of (operand_argument right)) right (λ r. Ok (instruction.Arithmetic o w d r)) _ (operand_read right h.1) refl)
instruction_read (instruction.Negate w d) h = then_is (written d) d (λ d. Ok (instruction.Negate w d)) _ (written_read d h) refl
instruction_read (instruction.MoveSigned w s d from) h = then_is (written d) d (λ d. Ok (instruction.MoveSigned w s d from)) _ (written_read d h.1) refl
instruction_read (instruction.Convert o s d) h = then_is (written d) d (λ d. Ok (instruction.Convert o s d)) _ (written_read d h.1) refl
instruction_read (instruction.LoadImmediate d value) h =
    then_is (written d) d _ _ (written_read d h.0) (then_is (wide_of (signed_by sign.Absent (Some value))) value (λ v. Ok (instruction.LoadImmediate d v)) _ (wide_read value h.1) refl)
instruction_read (instruction.Load s x d base offset) h =
    then_is (written d) d _ _ (written_read d h.1) (then_is (offset_of (offset_numeral (signed 64 offset))) offset (λ o. Ok (instruction.Load s x d base o)) _ (offset_read offset h.3) refl)
instruction_read (instruction.Store s base offset (operand.Register r)) h =
    then_is (offset_of (offset_numeral (signed 64 offset))) offset (λ o. Ok (instruction.Store s base o (operand.Register r))) _ (offset_read offset h.1) refl
instruction_read (instruction.Store s base offset (operand.Immediate word)) h =
    then_is (offset_of (offset_numeral (signed 64 offset))) offset _ _ (offset_read offset h.1)
    (then_is (immediate_of (numeral_of (signed 64 word))) word (λ w. Ok (instruction.Store s base offset (operand.Immediate w))) _ (immediate_read word h.2) refl)
instruction_read (instruction.Jump w distance) h = then_is (distance_of w (offset_numeral (signed 64 distance))) distance (λ d. Ok (instruction.Jump w d)) _ (distance_read w distance h) refl
instruction_read (instruction.Branch c w left right distance) h =
    then_is (operand_of (operand_argument right)) right _ _ (operand_read right h.1)
    (then_is (offset_of (offset_numeral (signed 64 distance))) distance (λ d. Ok (instruction.Branch c w left right d)) _ (offset_read distance h.2) refl)
instruction_read (instruction.Call helper) h = then_is (helper_of (signed_by sign.Absent (Some helper))) helper (λ n. Ok (instruction.Call n)) _ (helper_read helper h) refl
instruction_read instruction.Exit h = refl

line_read : (i : Instruction) → IsInstruction i → statement_on (line_of i) ≡ Ok (Some i)
unfolding statement_on statement_of instruction_of_tokens
line_read i h =
    ap (λ (xs : List ℕ). statement_of (tokens_after [] xs)) (keeps_content (line_of i) (line_plain i h))
    ∙ ap statement_of (line_lexes i h)
    ∙ then_is (with_arguments (word_of i) (arguments_of (operands_tokens i))) i (λ i. Ok (Some i)) _ (ap (with_arguments (word_of i)) (arguments_read i) ∙ instruction_read i h) refl

blank_read : statement_on [] ≡ Ok None
unfolding statement_on statement_of tokens_after run_tokens
blank_read = refl

-- ---- whole texts

statements_for : List Instruction → List (Option Instruction)
statements_for [] = None ∷ []
statements_for (i ∷ is) = Some i ∷ statements_for is

one_line : (i : Instruction) (rest : List ℕ) → (line_of i ++ (10 ∷ [])) ++ rest ≡ line_of i ++ (10 ∷ rest)
one_line i rest = append_assoc (line_of i) (10 ∷ []) rest

small_text : (is : List Instruction) → AllByRecursion IsInstruction is → small_letters (flat_map (λ i. line_of i ++ (10 ∷ [])) is) ≡ flat_map (λ i. line_of i ++ (10 ∷ [])) is
small_text [] all = refl
small_text (i ∷ is) all =
    let rest = flat_map (λ i. line_of i ++ (10 ∷ [])) is in
    ap small_letters (one_line i rest) ∙ small_line (line_of i) rest (line_plain i all.0)
    ∙ ap (λ (xs : List ℕ). line_of i ++ (10 ∷ xs)) (small_text is all.1) ∙ sym (one_line i rest)

text_read : (is : List Instruction) → AllByRecursion IsInstruction is → map statement_on (lines_of (flat_map (λ i. line_of i ++ (10 ∷ [])) is)) ≡ map Ok (statements_for is)
unfolding statements_for
text_read [] all = ap (λ (r : Result (Option Instruction) RefusalNumber). r ∷ []) blank_read
text_read (i ∷ is) all =
    let rest = flat_map (λ i. line_of i ++ (10 ∷ [])) is in
    ap (λ (xs : List ℕ). map statement_on (lines_of xs)) (one_line i rest) ∙ ap (map statement_on) (first_line (line_of i) rest (line_plain i all.0))
    ∙ ap (λ (r : Result (Option Instruction) RefusalNumber). r ∷ map statement_on (lines_of rest)) (line_read i all.0)
    ∙ ap (λ (rs : List (Result (Option Instruction) RefusalNumber)). Ok (Some i) ∷ rs) (text_read is all.1)

statements_slots : (is : List Instruction) → flat_map slots_of (statements_for is) ≡ flat_map encoding is
unfolding statements_for
statements_slots [] = refl
statements_slots (i ∷ is) = ap (λ (xs : List Slot). encoding i ++ xs) (statements_slots is)

pub text_assembles : (slots : List Slot) → IsProgram slots → Assembles (text_of slots) slots
text_assembles slots program =
    let fits = program_fits slots program in
    record {
      statements = statements_for (instructions_of slots);
      lines = ap (λ (xs : List ℕ). map statement_on (lines_of xs)) (small_text (instructions_of slots) fits) ∙ text_read (instructions_of slots) fits;
      whole = sym (program_is_listed slots program) ∙ sym (statements_slots (instructions_of slots));
      some = program.some;
      few = program.few;
    }
