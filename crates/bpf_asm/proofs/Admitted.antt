-- What a line is read as is an instruction of the profile.
use Rattle.std.proofs.Common.{◌≡◌, refl, sym, subst, ℕ, zero, suc, ◌+◌, ◌-◌, ◌%◌, ◌^◌, ◌<◌, ◌≤◌, Bool, true, false, cond, eqb, ltb, leb, List, [], ◌∷◌, ◌++◌, length, map, take, drop, Option, Some, None, Result, Ok, Err, pos, negsuc, arith}
use Rattle.std.specs.Prelude.{option_to_list, IfSome, IfOk, option_map, option_and_then, codes}
use Rattle.std.specs.List.{AllByRecursion, position}
use Rattle.std.specs.Option.{option_or}
use Rattle.std.specs.Str.{bytes_eq}
use Rattle.std.specs.Str.Parse.{digits_value}
use Rattle.std.proofs.lemmas.Bool.{ltb-true, ltb-false, leb-true}
use Rattle.refusals.specs.declared.RefusalNumber.{RefusalNumber}
use Rattle.refusals.specs.declared.RefusalNumber.TheVariants.{UnknownWord, BadOperand, BadNumber}
use Rattle.bpf_profile.specs.declared.instruction.ByteOrder.{ByteOrder}
use Rattle.bpf_profile.specs.declared.instruction.ByteOrder.TheVariants as order
use Rattle.bpf_profile.specs.declared.instruction.Comparison.{Comparison}
use Rattle.bpf_profile.specs.declared.instruction.Extension.{Extension}
use Rattle.bpf_profile.specs.declared.instruction.Extension.TheVariants as extension
use Rattle.bpf_profile.specs.declared.instruction.Instruction.{Instruction}
use Rattle.bpf_profile.specs.declared.instruction.Instruction.TheVariants as instruction
use Rattle.bpf_profile.specs.declared.instruction.Operand.TheVariants as operand
use Rattle.bpf_profile.specs.declared.instruction.Operation.{Operation}
use Rattle.bpf_profile.specs.declared.instruction.Size.{Size}
use Rattle.bpf_profile.specs.declared.instruction.Size.TheVariants as size
use Rattle.bpf_profile.specs.declared.instruction.Width.{Width}
use Rattle.bpf_profile.specs.declared.instruction.Width.TheVariants as width
use Rattle.bpf_profile.specs.Words.{low, word_of, sign_extended}
use Rattle.bpf_decode.specs.Encoding.{IsInstruction, IsImmediate, IsOffset, IsOperand, IsJump, IsExtended, IsConverted, IsLoaded}
use Rattle.bpf_decode.proofs.Inverse.{is_immediate}
use Rattle.bpf_asm.specs.declared.arguments.Argument.{Argument}
use Rattle.bpf_asm.specs.declared.arguments.Argument.TheVariants as argument
use Rattle.bpf_asm.specs.declared.arguments.Arguments.{Arguments}
use Rattle.bpf_asm.specs.declared.arguments.Arguments.TheVariants as arguments
use Rattle.bpf_asm.specs.declared.arguments.Numeral.{Numeral}
use Rattle.bpf_asm.specs.declared.arguments.Sign.{Sign}
use Rattle.bpf_asm.specs.declared.arguments.Sign.TheVariants as sign
use Rattle.bpf_asm.specs.declared.tokens.Token.{Token}
use Rattle.bpf_asm.specs.declared.tokens.Token.TheVariants as token
use Rattle.bpf_asm.specs.declared.words.Word.{Word}
use Rattle.bpf_asm.specs.declared.words.Word.TheVariants as word
use Rattle.bpf_asm.specs.Names.{word_named, single_named, convert_named, ordered_named, bits_named, load_named, store_named, stem_named, extended_named, extended_word, operation_named, comparison_named, width_of, stem_of, order_name}
use Rattle.bpf_asm.specs.Tokens.{numeral, number_of, register_named, token_of, token_from, bounded, all_digits, run_tokens, mark_of, ends_run, tokens_after, tokens_of, content_of}
use Rattle.bpf_asm.specs.Arguments.{argument_of, arguments_of, cut, cut_at, is_comma, first_of, second_of, third_of}
use Rattle.bpf_asm.specs.Reading.{◌>>=◌, magnitude_within, word_within, without_plus, immediate_of, wide_of, helper_of, offset_of, distance_of, written, operand_of, arithmetic_of, negate_of, move_signed_of, convert_of, load_immediate_of, load_of, store_of, store_register_of, jump_of, branch_of, call_of, exit_of, instruction_from, with_arguments, instruction_of_tokens, statement_of}
use Rattle.bpf_asm.specs.Assembly.{statement_on}
use Rattle.bpf_asm.proofs.Scanning.{after_end, after_part}
use Rattle.bpf_asm.proofs.Relation.{head_same, tail_same}

-- ---- words

abbrev pub IsNamed : Word → Type 0
IsNamed (word.MoveSigned width size) = IsExtended width size
IsNamed (word.Convert order size) = IsConverted size
IsNamed (word.Load size extension) = IsLoaded size extension
IsNamed other = Unit {0}

-- what a choice gives, where it gives something, as a record, so that its arguments are found
pub record Gives {A : Type 0} (P : A → Type 0) (o : Option A) : Type 0 where
  pub given : IfSome o P

pub nothing : {A : Type 0} {P : A → Type 0} → Gives P None
nothing = record { given = tt }

if_then : {A : Type 0} {P : A → Type 0} (test : Bool) (x : A) {o : Option A} → P x → Gives P o → Gives P (cond test (Some x) o)
if_then true x h rest = record { given = h }
if_then false x h rest = rest

if_some : {A : Type 0} {P : A → Type 0} (test : Bool) {o : Option A} → Gives P o → Gives P (cond test o None)
if_some true h = h
if_some false h = nothing

pub either : {A : Type 0} {P : A → Type 0} (a b : Option A) → Gives P a → Gives P b → Gives P (option_or a b)
either (Some x) b h rest = record { given = h.given }
either None b h rest = rest

mapped : {A B : Type 0} (P : B → Type 0) (f : A → B) (o : Option A) → ((a : A) → P (f a)) → Gives P (option_map f o)
mapped P f (Some a) h = record { given = h a }
mapped P f None h = nothing

pub mapped_if : {A B : Type 0} (Q : A → Type 0) (P : B → Type 0) (f : A → B) (o : Option A) → Gives Q o → ((a : A) → Q a → P (f a)) → Gives P (option_map f o)
mapped_if Q P f (Some a) q h = record { given = h a q.given }
mapped_if Q P f None q h = nothing

pub then_if : {A B : Type 0} (Q : A → Type 0) (P : B → Type 0) (f : A → Option B) (o : Option A) → Gives Q o → ((a : A) → Q a → Gives P (f a)) → Gives P (option_and_then f o)
then_if Q P f (Some a) q h = h a q.given
then_if Q P f None q h = nothing

named_single : (s : List ℕ) → Gives IsNamed (single_named s)
unfolding single_named
named_single s =
    (if_then (bytes_eq s (codes "call")) word.Call tt (if_then (bytes_eq s (codes "exit")) word.Exit tt
    (if_then (bytes_eq s (codes "lddw")) word.LoadImmediate tt (if_then (bytes_eq s (codes "ja")) (word.Jump width.Bits64) tt
    (if_then (bytes_eq s (codes "ja32")) (word.Jump width.Bits32) tt (if_then (bytes_eq s (codes "neg")) (word.Negate width.Bits64) tt
    (if_then (bytes_eq s (codes "neg32")) (word.Negate width.Bits32) tt nothing)))))))

named_bits : (s : List ℕ) → Gives IsConverted (bits_named s)
unfolding bits_named
named_bits s = (if_then (bytes_eq s (codes "16")) size.HalfWord tt (if_then (bytes_eq s (codes "32")) size.Word tt (if_then (bytes_eq s (codes "64")) size.DoubleWord tt nothing)))

named_convert : (order : ByteOrder) (s : List ℕ) → Gives IsNamed (convert_named order s)
unfolding convert_named ordered_named
named_convert order s = mapped_if IsConverted IsNamed (word.Convert order) (ordered_named order s) (if_some (bytes_eq (take (length (order_name order)) s) (order_name order)) (named_bits (drop (length (order_name order)) s))) (λ size h. h)

named_load : (s : List ℕ) → Gives IsNamed (load_named s)
unfolding load_named
named_load s =
    (if_then (bytes_eq s (codes "ldxb")) (word.Load size.Byte extension.Zero) tt
    (if_then (bytes_eq s (codes "ldxh")) (word.Load size.HalfWord extension.Zero) tt
    (if_then (bytes_eq s (codes "ldxw")) (word.Load size.Word extension.Zero) tt
    (if_then (bytes_eq s (codes "ldxdw")) (word.Load size.DoubleWord extension.Zero) tt
    (if_then (bytes_eq s (codes "ldxsb")) (word.Load size.Byte extension.Sign) tt
    (if_then (bytes_eq s (codes "ldxsh")) (word.Load size.HalfWord extension.Sign) tt
    (if_then (bytes_eq s (codes "ldxsw")) (word.Load size.Word extension.Sign) tt nothing)))))))

named_store : (s : List ℕ) → Gives IsNamed (store_named s)
unfolding store_named
named_store s =
    (if_then (bytes_eq s (codes "stb")) (word.Store size.Byte) tt (if_then (bytes_eq s (codes "sth")) (word.Store size.HalfWord) tt
    (if_then (bytes_eq s (codes "stw")) (word.Store size.Word) tt (if_then (bytes_eq s (codes "stdw")) (word.Store size.DoubleWord) tt
    (if_then (bytes_eq s (codes "stxb")) (word.StoreRegister size.Byte) tt (if_then (bytes_eq s (codes "stxh")) (word.StoreRegister size.HalfWord) tt
    (if_then (bytes_eq s (codes "stxw")) (word.StoreRegister size.Word) tt
    (if_then (bytes_eq s (codes "stxdw")) (word.StoreRegister size.DoubleWord) tt nothing))))))))

-- a move extends less than 8 bytes
moved : (s : List ℕ) → Gives (IsExtended width.Bits64) (extended_named s)
unfolding extended_named
moved s = (if_then (bytes_eq s (codes "movsb")) size.Byte tt (if_then (bytes_eq s (codes "movsh")) size.HalfWord tt (if_then (bytes_eq s (codes "movsw")) size.Word tt nothing)))

extended_good : (w : Width) (s : Size) → IsExtended width.Bits64 s → Gives IsNamed (extended_word w s)
extended_good w size.DoubleWord h = absurd h
extended_good width.Bits32 size.Word h = nothing
extended_good width.Bits32 size.Byte h = record { given = tt }
extended_good width.Bits32 size.HalfWord h = record { given = tt }
extended_good width.Bits64 size.Word h = record { given = tt }
extended_good width.Bits64 size.Byte h = record { given = tt }
extended_good width.Bits64 size.HalfWord h = record { given = tt }

named_stem : (w : Width) (s : List ℕ) → Gives IsNamed (stem_named w s)
unfolding stem_named
named_stem w s =
    either (option_map (λ o. word.Arithmetic o w) (operation_named s)) _ (mapped IsNamed (λ o. word.Arithmetic o w) (operation_named s) (λ o. tt))
    (either (option_map (λ c. word.Branch c w) (comparison_named s)) _ (mapped IsNamed (λ c. word.Branch c w) (comparison_named s) (λ c. tt))
    (then_if (IsExtended width.Bits64) IsNamed (extended_word w) (extended_named s) (moved s) (extended_good w)))

named : (s : List ℕ) → Gives IsNamed (word_named s)
unfolding word_named
named s =
    either (single_named s) _ (named_single s) (either (convert_named order.Little s) _ (named_convert order.Little s) (either (convert_named order.Big s) _ (named_convert order.Big s) (either (convert_named order.Swap s) _ (named_convert order.Swap s)
    (either (load_named s) _ (named_load s) (either (store_named s) _ (named_store s) (named_stem (width_of s) (stem_of s)))))))

-- ---- tokens

abbrev pub IsMagnitude : Option ℕ → Type 0
IsMagnitude m = IfSome m (λ n. n < 2 ^ 64)

abbrev pub IsToken : Token → Type 0
IsToken (token.Word w) = IsNamed w
IsToken (token.Register r) = r < 11
IsToken (token.Number n) = IsMagnitude n
IsToken other = Unit {0}

bounded_good : (small : Bool) (n : ℕ) → ltb n (2 ^ 64) ≡ small → IsMagnitude (cond small (Some n) None)
bounded_good true n e = ltb-true n (2 ^ 64) e
bounded_good false n e = tt

numeral_good : (radix : ℕ) (s : List ℕ) → Gives IsMagnitude (numeral radix s)
unfolding numeral
numeral_good radix [] = nothing
numeral_good radix (c ∷ cs) = if_then (all_digits radix (c ∷ cs)) (bounded (digits_value radix (c ∷ cs))) (bounded_good (ltb (digits_value radix (c ∷ cs)) (2 ^ 64)) (digits_value radix (c ∷ cs)) refl) nothing

either_way : {A : Type 0} (P : A → Type 0) (test : Bool) (a b : Option A) → Gives P a → Gives P b → Gives P (cond test a b)
either_way P true a b h k = h
either_way P false a b h k = k

number_good : (s : List ℕ) → Gives IsMagnitude (number_of s)
unfolding number_of
number_good s = either_way IsMagnitude (bytes_eq (take 2 s) (codes "0x")) (numeral 16 (drop 2 s)) (numeral 10 s) (numeral_good 16 (drop 2 s)) (numeral_good 10 s)

register_good : (s : List ℕ) → Gives (λ r. r < 11) (register_named s)
unfolding register_named
register_good s =
    (if_then (bytes_eq s (codes "r0")) 0 (omega arith) (if_then (bytes_eq s (codes "r1")) 1 (omega arith)
    (if_then (bytes_eq s (codes "r2")) 2 (omega arith) (if_then (bytes_eq s (codes "r3")) 3 (omega arith)
    (if_then (bytes_eq s (codes "r4")) 4 (omega arith) (if_then (bytes_eq s (codes "r5")) 5 (omega arith)
    (if_then (bytes_eq s (codes "r6")) 6 (omega arith) (if_then (bytes_eq s (codes "r7")) 7 (omega arith)
    (if_then (bytes_eq s (codes "r8")) 8 (omega arith) (if_then (bytes_eq s (codes "r9")) 9 (omega arith)
    (if_then (bytes_eq s (codes "r10")) 10 (omega arith) nothing)))))))))))

from_good : (n : Option (Option ℕ)) (r : Option ℕ) (w : Option Word) → Gives IsMagnitude n → Gives (λ r. r < 11) r → Gives IsNamed w → IsToken (token_from n r w)
from_good (Some n) r w hn hr hw = hn.given
from_good None (Some r) w hn hr hw = hr.given
from_good None None (Some w) hn hr hw = hw.given
from_good None None None hn hr hw = tt

token_good : (s : List ℕ) → IsToken (token_of s)
unfolding token_of
token_good s = from_good (number_of s) (register_named s) (word_named s) (number_good s) (register_good s) (named s)

run_good : (s : List ℕ) → AllByRecursion IsToken (run_tokens s)
unfolding run_tokens
run_good [] = tt
run_good (c ∷ cs) = (token_good (c ∷ cs), tt)

mark_good : (c : ℕ) → Gives IsToken (mark_of c)
unfolding mark_of
mark_good c = (if_then (eqb c 44) token.Comma tt (if_then (eqb c 91) token.Open tt (if_then (eqb c 93) token.Close tt (if_then (eqb c 43) token.Plus tt (if_then (eqb c 45) token.Minus tt nothing)))))

option_good : (o : Option Token) → Gives IsToken o → AllByRecursion IsToken (option_to_list o)
option_good None h = tt
option_good (Some t) h = (h.given, tt)

all_append : {A : Type 0} (P : A → Type 0) (xs ys : List A) → AllByRecursion P xs → AllByRecursion P ys → AllByRecursion P (xs ++ ys)
all_append P [] ys a b = b
all_append P (x ∷ xs) ys a b = (a.0, all_append P xs ys a.1 b)

after_good : (run cs : List ℕ) → AllByRecursion IsToken (tokens_after run cs)
unfolding tokens_after
after_good run [] = run_good run
after_good run (c ∷ cs) = turn (ends_run c) refl (after_good [] cs) (after_good (run ++ (c ∷ [])) cs)
  where
    turn : (ends : Bool) → ends_run c ≡ ends → AllByRecursion IsToken (tokens_after [] cs) → AllByRecursion IsToken (tokens_after (run ++ (c ∷ [])) cs) → AllByRecursion IsToken (tokens_after run (c ∷ cs))
    turn true e ended inside =
        subst (AllByRecursion IsToken) (sym (after_end run cs c e))
        (all_append IsToken (run_tokens run) _ (run_good run) (all_append IsToken (option_to_list (mark_of c)) _ (option_good (mark_of c) (mark_good c)) ended))
    turn false e ended inside = subst (AllByRecursion IsToken) (sym (after_part run cs c e)) inside

pub tokens_good : (line : List ℕ) → AllByRecursion IsToken (tokens_of line)
tokens_good line = after_good [] (content_of line)

-- ---- arguments

abbrev pub IsNumeral : Numeral → Type 0
IsNumeral n = IsMagnitude n.magnitude

abbrev pub IsArgument : Argument → Type 0
IsArgument (argument.Register r) = r < 11
IsArgument (argument.Number n) = IsNumeral n
IsArgument (argument.Place base offset) = (base < 11) × IsNumeral offset

argument_good : (tokens : List Token) → AllByRecursion IsToken tokens → Gives IsArgument (argument_of tokens)
argument_good (token.Register register ∷ []) all = record { given = all.0 }
argument_good (token.Number n ∷ []) all = record { given = all.0 }
argument_good (token.Plus ∷ token.Number n ∷ []) all = record { given = all.1.0 }
argument_good (token.Minus ∷ token.Number n ∷ []) all = record { given = all.1.0 }
argument_good (token.Open ∷ token.Register base ∷ token.Number n ∷ token.Close ∷ []) all = record { given = (all.1.0, all.1.1.0) }
argument_good (token.Open ∷ token.Register base ∷ token.Plus ∷ token.Number n ∷ token.Close ∷ []) all = record { given = (all.1.0, all.1.1.1.0) }
argument_good (token.Open ∷ token.Register base ∷ token.Minus ∷ token.Number n ∷ token.Close ∷ []) all = record { given = (all.1.0, all.1.1.1.0) }
argument_good other all = nothing

all_take : {A : Type 0} (P : A → Type 0) (n : ℕ) (xs : List A) → AllByRecursion P xs → AllByRecursion P (take n xs)
all_take P zero xs all = tt
all_take P (suc n) [] all = tt
all_take P (suc n) (x ∷ xs) all = (all.0, all_take P n xs all.1)

all_drop : {A : Type 0} (P : A → Type 0) (n : ℕ) (xs : List A) → AllByRecursion P xs → AllByRecursion P (drop n xs)
all_drop P zero xs all = all
all_drop P (suc n) [] all = tt
all_drop P (suc n) (x ∷ xs) all = all_drop P n xs all.1

cut_good : (at : Option ℕ) (tokens : List Token) → AllByRecursion IsToken tokens → AllByRecursion IsToken (cut_at at tokens).0 × IfSome (cut_at at tokens).1 (AllByRecursion IsToken)
cut_good None tokens all = (all, tt)
cut_good (Some place) tokens all = (all_take IsToken place tokens all, all_drop IsToken (place + 1) tokens all)

abbrev pub AreArguments : Arguments → Type 0
AreArguments arguments.Zero = Unit {0}
AreArguments (arguments.One a) = IsArgument a
AreArguments (arguments.Two a b) = IsArgument a × IsArgument b
AreArguments (arguments.Three a b c) = IsArgument a × IsArgument b × IsArgument c

third_good : (a b : Argument) (last : List Token) (more : Option (List Token)) → IsArgument a → IsArgument b → AllByRecursion IsToken last → Gives AreArguments (third_of a b (last, more))
third_good a b last None ha hb all = mapped_if IsArgument AreArguments (arguments.Three a b) (argument_of last) (argument_good last all) (λ c hc. (ha, hb, hc))
third_good a b last (Some more) ha hb all = nothing

second_good : (a : Argument) (next : List Token) (more : Option (List Token)) → IsArgument a → AllByRecursion IsToken next → IfSome more (AllByRecursion IsToken) → Gives AreArguments (second_of a (next, more))
second_good a next None ha all rest = mapped_if IsArgument AreArguments (arguments.Two a) (argument_of next) (argument_good next all) (λ b hb. (ha, hb))
second_good a next (Some more) ha all rest =
    then_if IsArgument AreArguments (λ b. third_of a b (cut more)) (argument_of next) (argument_good next all)
    (λ b hb. third_good a b (cut more).0 (cut more).1 ha hb (cut_good (position is_comma more) more rest).0)

first_good : (next : List Token) (more : Option (List Token)) → AllByRecursion IsToken next → IfSome more (AllByRecursion IsToken) → Gives AreArguments (first_of (next, more))
first_good next None all rest = mapped_if IsArgument AreArguments arguments.One (argument_of next) (argument_good next all) (λ a ha. ha)
first_good next (Some more) all rest =
    let cuts = cut_good (position is_comma more) more rest in
    then_if IsArgument AreArguments (λ a. second_of a (cut more)) (argument_of next) (argument_good next all)
    (λ a ha. second_good a (cut more).0 (cut more).1 ha cuts.0 cuts.1)

arguments_good : (tokens : List Token) → AllByRecursion IsToken tokens → Gives AreArguments (arguments_of tokens)
arguments_good [] all = record { given = tt }
arguments_good (t ∷ ts) all =
    let cuts = cut_good (position is_comma (t ∷ ts)) (t ∷ ts) all in
    first_good (cut (t ∷ ts)).0 (cut (t ∷ ts)).1 cuts.0 cuts.1

-- ---- numbers

-- what an answer that is no refusal gives
pub record Answers {A : Type 0} (P : A → Type 0) (r : Result A RefusalNumber) : Type 0 where
  pub given : IfOk r P

refuses : {A : Type 0} {P : A → Type 0} (number : RefusalNumber) → Answers P (Err number)
refuses number = record { given = tt }

answers : {A : Type 0} {P : A → Type 0} (a : A) → P a → Answers P (Ok a)
answers a h = record { given = h }

then_answers : {A B : Type 0} (Q : A → Type 0) (P : B → Type 0) (r : Result A RefusalNumber) (f : A → Result B RefusalNumber) → Answers Q r → ((a : A) → Q a → Answers P (f a)) → Answers P (r >>= f)
then_answers Q P (Ok a) f h g = g a h.given
then_answers Q P (Err number) f h g = refuses number

some_answer : {A : Type 0} (r : Result A RefusalNumber) → Answers (λ a. Unit {0}) r
some_answer (Ok a) = record { given = tt }
some_answer (Err number) = refuses number

at_most_good : (P : ℕ → Type 0) (fits : Bool) (most n word : ℕ) → leb n most ≡ fits → (n ≤ most → P word) → Answers P (cond fits (Ok word) (Err BadNumber))
at_most_good P true most n word e h = answers word (h (leb-true n most e))
at_most_good P false most n word e h = refuses BadNumber

within_good : (P : ℕ → Type 0) (least most : ℕ) (s : Sign) (m : Option ℕ) → ((k : ℕ) → k ≤ least → P ((2 ^ 64 - k) % 2 ^ 64)) → ((k : ℕ) → k ≤ most → P k) → Answers P (magnitude_within least most s m)
within_good P least most s None minus plus = refuses BadNumber
within_good P least most sign.Minus (Some k) minus plus = at_most_good P (leb k least) least k _ refl (minus k)
within_good P least most sign.Absent (Some k) minus plus = at_most_good P (leb k most) most k _ refl (plus k)
within_good P least most sign.Plus (Some k) minus plus = at_most_good P (leb k most) most k _ refl (plus k)

plus_good : (P : ℕ → Type 0) (s : Sign) (r : Result ℕ RefusalNumber) → Answers P r → Answers P (without_plus s r)
plus_good P sign.Plus r h = refuses BadOperand
plus_good P sign.Absent r h = h
plus_good P sign.Minus r h = h

-- a number of so many bits is its own sign extension, by the cases of its sign
offset_from : (is_low : Bool) (k : ℕ) → k ≤ 2 ^ 15 - 1 → ltb (low 16 (low 16 k)) (2 ^ 15) ≡ is_low → word_of (cond is_low (pos (low 16 (low 16 k))) (negsuc (2 ^ 16 - suc (low 16 (low 16 k))))) ≡ k
offset_from true k h e = omega arith
offset_from false k h e = let high = ltb-false (low 16 (low 16 k)) (2 ^ 15) e in omega arith

offset_minus : (is_low : Bool) (k x : ℕ) → k ≤ 2 ^ 15 → x ≡ (2 ^ 64 - k) % 2 ^ 64 → ltb (low 16 (low 16 x)) (2 ^ 15) ≡ is_low
    → word_of (cond is_low (pos (low 16 (low 16 x))) (negsuc (2 ^ 16 - suc (low 16 (low 16 x))))) ≡ x
offset_minus true k x h is e = let small = ltb-true (low 16 (low 16 x)) (2 ^ 15) e in omega arith
offset_minus false k x h is e = let high = ltb-false (low 16 (low 16 x)) (2 ^ 15) e in omega arith

immediate_from : (is_low : Bool) (k : ℕ) → k ≤ 2 ^ 31 - 1 → ltb (low 32 (low 32 k)) (2 ^ 31) ≡ is_low → word_of (cond is_low (pos (low 32 (low 32 k))) (negsuc (2 ^ 32 - suc (low 32 (low 32 k))))) ≡ k
immediate_from true k h e = omega arith
immediate_from false k h e = let high = ltb-false (low 32 (low 32 k)) (2 ^ 31) e in omega arith

immediate_minus : (is_low : Bool) (k x : ℕ) → k ≤ 2 ^ 31 → x ≡ (2 ^ 64 - k) % 2 ^ 64 → ltb (low 32 (low 32 x)) (2 ^ 31) ≡ is_low
    → word_of (cond is_low (pos (low 32 (low 32 x))) (negsuc (2 ^ 32 - suc (low 32 (low 32 x))))) ≡ x
immediate_minus true k x h is e = let small = ltb-true (low 32 (low 32 x)) (2 ^ 31) e in omega arith
immediate_minus false k x h is e = let high = ltb-false (low 32 (low 32 x)) (2 ^ 31) e in omega arith

immediate_good : (n : Numeral) → Answers IsImmediate (immediate_of n)
immediate_good n =
    then_answers (λ w. Unit {0}) IsImmediate (without_plus n.sign (word_within (2 ^ 31) (2 ^ 32 - 1) n)) (λ word. Ok (sign_extended 32 (low 32 word))) (some_answer _)
    (λ word h. answers (sign_extended 32 (low 32 word)) (is_immediate (low 32 word) (omega arith)))

offset_good : (n : Numeral) → Answers IsOffset (offset_of n)
offset_good n =
    within_good IsOffset (2 ^ 15) (2 ^ 15 - 1) n.sign n.magnitude
    (λ k h. offset_minus (ltb (low 16 (low 16 ((2 ^ 64 - k) % 2 ^ 64))) (2 ^ 15)) k ((2 ^ 64 - k) % 2 ^ 64) h refl refl)
    (λ k h. offset_from (ltb (low 16 (low 16 k)) (2 ^ 15)) k h refl)

distance_good : (w : Width) (n : Numeral) → Answers (IsJump w) (distance_of w n)
distance_good width.Bits64 n = offset_good n
distance_good width.Bits32 n =
    within_good IsImmediate (2 ^ 31) (2 ^ 31 - 1) n.sign n.magnitude
    (λ k h. immediate_minus (ltb (low 32 (low 32 ((2 ^ 64 - k) % 2 ^ 64))) (2 ^ 31)) k ((2 ^ 64 - k) % 2 ^ 64) h refl refl)
    (λ k h. immediate_from (ltb (low 32 (low 32 k)) (2 ^ 31)) k h refl)

wide_good : (n : Numeral) → Answers (λ v. v < 2 ^ 64) (wide_of n)
wide_good n =
    plus_good (λ v. v < 2 ^ 64) n.sign (word_within (2 ^ 63) (2 ^ 64 - 1) n)
    (within_good (λ v. v < 2 ^ 64) (2 ^ 63) (2 ^ 64 - 1) n.sign n.magnitude (λ k h. omega arith) (λ k h. omega arith))

helper_good : (n : Numeral) → Answers (λ v. v < 2 ^ 32) (helper_of n)
helper_good n =
    plus_good (λ v. v < 2 ^ 32) n.sign (word_within 0 (2 ^ 32 - 1) n)
    (within_good (λ v. v < 2 ^ 32) 0 (2 ^ 32 - 1) n.sign n.magnitude (λ k h. let none : k ≡ 0 = omega arith in rw none (omega arith)) (λ k h. omega arith))

-- ---- instructions

written_good : (r : ℕ) → Answers (λ d. d < 10) (written r)
written_good r = fits (ltb r 10) refl
  where
    fits : (small : Bool) → ltb r 10 ≡ small → Answers (λ d. d < 10) (cond small (Ok r) (Err BadOperand))
    fits true e = answers r (ltb-true r 10 e)
    fits false e = refuses BadOperand

operand_good : (a : Argument) → IsArgument a → Answers IsOperand (operand_of a)
operand_good (argument.Register r) h = answers (operand.Register r) h
operand_good (argument.Number n) h = then_answers IsImmediate IsOperand (immediate_of n) (λ word. Ok (operand.Immediate word)) (immediate_good n) (λ word w. answers (operand.Immediate word) w)
operand_good (argument.Place base offset) h = refuses BadOperand

arithmetic_good : (o : Operation) (w : Width) (a : Arguments) → AreArguments a → Answers IsInstruction (arithmetic_of o w a)
arithmetic_good o w (arguments.Two (argument.Register d) right) h =
    then_answers (λ d. d < 10) IsInstruction (written d) _ (written_good d) (λ d hd. then_answers IsOperand IsInstruction (operand_of right) _ (operand_good right h.1) (λ r hr. answers (instruction.Arithmetic o w d r) (hd, hr)))
arithmetic_good o w other h = refuses BadOperand

negate_good : (w : Width) (a : Arguments) → AreArguments a → Answers IsInstruction (negate_of w a)
negate_good w (arguments.One (argument.Register d)) h = then_answers (λ d. d < 10) IsInstruction (written d) _ (written_good d) (λ d hd. answers (instruction.Negate w d) hd)
negate_good w other h = refuses BadOperand

move_good : (w : Width) (s : Size) (a : Arguments) → IsExtended w s → AreArguments a → Answers IsInstruction (move_signed_of w s a)
move_good w s (arguments.Two (argument.Register d) (argument.Register from)) named h =
    then_answers (λ d. d < 10) IsInstruction (written d) _ (written_good d) (λ d hd. answers (instruction.MoveSigned w s d from) (named, hd, h.1))
move_good w s other named h = refuses BadOperand

convert_good : (o : ByteOrder) (s : Size) (a : Arguments) → IsConverted s → AreArguments a → Answers IsInstruction (convert_of o s a)
convert_good o s (arguments.One (argument.Register d)) named h = then_answers (λ d. d < 10) IsInstruction (written d) _ (written_good d) (λ d hd. answers (instruction.Convert o s d) (named, hd))
convert_good o s other named h = refuses BadOperand

load_immediate_good : (a : Arguments) → AreArguments a → Answers IsInstruction (load_immediate_of a)
load_immediate_good (arguments.Two (argument.Register d) (argument.Number n)) h =
    then_answers (λ d. d < 10) IsInstruction (written d) _ (written_good d) (λ d hd. then_answers (λ v. v < 2 ^ 64) IsInstruction (wide_of n) _ (wide_good n) (λ v hv. answers (instruction.LoadImmediate d v) (hd, hv)))
load_immediate_good other h = refuses BadOperand

load_good : (s : Size) (x : Extension) (a : Arguments) → IsLoaded s x → AreArguments a → Answers IsInstruction (load_of s x a)
load_good s x (arguments.Two (argument.Register d) (argument.Place base offset)) named h =
    then_answers (λ d. d < 10) IsInstruction (written d) _ (written_good d) (λ d hd. then_answers IsOffset IsInstruction (offset_of offset) _ (offset_good offset) (λ o ho. answers (instruction.Load s x d base o) (named, hd, h.1.0, ho)))
load_good s x other named h = refuses BadOperand

store_good : (s : Size) (a : Arguments) → AreArguments a → Answers IsInstruction (store_of s a)
store_good s (arguments.Two (argument.Place base offset) (argument.Number n)) h =
    then_answers IsOffset IsInstruction (offset_of offset) _ (offset_good offset) (λ o ho. then_answers IsImmediate IsInstruction (immediate_of n) _ (immediate_good n)
    (λ i hi. answers (instruction.Store s base o (operand.Immediate i)) (h.0.0, ho, hi)))
store_good s other h = refuses BadOperand

store_register_good : (s : Size) (a : Arguments) → AreArguments a → Answers IsInstruction (store_register_of s a)
store_register_good s (arguments.Two (argument.Place base offset) (argument.Register from)) h =
    then_answers IsOffset IsInstruction (offset_of offset) _ (offset_good offset) (λ o ho. answers (instruction.Store s base o (operand.Register from)) (h.0.0, ho, h.1))
store_register_good s other h = refuses BadOperand

jump_good : (w : Width) (a : Arguments) → AreArguments a → Answers IsInstruction (jump_of w a)
jump_good w (arguments.One (argument.Number n)) h = then_answers (IsJump w) IsInstruction (distance_of w n) _ (distance_good w n) (λ d hd. answers (instruction.Jump w d) hd)
jump_good w other h = refuses BadOperand

branch_good : (c : Comparison) (w : Width) (a : Arguments) → AreArguments a → Answers IsInstruction (branch_of c w a)
branch_good c w (arguments.Three (argument.Register left) right (argument.Number n)) h =
    then_answers IsOperand IsInstruction (operand_of right) _ (operand_good right h.1) (λ r hr. then_answers IsOffset IsInstruction (offset_of n) _ (offset_good n)
    (λ d hd. answers (instruction.Branch c w left r d) (h.0, hr, hd)))
branch_good c w other h = refuses BadOperand

call_good : (a : Arguments) → AreArguments a → Answers IsInstruction (call_of a)
call_good (arguments.One (argument.Number n)) h = then_answers (λ v. v < 2 ^ 32) IsInstruction (helper_of n) _ (helper_good n) (λ v hv. answers (instruction.Call v) hv)
call_good other h = refuses BadOperand

exit_good : (a : Arguments) → AreArguments a → Answers IsInstruction (exit_of a)
exit_good arguments.Zero h = answers instruction.Exit tt
exit_good other h = refuses BadOperand

word_good : (w : Word) (a : Arguments) → IsNamed w → AreArguments a → Answers IsInstruction (instruction_from w a)
word_good (word.Arithmetic o w) a named h = arithmetic_good o w a h
word_good (word.Negate w) a named h = negate_good w a h
word_good (word.MoveSigned w s) a named h = move_good w s a named h
word_good (word.Convert o s) a named h = convert_good o s a named h
word_good word.LoadImmediate a named h = load_immediate_good a h
word_good (word.Load s x) a named h = load_good s x a named h
word_good (word.Store s) a named h = store_good s a h
word_good (word.StoreRegister s) a named h = store_register_good s a h
word_good (word.Jump w) a named h = jump_good w a h
word_good (word.Branch c w) a named h = branch_good c w a h
word_good word.Call a named h = call_good a h
word_good word.Exit a named h = exit_good a h

-- ---- lines

with_good : (w : Word) (a : Option Arguments) → IsNamed w → Gives AreArguments a → Answers IsInstruction (with_arguments w a)
with_good w (Some a) named h = word_good w a named h.given
with_good w None named h = refuses BadOperand

line_good : (t : Token) (ts : List Token) → IsToken t → AllByRecursion IsToken ts → Answers IsInstruction (instruction_of_tokens t ts)
unfolding instruction_of_tokens
line_good (token.Word w) ts named all = with_good w (arguments_of ts) named (arguments_good ts all)
line_good t ts named all = refuses UnknownWord

statement_good : (tokens : List Token) → AllByRecursion IsToken tokens → Answers (λ s. IfSome s IsInstruction) (statement_of tokens)
unfolding statement_of
statement_good [] all = answers None tt
statement_good (t ∷ ts) all =
    then_answers IsInstruction (λ s. IfSome s IsInstruction) (instruction_of_tokens t ts) (λ i. Ok (Some i)) (line_good t ts all.0 all.1) (λ i h. answers (Some i) h)

on_line : (line : List ℕ) → Answers (λ s. IfSome s IsInstruction) (statement_on line)
unfolding statement_on
on_line line = statement_good (tokens_of line) (tokens_good line)

answered : {A : Type 0} (P : A → Type 0) (r : Result A RefusalNumber) (a : A) → Answers P r → r ≡ Ok a → P a
answered P r a h e = (subst (λ r. Answers P r) e h).given

pub statements_good : (lines : List (List ℕ)) (statements : List (Option Instruction)) → map statement_on lines ≡ map Ok statements → AllByRecursion (λ s. IfSome s IsInstruction) statements
statements_good [] [] e = tt
statements_good [] (s ∷ statements) e = absurd cc
statements_good (line ∷ lines) [] e = absurd cc
statements_good (line ∷ lines) (s ∷ statements) e = (
  answered (λ s. IfSome s IsInstruction) (statement_on line) s (on_line line) (head_same (statement_on line) (Ok s) (map statement_on lines) (map Ok statements) e),
  statements_good lines statements (tail_same (statement_on line) (Ok s) (map statement_on lines) (map Ok statements) e),
)
