-- The tokens that are kept of a line say what it is read as: no word has more than three arguments, and no argument more than five tokens.
use Rattle.std.proofs.Common.{◌≡◌, refl, sym, ap, ◌∙◌, ℕ, ◌+◌, ◌<◌, ◌≤◌, Bool, true, false, leb, List, [], ◌∷◌, length, take, drop, Option, Some, None, Result, Ok, length-drop, arith}
use Rattle.std.specs.List.{position}
use Rattle.std.proofs.lemmas.Bool.{leb-true, leb-false}
use Rattle.std.proofs.lemmas.List.{take_all, length-take}
use Rattle.refusals.specs.declared.RefusalNumber.{RefusalNumber}
use Rattle.bpf_profile.specs.declared.instruction.Instruction.{Instruction}
use Rattle.bpf_asm.specs.declared.arguments.Argument.{Argument}
use Rattle.bpf_asm.specs.declared.arguments.Arguments.TheVariants as arguments
use Rattle.bpf_asm.specs.declared.tokens.Token.{Token}
use Rattle.bpf_asm.specs.declared.tokens.Token.TheVariants as token
use Rattle.bpf_asm.specs.Arguments.{argument_of, arguments_of, cut, cut_at, is_comma, first_of, second_of, third_of}
use Rattle.bpf_asm.specs.Reading.{◌>>=◌, with_arguments, instruction_of_tokens, statement_of}
use Rattle.bpf_asm.proofs.Admitted.{Gives, nothing, mapped_if, then_if}
use Rattle.bpf_asm.proofs.Called.{given_of}

-- ---- arguments

few_argument : (tokens : List Token) → Gives (λ a. length tokens ≤ 5) (argument_of tokens)
few_argument (token.Register register ∷ []) = record { given = omega arith }
few_argument (token.Number n ∷ []) = record { given = omega arith }
few_argument (token.Plus ∷ token.Number n ∷ []) = record { given = omega arith }
few_argument (token.Minus ∷ token.Number n ∷ []) = record { given = omega arith }
few_argument (token.Open ∷ token.Register base ∷ token.Number n ∷ token.Close ∷ []) = record { given = omega arith }
few_argument (token.Open ∷ token.Register base ∷ token.Plus ∷ token.Number n ∷ token.Close ∷ []) = record { given = omega arith }
few_argument (token.Open ∷ token.Register base ∷ token.Minus ∷ token.Number n ∷ token.Close ∷ []) = record { given = omega arith }
few_argument other = nothing

-- what stands before a comma, the comma, and what stands behind it
both_sides : (place n m : ℕ) (tokens : List Token) → length (take place tokens) ≤ n → length (drop (place + 1) tokens) ≤ m → length tokens ≤ n + 1 + m
both_sides place n m tokens h k = omega (arith, length-take place tokens, length-drop (place + 1) tokens)

few_third : (a b : Argument) (at : Option ℕ) (tokens : List Token) → Gives (λ x. length tokens ≤ 5) (third_of a b (cut_at at tokens))
few_third a b None tokens = mapped_if (λ c. length tokens ≤ 5) (λ x. length tokens ≤ 5) (arguments.Three a b) (argument_of tokens) (few_argument tokens) (λ c h. h)
few_third a b (Some place) tokens = nothing

few_second : (a : Argument) (at : Option ℕ) (tokens : List Token) → Gives (λ x. length tokens ≤ 11) (second_of a (cut_at at tokens))
few_second a None tokens = mapped_if (λ b. length tokens ≤ 5) (λ x. length tokens ≤ 11) (arguments.Two a) (argument_of tokens) (few_argument tokens) (λ b h. omega arith)
few_second a (Some place) tokens =
    let more = drop (place + 1) tokens in
    then_if (λ b. length (take place tokens) ≤ 5) (λ x. length tokens ≤ 11) (λ b. third_of a b (cut more)) (argument_of (take place tokens)) (few_argument (take place tokens))
    (λ b h. given_of (λ x. length more ≤ 5) (λ x. length tokens ≤ 11) (third_of a b (cut more)) (few_third a b (position is_comma more) more) (λ x k. both_sides place 5 5 tokens h k))

few_first : (at : Option ℕ) (tokens : List Token) → Gives (λ x. length tokens ≤ 17) (first_of (cut_at at tokens))
few_first None tokens = mapped_if (λ a. length tokens ≤ 5) (λ x. length tokens ≤ 17) arguments.One (argument_of tokens) (few_argument tokens) (λ a h. omega arith)
few_first (Some place) tokens =
    let more = drop (place + 1) tokens in
    then_if (λ a. length (take place tokens) ≤ 5) (λ x. length tokens ≤ 17) (λ a. second_of a (cut more)) (argument_of (take place tokens)) (few_argument (take place tokens))
    (λ a h. given_of (λ x. length more ≤ 11) (λ x. length tokens ≤ 17) (second_of a (cut more)) (few_second a (position is_comma more) more) (λ x k. both_sides place 5 11 tokens h k))

few_arguments : (tokens : List Token) → Gives (λ x. length tokens ≤ 17) (arguments_of tokens)
few_arguments [] = record { given = omega arith }
few_arguments (t ∷ ts) = few_first (position is_comma (t ∷ ts)) (t ∷ ts)

none_given : {A : Type 0} (P : Type 0) (o : Option A) → Gives (λ a. P) o → (P → ⊥) → o ≡ None
none_given P None h fails = refl
none_given P (Some a) h fails = absurd (fails h.given)

too_many : (tokens : List Token) → 17 < length tokens → arguments_of tokens ≡ None
too_many tokens h = none_given (length tokens ≤ 17) (arguments_of tokens) (few_arguments tokens) (λ few. omega arith)

arguments_kept : (tokens : List Token) → arguments_of (take 18 tokens) ≡ arguments_of tokens
arguments_kept tokens = by (leb (length tokens) 17) refl
  where
    by : (b : Bool) → leb (length tokens) 17 ≡ b → arguments_of (take 18 tokens) ≡ arguments_of tokens
    by true e = let few = leb-true (length tokens) 17 e in ap arguments_of (take_all 18 tokens (omega arith))
    by false e =
        let many = leb-false (length tokens) 17 e in
        too_many (take 18 tokens) (omega (arith, length-take 18 tokens)) ∙ sym (too_many tokens (omega arith))

-- ---- lines

instruction_kept : (t : Token) (ts : List Token) → instruction_of_tokens t (take 18 ts) ≡ instruction_of_tokens t ts
unfolding instruction_of_tokens
instruction_kept (token.Word word) ts = ap (with_arguments word) (arguments_kept ts)
instruction_kept other ts = refl

statement_kept : (tokens : List Token) → statement_of (take 19 tokens) ≡ statement_of tokens
unfolding statement_of
statement_kept [] = refl
statement_kept (t ∷ ts) = ap (λ (r : Result Instruction RefusalNumber). r >>= (λ i. Ok (Some i))) (instruction_kept t ts)

-- lines whose first tokens are the same are read alike
pub read_alike : (tokens others : List Token) → take 19 tokens ≡ take 19 others → statement_of tokens ≡ statement_of others
read_alike tokens others e = sym (statement_kept tokens) ∙ ap statement_of e ∙ statement_kept others
