-- The arguments behind a line's word: registers, numbers and places, with commas between them.
use Rattle.std.specs.Prelude.{ℕ, ◌+◌, Bool, true, false, List, [], ◌∷◌, take, drop, Option, Some, None, option_map, option_and_then}
use Rattle.std.specs.List.{position}
use Rattle.bpf_asm.specs.declared.arguments.Argument.{Argument}
use Rattle.bpf_asm.specs.declared.arguments.Argument.TheVariants as argument
use Rattle.bpf_asm.specs.declared.arguments.Arguments.{Arguments}
use Rattle.bpf_asm.specs.declared.arguments.Arguments.TheVariants as arguments
use Rattle.bpf_asm.specs.declared.arguments.Sign.{Sign}
use Rattle.bpf_asm.specs.declared.arguments.Sign.TheVariants as sign
use Rattle.bpf_asm.specs.declared.arguments.Numeral.{Numeral}
use Rattle.bpf_asm.specs.declared.tokens.Token.{Token}
use Rattle.bpf_asm.specs.declared.tokens.Token.TheVariants as token

abbrev pub signed_by : Sign → Option ℕ → Numeral
signed_by s n = record { sign = s; magnitude = n }

-- one argument
abbrev pub argument_of : List Token → Option Argument
argument_of (token.Register register ∷ []) = Some (argument.Register register)
argument_of (token.Number n ∷ []) = Some (argument.Number (signed_by sign.Absent n))
argument_of (token.Plus ∷ token.Number n ∷ []) = Some (argument.Number (signed_by sign.Plus n))
argument_of (token.Minus ∷ token.Number n ∷ []) = Some (argument.Number (signed_by sign.Minus n))
argument_of (token.Open ∷ token.Register base ∷ token.Number n ∷ token.Close ∷ []) = Some (argument.Place base (signed_by sign.Absent n))
argument_of (token.Open ∷ token.Register base ∷ token.Plus ∷ token.Number n ∷ token.Close ∷ []) = Some (argument.Place base (signed_by sign.Plus n))
argument_of (token.Open ∷ token.Register base ∷ token.Minus ∷ token.Number n ∷ token.Close ∷ []) = Some (argument.Place base (signed_by sign.Minus n))
argument_of other = None

abbrev pub is_comma : Token → Bool
is_comma token.Comma = true
is_comma other = false

-- what stands before the first comma, and what stands behind it
abbrev pub cut_at : Option ℕ → List Token → List Token × Option (List Token)
cut_at (Some place) tokens = (take place tokens, Some (drop (place + 1) tokens))
cut_at None tokens = (tokens, None)

abbrev pub cut : List Token → List Token × Option (List Token)
cut tokens = cut_at (position is_comma tokens) tokens

-- the last argument of three, the second and what follows it, the first and what follows it
abbrev pub third_of : Argument → Argument → List Token × Option (List Token) → Option Arguments
third_of first second (last, None) = option_map (arguments.Three first second) (argument_of last)
third_of first second (last, Some more) = None

abbrev pub second_of : Argument → List Token × Option (List Token) → Option Arguments
second_of first (last, None) = option_map (arguments.Two first) (argument_of last)
second_of first (next, Some more) = option_and_then (λ second. third_of first second (cut more)) (argument_of next)

abbrev pub first_of : List Token × Option (List Token) → Option Arguments
first_of (last, None) = option_map arguments.One (argument_of last)
first_of (next, Some more) = option_and_then (λ first. second_of first (cut more)) (argument_of next)

-- the arguments of a line, at most three
abbrev pub arguments_of : List Token → Option Arguments
arguments_of [] = Some arguments.Zero
arguments_of (t ∷ ts) = first_of (cut (t ∷ ts))
