-- Words, registers and numbers are each one token, and plain.
use Rattle.std.proofs.Common.{◌≡◌, refl, ap, ◌∙◌, ℕ, zero, suc, ◌^◌, ◌<◌, Bool, true, false, cond, eqb, List, [], ◌∷◌, length, take, drop, Option, Some, None, arith}
use Rattle.std.specs.Prelude.{◌&&◌, codes, decimal}
use Rattle.std.specs.Fmt.{digits}
use Rattle.std.specs.Str.{bytes_eq}
use Rattle.std.specs.Str.Parse.{AllDigits, digits_value}
use Rattle.std.proofs.lemmas.Bool.{lt-ltb, ne_eqb, and_from}
use Rattle.std.proofs.lemmas.Fmt.{decimal_is_IsNumeral, decimal_nonempty}
use Rattle.std.proofs.lemmas.Str.Parse.{digit_from_value}
use Rattle.bpf_profile.specs.declared.instruction.ByteOrder.TheVariants as order
use Rattle.bpf_profile.specs.declared.instruction.Comparison.TheVariants as comparison
use Rattle.bpf_profile.specs.declared.instruction.Extension.TheVariants as extension
use Rattle.bpf_profile.specs.declared.instruction.Operation.TheVariants as operation
use Rattle.bpf_profile.specs.declared.instruction.Size.TheVariants as size
use Rattle.bpf_profile.specs.declared.instruction.Width.TheVariants as width
use Rattle.bpf_asm.specs.declared.tokens.Token.TheVariants as token
use Rattle.bpf_asm.specs.declared.words.Word.{Word}
use Rattle.bpf_asm.specs.declared.words.Word.TheVariants as word
use Rattle.bpf_asm.specs.Names.{word_name, word_named, single_named, convert_named, ordered_named, bits_named, load_named, store_named, stem_named, extended_named, operation_named, comparison_named}
use Rattle.bpf_asm.specs.Tokens.{numeral, number_of, register_named, token_of, token_from, bounded, all_digits, run_tokens, mark_of, ends_run}
use Rattle.bpf_asm.specs.Canonical.{register_text}
use Rattle.bpf_asm.proofs.Admitted.{IsNamed}
use Rattle.bpf_asm.proofs.Plain.{all_plain, digits_plain}
use Rattle.bpf_asm.proofs.Lexing.{Lexes, piece, digits_run}
use Rattle.bpf_asm.specs.Writing.{is_run}

-- ---- words

word_token : (w : Word) → IsNamed w → run_tokens (word_name w) ≡ token.Word w ∷ []
unfolding run_tokens token_of number_of numeral register_named word_named single_named convert_named ordered_named bits_named load_named store_named stem_named extended_named operation_named comparison_named
word_token (word.Arithmetic operation.Add width.Bits32) named = refl
word_token (word.Arithmetic operation.Add width.Bits64) named = refl
word_token (word.Arithmetic operation.Subtract width.Bits32) named = refl
word_token (word.Arithmetic operation.Subtract width.Bits64) named = refl
word_token (word.Arithmetic operation.Multiply width.Bits32) named = refl
word_token (word.Arithmetic operation.Multiply width.Bits64) named = refl
word_token (word.Arithmetic operation.Divide width.Bits32) named = refl
word_token (word.Arithmetic operation.Divide width.Bits64) named = refl
word_token (word.Arithmetic operation.SignedDivide width.Bits32) named = refl
word_token (word.Arithmetic operation.SignedDivide width.Bits64) named = refl
word_token (word.Arithmetic operation.Or width.Bits32) named = refl
word_token (word.Arithmetic operation.Or width.Bits64) named = refl
word_token (word.Arithmetic operation.And width.Bits32) named = refl
word_token (word.Arithmetic operation.And width.Bits64) named = refl
word_token (word.Arithmetic operation.ShiftLeft width.Bits32) named = refl
word_token (word.Arithmetic operation.ShiftLeft width.Bits64) named = refl
word_token (word.Arithmetic operation.ShiftRight width.Bits32) named = refl
word_token (word.Arithmetic operation.ShiftRight width.Bits64) named = refl
word_token (word.Arithmetic operation.Modulo width.Bits32) named = refl
word_token (word.Arithmetic operation.Modulo width.Bits64) named = refl
word_token (word.Arithmetic operation.SignedModulo width.Bits32) named = refl
word_token (word.Arithmetic operation.SignedModulo width.Bits64) named = refl
word_token (word.Arithmetic operation.Xor width.Bits32) named = refl
word_token (word.Arithmetic operation.Xor width.Bits64) named = refl
word_token (word.Arithmetic operation.Move width.Bits32) named = refl
word_token (word.Arithmetic operation.Move width.Bits64) named = refl
word_token (word.Arithmetic operation.ArithmeticShiftRight width.Bits32) named = refl
word_token (word.Arithmetic operation.ArithmeticShiftRight width.Bits64) named = refl
word_token (word.Negate width.Bits32) named = refl
word_token (word.Negate width.Bits64) named = refl
word_token (word.MoveSigned width.Bits32 size.Byte) named = refl
word_token (word.MoveSigned width.Bits32 size.HalfWord) named = refl
word_token (word.MoveSigned width.Bits32 size.Word) named = absurd named
word_token (word.MoveSigned width.Bits32 size.DoubleWord) named = absurd named
word_token (word.MoveSigned width.Bits64 size.Byte) named = refl
word_token (word.MoveSigned width.Bits64 size.HalfWord) named = refl
word_token (word.MoveSigned width.Bits64 size.Word) named = refl
word_token (word.MoveSigned width.Bits64 size.DoubleWord) named = absurd named
word_token (word.Convert order.Little size.Byte) named = absurd named
word_token (word.Convert order.Little size.HalfWord) named = refl
word_token (word.Convert order.Little size.Word) named = refl
word_token (word.Convert order.Little size.DoubleWord) named = refl
word_token (word.Convert order.Big size.Byte) named = absurd named
word_token (word.Convert order.Big size.HalfWord) named = refl
word_token (word.Convert order.Big size.Word) named = refl
word_token (word.Convert order.Big size.DoubleWord) named = refl
word_token (word.Convert order.Swap size.Byte) named = absurd named
word_token (word.Convert order.Swap size.HalfWord) named = refl
word_token (word.Convert order.Swap size.Word) named = refl
word_token (word.Convert order.Swap size.DoubleWord) named = refl
word_token word.LoadImmediate named = refl
word_token (word.Load size.Byte extension.Zero) named = refl
word_token (word.Load size.Byte extension.Sign) named = refl
word_token (word.Load size.HalfWord extension.Zero) named = refl
word_token (word.Load size.HalfWord extension.Sign) named = refl
word_token (word.Load size.Word extension.Zero) named = refl
word_token (word.Load size.Word extension.Sign) named = refl
word_token (word.Load size.DoubleWord extension.Zero) named = refl
word_token (word.Load size.DoubleWord extension.Sign) named = absurd named
word_token (word.Store size.Byte) named = refl
word_token (word.Store size.HalfWord) named = refl
word_token (word.Store size.Word) named = refl
word_token (word.Store size.DoubleWord) named = refl
word_token (word.StoreRegister size.Byte) named = refl
word_token (word.StoreRegister size.HalfWord) named = refl
word_token (word.StoreRegister size.Word) named = refl
word_token (word.StoreRegister size.DoubleWord) named = refl
word_token (word.Jump width.Bits32) named = refl
word_token (word.Jump width.Bits64) named = refl
word_token (word.Branch comparison.Equal width.Bits32) named = refl
word_token (word.Branch comparison.Equal width.Bits64) named = refl
word_token (word.Branch comparison.Greater width.Bits32) named = refl
word_token (word.Branch comparison.Greater width.Bits64) named = refl
word_token (word.Branch comparison.GreaterOrEqual width.Bits32) named = refl
word_token (word.Branch comparison.GreaterOrEqual width.Bits64) named = refl
word_token (word.Branch comparison.BitsSet width.Bits32) named = refl
word_token (word.Branch comparison.BitsSet width.Bits64) named = refl
word_token (word.Branch comparison.NotEqual width.Bits32) named = refl
word_token (word.Branch comparison.NotEqual width.Bits64) named = refl
word_token (word.Branch comparison.SignedGreater width.Bits32) named = refl
word_token (word.Branch comparison.SignedGreater width.Bits64) named = refl
word_token (word.Branch comparison.SignedGreaterOrEqual width.Bits32) named = refl
word_token (word.Branch comparison.SignedGreaterOrEqual width.Bits64) named = refl
word_token (word.Branch comparison.Less width.Bits32) named = refl
word_token (word.Branch comparison.Less width.Bits64) named = refl
word_token (word.Branch comparison.LessOrEqual width.Bits32) named = refl
word_token (word.Branch comparison.LessOrEqual width.Bits64) named = refl
word_token (word.Branch comparison.SignedLess width.Bits32) named = refl
word_token (word.Branch comparison.SignedLess width.Bits64) named = refl
word_token (word.Branch comparison.SignedLessOrEqual width.Bits32) named = refl
word_token (word.Branch comparison.SignedLessOrEqual width.Bits64) named = refl
word_token word.Call named = refl
word_token word.Exit named = refl

word_run : (w : Word) → IsNamed w → is_run (word_name w) ≡ true
unfolding ends_run mark_of
word_run (word.Arithmetic operation.Add width.Bits32) named = refl
word_run (word.Arithmetic operation.Add width.Bits64) named = refl
word_run (word.Arithmetic operation.Subtract width.Bits32) named = refl
word_run (word.Arithmetic operation.Subtract width.Bits64) named = refl
word_run (word.Arithmetic operation.Multiply width.Bits32) named = refl
word_run (word.Arithmetic operation.Multiply width.Bits64) named = refl
word_run (word.Arithmetic operation.Divide width.Bits32) named = refl
word_run (word.Arithmetic operation.Divide width.Bits64) named = refl
word_run (word.Arithmetic operation.SignedDivide width.Bits32) named = refl
word_run (word.Arithmetic operation.SignedDivide width.Bits64) named = refl
word_run (word.Arithmetic operation.Or width.Bits32) named = refl
word_run (word.Arithmetic operation.Or width.Bits64) named = refl
word_run (word.Arithmetic operation.And width.Bits32) named = refl
word_run (word.Arithmetic operation.And width.Bits64) named = refl
word_run (word.Arithmetic operation.ShiftLeft width.Bits32) named = refl
word_run (word.Arithmetic operation.ShiftLeft width.Bits64) named = refl
word_run (word.Arithmetic operation.ShiftRight width.Bits32) named = refl
word_run (word.Arithmetic operation.ShiftRight width.Bits64) named = refl
word_run (word.Arithmetic operation.Modulo width.Bits32) named = refl
word_run (word.Arithmetic operation.Modulo width.Bits64) named = refl
word_run (word.Arithmetic operation.SignedModulo width.Bits32) named = refl
word_run (word.Arithmetic operation.SignedModulo width.Bits64) named = refl
word_run (word.Arithmetic operation.Xor width.Bits32) named = refl
word_run (word.Arithmetic operation.Xor width.Bits64) named = refl
word_run (word.Arithmetic operation.Move width.Bits32) named = refl
word_run (word.Arithmetic operation.Move width.Bits64) named = refl
word_run (word.Arithmetic operation.ArithmeticShiftRight width.Bits32) named = refl
word_run (word.Arithmetic operation.ArithmeticShiftRight width.Bits64) named = refl
word_run (word.Negate width.Bits32) named = refl
word_run (word.Negate width.Bits64) named = refl
word_run (word.MoveSigned width.Bits32 size.Byte) named = refl
word_run (word.MoveSigned width.Bits32 size.HalfWord) named = refl
word_run (word.MoveSigned width.Bits32 size.Word) named = absurd named
word_run (word.MoveSigned width.Bits32 size.DoubleWord) named = absurd named
word_run (word.MoveSigned width.Bits64 size.Byte) named = refl
word_run (word.MoveSigned width.Bits64 size.HalfWord) named = refl
word_run (word.MoveSigned width.Bits64 size.Word) named = refl
word_run (word.MoveSigned width.Bits64 size.DoubleWord) named = absurd named
word_run (word.Convert order.Little size.Byte) named = absurd named
word_run (word.Convert order.Little size.HalfWord) named = refl
word_run (word.Convert order.Little size.Word) named = refl
word_run (word.Convert order.Little size.DoubleWord) named = refl
word_run (word.Convert order.Big size.Byte) named = absurd named
word_run (word.Convert order.Big size.HalfWord) named = refl
word_run (word.Convert order.Big size.Word) named = refl
word_run (word.Convert order.Big size.DoubleWord) named = refl
word_run (word.Convert order.Swap size.Byte) named = absurd named
word_run (word.Convert order.Swap size.HalfWord) named = refl
word_run (word.Convert order.Swap size.Word) named = refl
word_run (word.Convert order.Swap size.DoubleWord) named = refl
word_run word.LoadImmediate named = refl
word_run (word.Load size.Byte extension.Zero) named = refl
word_run (word.Load size.Byte extension.Sign) named = refl
word_run (word.Load size.HalfWord extension.Zero) named = refl
word_run (word.Load size.HalfWord extension.Sign) named = refl
word_run (word.Load size.Word extension.Zero) named = refl
word_run (word.Load size.Word extension.Sign) named = refl
word_run (word.Load size.DoubleWord extension.Zero) named = refl
word_run (word.Load size.DoubleWord extension.Sign) named = absurd named
word_run (word.Store size.Byte) named = refl
word_run (word.Store size.HalfWord) named = refl
word_run (word.Store size.Word) named = refl
word_run (word.Store size.DoubleWord) named = refl
word_run (word.StoreRegister size.Byte) named = refl
word_run (word.StoreRegister size.HalfWord) named = refl
word_run (word.StoreRegister size.Word) named = refl
word_run (word.StoreRegister size.DoubleWord) named = refl
word_run (word.Jump width.Bits32) named = refl
word_run (word.Jump width.Bits64) named = refl
word_run (word.Branch comparison.Equal width.Bits32) named = refl
word_run (word.Branch comparison.Equal width.Bits64) named = refl
word_run (word.Branch comparison.Greater width.Bits32) named = refl
word_run (word.Branch comparison.Greater width.Bits64) named = refl
word_run (word.Branch comparison.GreaterOrEqual width.Bits32) named = refl
word_run (word.Branch comparison.GreaterOrEqual width.Bits64) named = refl
word_run (word.Branch comparison.BitsSet width.Bits32) named = refl
word_run (word.Branch comparison.BitsSet width.Bits64) named = refl
word_run (word.Branch comparison.NotEqual width.Bits32) named = refl
word_run (word.Branch comparison.NotEqual width.Bits64) named = refl
word_run (word.Branch comparison.SignedGreater width.Bits32) named = refl
word_run (word.Branch comparison.SignedGreater width.Bits64) named = refl
word_run (word.Branch comparison.SignedGreaterOrEqual width.Bits32) named = refl
word_run (word.Branch comparison.SignedGreaterOrEqual width.Bits64) named = refl
word_run (word.Branch comparison.Less width.Bits32) named = refl
word_run (word.Branch comparison.Less width.Bits64) named = refl
word_run (word.Branch comparison.LessOrEqual width.Bits32) named = refl
word_run (word.Branch comparison.LessOrEqual width.Bits64) named = refl
word_run (word.Branch comparison.SignedLess width.Bits32) named = refl
word_run (word.Branch comparison.SignedLess width.Bits64) named = refl
word_run (word.Branch comparison.SignedLessOrEqual width.Bits32) named = refl
word_run (word.Branch comparison.SignedLessOrEqual width.Bits64) named = refl
word_run word.Call named = refl
word_run word.Exit named = refl

pub word_plain : (w : Word) → IsNamed w → all_plain (word_name w) ≡ true
word_plain (word.Arithmetic operation.Add width.Bits32) named = refl
word_plain (word.Arithmetic operation.Add width.Bits64) named = refl
word_plain (word.Arithmetic operation.Subtract width.Bits32) named = refl
word_plain (word.Arithmetic operation.Subtract width.Bits64) named = refl
word_plain (word.Arithmetic operation.Multiply width.Bits32) named = refl
word_plain (word.Arithmetic operation.Multiply width.Bits64) named = refl
word_plain (word.Arithmetic operation.Divide width.Bits32) named = refl
word_plain (word.Arithmetic operation.Divide width.Bits64) named = refl
word_plain (word.Arithmetic operation.SignedDivide width.Bits32) named = refl
word_plain (word.Arithmetic operation.SignedDivide width.Bits64) named = refl
word_plain (word.Arithmetic operation.Or width.Bits32) named = refl
word_plain (word.Arithmetic operation.Or width.Bits64) named = refl
word_plain (word.Arithmetic operation.And width.Bits32) named = refl
word_plain (word.Arithmetic operation.And width.Bits64) named = refl
word_plain (word.Arithmetic operation.ShiftLeft width.Bits32) named = refl
word_plain (word.Arithmetic operation.ShiftLeft width.Bits64) named = refl
word_plain (word.Arithmetic operation.ShiftRight width.Bits32) named = refl
word_plain (word.Arithmetic operation.ShiftRight width.Bits64) named = refl
word_plain (word.Arithmetic operation.Modulo width.Bits32) named = refl
word_plain (word.Arithmetic operation.Modulo width.Bits64) named = refl
word_plain (word.Arithmetic operation.SignedModulo width.Bits32) named = refl
word_plain (word.Arithmetic operation.SignedModulo width.Bits64) named = refl
word_plain (word.Arithmetic operation.Xor width.Bits32) named = refl
word_plain (word.Arithmetic operation.Xor width.Bits64) named = refl
word_plain (word.Arithmetic operation.Move width.Bits32) named = refl
word_plain (word.Arithmetic operation.Move width.Bits64) named = refl
word_plain (word.Arithmetic operation.ArithmeticShiftRight width.Bits32) named = refl
word_plain (word.Arithmetic operation.ArithmeticShiftRight width.Bits64) named = refl
word_plain (word.Negate width.Bits32) named = refl
word_plain (word.Negate width.Bits64) named = refl
word_plain (word.MoveSigned width.Bits32 size.Byte) named = refl
word_plain (word.MoveSigned width.Bits32 size.HalfWord) named = refl
word_plain (word.MoveSigned width.Bits32 size.Word) named = absurd named
word_plain (word.MoveSigned width.Bits32 size.DoubleWord) named = absurd named
word_plain (word.MoveSigned width.Bits64 size.Byte) named = refl
word_plain (word.MoveSigned width.Bits64 size.HalfWord) named = refl
word_plain (word.MoveSigned width.Bits64 size.Word) named = refl
word_plain (word.MoveSigned width.Bits64 size.DoubleWord) named = absurd named
word_plain (word.Convert order.Little size.Byte) named = absurd named
word_plain (word.Convert order.Little size.HalfWord) named = refl
word_plain (word.Convert order.Little size.Word) named = refl
word_plain (word.Convert order.Little size.DoubleWord) named = refl
word_plain (word.Convert order.Big size.Byte) named = absurd named
word_plain (word.Convert order.Big size.HalfWord) named = refl
word_plain (word.Convert order.Big size.Word) named = refl
word_plain (word.Convert order.Big size.DoubleWord) named = refl
word_plain (word.Convert order.Swap size.Byte) named = absurd named
word_plain (word.Convert order.Swap size.HalfWord) named = refl
word_plain (word.Convert order.Swap size.Word) named = refl
word_plain (word.Convert order.Swap size.DoubleWord) named = refl
word_plain word.LoadImmediate named = refl
word_plain (word.Load size.Byte extension.Zero) named = refl
word_plain (word.Load size.Byte extension.Sign) named = refl
word_plain (word.Load size.HalfWord extension.Zero) named = refl
word_plain (word.Load size.HalfWord extension.Sign) named = refl
word_plain (word.Load size.Word extension.Zero) named = refl
word_plain (word.Load size.Word extension.Sign) named = refl
word_plain (word.Load size.DoubleWord extension.Zero) named = refl
word_plain (word.Load size.DoubleWord extension.Sign) named = absurd named
word_plain (word.Store size.Byte) named = refl
word_plain (word.Store size.HalfWord) named = refl
word_plain (word.Store size.Word) named = refl
word_plain (word.Store size.DoubleWord) named = refl
word_plain (word.StoreRegister size.Byte) named = refl
word_plain (word.StoreRegister size.HalfWord) named = refl
word_plain (word.StoreRegister size.Word) named = refl
word_plain (word.StoreRegister size.DoubleWord) named = refl
word_plain (word.Jump width.Bits32) named = refl
word_plain (word.Jump width.Bits64) named = refl
word_plain (word.Branch comparison.Equal width.Bits32) named = refl
word_plain (word.Branch comparison.Equal width.Bits64) named = refl
word_plain (word.Branch comparison.Greater width.Bits32) named = refl
word_plain (word.Branch comparison.Greater width.Bits64) named = refl
word_plain (word.Branch comparison.GreaterOrEqual width.Bits32) named = refl
word_plain (word.Branch comparison.GreaterOrEqual width.Bits64) named = refl
word_plain (word.Branch comparison.BitsSet width.Bits32) named = refl
word_plain (word.Branch comparison.BitsSet width.Bits64) named = refl
word_plain (word.Branch comparison.NotEqual width.Bits32) named = refl
word_plain (word.Branch comparison.NotEqual width.Bits64) named = refl
word_plain (word.Branch comparison.SignedGreater width.Bits32) named = refl
word_plain (word.Branch comparison.SignedGreater width.Bits64) named = refl
word_plain (word.Branch comparison.SignedGreaterOrEqual width.Bits32) named = refl
word_plain (word.Branch comparison.SignedGreaterOrEqual width.Bits64) named = refl
word_plain (word.Branch comparison.Less width.Bits32) named = refl
word_plain (word.Branch comparison.Less width.Bits64) named = refl
word_plain (word.Branch comparison.LessOrEqual width.Bits32) named = refl
word_plain (word.Branch comparison.LessOrEqual width.Bits64) named = refl
word_plain (word.Branch comparison.SignedLess width.Bits32) named = refl
word_plain (word.Branch comparison.SignedLess width.Bits64) named = refl
word_plain (word.Branch comparison.SignedLessOrEqual width.Bits32) named = refl
word_plain (word.Branch comparison.SignedLessOrEqual width.Bits64) named = refl
word_plain word.Call named = refl
word_plain word.Exit named = refl

pub word_lexes : (w : Word) → IsNamed w → Lexes (word_name w) (token.Word w ∷ [])
word_lexes w named = piece (word_name w) (token.Word w) (word_run w named) (word_token w named)

-- ---- registers

register_token : (r : ℕ) → r < 11 → run_tokens (register_text r) ≡ token.Register r ∷ []
unfolding run_tokens token_of number_of numeral register_named digits
register_token zero h = refl
register_token (suc zero) h = refl
register_token (suc (suc zero)) h = refl
register_token (suc (suc (suc zero))) h = refl
register_token (suc (suc (suc (suc zero)))) h = refl
register_token (suc (suc (suc (suc (suc zero))))) h = refl
register_token (suc (suc (suc (suc (suc (suc zero)))))) h = refl
register_token (suc (suc (suc (suc (suc (suc (suc zero))))))) h = refl
register_token (suc (suc (suc (suc (suc (suc (suc (suc zero)))))))) h = refl
register_token (suc (suc (suc (suc (suc (suc (suc (suc (suc zero))))))))) h = refl
register_token (suc (suc (suc (suc (suc (suc (suc (suc (suc (suc zero)))))))))) h = refl
register_token (suc (suc (suc (suc (suc (suc (suc (suc (suc (suc (suc r))))))))))) h = absurd (omega arith)

register_run : (r : ℕ) → r < 11 → is_run (register_text r) ≡ true
unfolding ends_run mark_of digits
register_run zero h = refl
register_run (suc zero) h = refl
register_run (suc (suc zero)) h = refl
register_run (suc (suc (suc zero))) h = refl
register_run (suc (suc (suc (suc zero)))) h = refl
register_run (suc (suc (suc (suc (suc zero))))) h = refl
register_run (suc (suc (suc (suc (suc (suc zero)))))) h = refl
register_run (suc (suc (suc (suc (suc (suc (suc zero))))))) h = refl
register_run (suc (suc (suc (suc (suc (suc (suc (suc zero)))))))) h = refl
register_run (suc (suc (suc (suc (suc (suc (suc (suc (suc zero))))))))) h = refl
register_run (suc (suc (suc (suc (suc (suc (suc (suc (suc (suc zero)))))))))) h = refl
register_run (suc (suc (suc (suc (suc (suc (suc (suc (suc (suc (suc r))))))))))) h = absurd (omega arith)

pub register_plain : (r : ℕ) → r < 11 → all_plain (register_text r) ≡ true
unfolding digits
register_plain zero h = refl
register_plain (suc zero) h = refl
register_plain (suc (suc zero)) h = refl
register_plain (suc (suc (suc zero))) h = refl
register_plain (suc (suc (suc (suc zero)))) h = refl
register_plain (suc (suc (suc (suc (suc zero))))) h = refl
register_plain (suc (suc (suc (suc (suc (suc zero)))))) h = refl
register_plain (suc (suc (suc (suc (suc (suc (suc zero))))))) h = refl
register_plain (suc (suc (suc (suc (suc (suc (suc (suc zero)))))))) h = refl
register_plain (suc (suc (suc (suc (suc (suc (suc (suc (suc zero))))))))) h = refl
register_plain (suc (suc (suc (suc (suc (suc (suc (suc (suc (suc zero)))))))))) h = refl
register_plain (suc (suc (suc (suc (suc (suc (suc (suc (suc (suc (suc r))))))))))) h = absurd (omega arith)

pub register_lexes : (r : ℕ) → r < 11 → Lexes (register_text r) (token.Register r ∷ [])
register_lexes r h = piece (register_text r) (token.Register r) (register_run r h) (register_token r h)

-- ---- numbers

read_all : (ds : List ℕ) → AllDigits 10 ds → all_digits 10 ds ≡ true
read_all [] all = refl
read_all (c ∷ cs) all = and_from _ _ (lt-ltb _ _ all.0) (read_all cs all.1)

-- decimal digits don't begin as hexadecimal does
no_prefix : (ds : List ℕ) → AllDigits 10 ds → bytes_eq (take 2 ds) (codes "0x") ≡ false
no_prefix [] all = refl
no_prefix (c ∷ []) all = first (eqb c 48)
  where
    first : (b : Bool) → (b && false) ≡ false
    first true = refl
    first false = refl
no_prefix (c ∷ d ∷ ds) all = second (eqb c 48) (eqb d 120) (ne_eqb d 120 (λ e. let r = digit_from_value d all.1.0 in omega arith))
  where
    second : (a b : Bool) → b ≡ false → (a && (b && true)) ≡ false
    second true b e = rw e refl
    second false b e = refl

numeral_is : (ds : List ℕ) (n : ℕ) → 0 < length ds → AllDigits 10 ds → digits_value 10 ds ≡ n → n < 2 ^ 64 → numeral 10 ds ≡ Some (Some n)
unfolding numeral
numeral_is [] n some all e small = absurd (omega arith)
numeral_is (c ∷ cs) n some all e small = rw (read_all (c ∷ cs) all) (ap (λ (m : ℕ). Some (bounded m)) e ∙ ap (λ (b : Bool). Some (cond b (Some n) None)) (lt-ltb n (2 ^ 64) small))

run_of : (ds : List ℕ) → 0 < length ds → run_tokens ds ≡ token_of ds ∷ []
unfolding run_tokens
run_of [] h = absurd (omega arith)
run_of (c ∷ cs) h = refl

number_token : (ds : List ℕ) (n : ℕ) → 0 < length ds → AllDigits 10 ds → digits_value 10 ds ≡ n → n < 2 ^ 64 → run_tokens ds ≡ token.Number (Some n) ∷ []
unfolding token_of number_of
number_token ds n some all e small =
    run_of ds some
    ∙ ap (λ (b : Bool). token_from (cond b (numeral 16 (drop 2 ds)) (numeral 10 ds)) (register_named ds) (word_named ds) ∷ []) (no_prefix ds all)
    ∙ ap (λ (m : Option (Option ℕ)). token_from m (register_named ds) (word_named ds) ∷ []) (numeral_is ds n some all e small)

pub decimal_plain : (n : ℕ) → n < 2 ^ 64 → all_plain (decimal n) ≡ true
decimal_plain n h = let is = decimal_is_IsNumeral n h in digits_plain (decimal n) is.0.1

pub decimal_lexes : (n : ℕ) → n < 2 ^ 64 → Lexes (decimal n) (token.Number (Some n) ∷ [])
decimal_lexes n h =
    let is = decimal_is_IsNumeral n h in
    piece (decimal n) (token.Number (Some n)) (digits_run (decimal n) is.0.1) (number_token (decimal n) n (decimal_nonempty n h) is.0.1 is.1 h)
