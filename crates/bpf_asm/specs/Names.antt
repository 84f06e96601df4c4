-- The words that instructions are written with, and the instruction that a word names.
use Rattle.std.specs.Prelude.{ℕ, ◌-◌, Bool, List, ◌++◌, [], length, take, drop, Option, Some, None, option_map, option_and_then, if◌then◌else◌, codes}
use Rattle.std.specs.Option.{option_or}
use Rattle.std.specs.Str.{bytes_eq}
use Rattle.bpf_profile.specs.declared.instruction.ByteOrder.{ByteOrder}
use Rattle.bpf_profile.specs.declared.instruction.ByteOrder.TheVariants as order
use Rattle.bpf_profile.specs.declared.instruction.Comparison.{Comparison}
use Rattle.bpf_profile.specs.declared.instruction.Comparison.TheVariants as comparison
use Rattle.bpf_profile.specs.declared.instruction.Extension.{Extension}
use Rattle.bpf_profile.specs.declared.instruction.Extension.TheVariants as extension
use Rattle.bpf_profile.specs.declared.instruction.Operation.{Operation}
use Rattle.bpf_profile.specs.declared.instruction.Operation.TheVariants as operation
use Rattle.bpf_profile.specs.declared.instruction.Size.{Size}
use Rattle.bpf_profile.specs.declared.instruction.Size.TheVariants as size
use Rattle.bpf_profile.specs.declared.instruction.Width.{Width}
use Rattle.bpf_profile.specs.declared.instruction.Width.TheVariants as width
use Rattle.bpf_asm.specs.declared.words.Word.{Word}
use Rattle.bpf_asm.specs.declared.words.Word.TheVariants as word

-- ---- from a word to its name

abbrev pub operation_name : Operation → List ℕ
operation_name operation.Add = codes "add"
operation_name operation.Subtract = codes "sub"
operation_name operation.Multiply = codes "mul"
operation_name operation.Divide = codes "div"
operation_name operation.SignedDivide = codes "sdiv"
operation_name operation.Or = codes "or"
operation_name operation.And = codes "and"
operation_name operation.ShiftLeft = codes "lsh"
operation_name operation.ShiftRight = codes "rsh"
operation_name operation.Modulo = codes "mod"
operation_name operation.SignedModulo = codes "smod"
operation_name operation.Xor = codes "xor"
operation_name operation.Move = codes "mov"
operation_name operation.ArithmeticShiftRight = codes "arsh"

abbrev pub comparison_name : Comparison → List ℕ
comparison_name comparison.Equal = codes "jeq"
comparison_name comparison.Greater = codes "jgt"
comparison_name comparison.GreaterOrEqual = codes "jge"
comparison_name comparison.BitsSet = codes "jset"
comparison_name comparison.NotEqual = codes "jne"
comparison_name comparison.SignedGreater = codes "jsgt"
comparison_name comparison.SignedGreaterOrEqual = codes "jsge"
comparison_name comparison.Less = codes "jlt"
comparison_name comparison.LessOrEqual = codes "jle"
comparison_name comparison.SignedLess = codes "jslt"
comparison_name comparison.SignedLessOrEqual = codes "jsle"

-- what a word of 32 bits has behind its stem
abbrev pub width_name : Width → List ℕ
width_name width.Bits32 = codes "32"
width_name width.Bits64 = []

abbrev pub size_name : Size → List ℕ
size_name size.Byte = codes "b"
size_name size.HalfWord = codes "h"
size_name size.Word = codes "w"
size_name size.DoubleWord = codes "dw"

abbrev pub bits_name : Size → List ℕ
bits_name size.Byte = codes "8"
bits_name size.HalfWord = codes "16"
bits_name size.Word = codes "32"
bits_name size.DoubleWord = codes "64"

abbrev pub order_name : ByteOrder → List ℕ
order_name order.Little = codes "le"
order_name order.Big = codes "be"
order_name order.Swap = codes "swap"

abbrev pub load_name : Extension → List ℕ
load_name extension.Zero = codes "ldx"
load_name extension.Sign = codes "ldxs"

-- what the name of a word begins with
abbrev pub word_stem : Word → List ℕ
word_stem (word.Arithmetic operation width) = operation_name operation
word_stem (word.Negate width) = codes "neg"
word_stem (word.MoveSigned width size) = codes "movs" ++ size_name size
word_stem (word.Convert order size) = order_name order
word_stem word.LoadImmediate = codes "lddw"
word_stem (word.Load size extension) = load_name extension
word_stem (word.Store size) = codes "st"
word_stem (word.StoreRegister size) = codes "stx"
word_stem (word.Jump width) = codes "ja"
word_stem (word.Branch comparison width) = comparison_name comparison
word_stem word.Call = codes "call"
word_stem word.Exit = codes "exit"

-- what stands behind the stem
abbrev pub word_end : Word → List ℕ
word_end (word.Arithmetic operation width) = width_name width
word_end (word.Negate width) = width_name width
word_end (word.MoveSigned width size) = width_name width
word_end (word.Convert order size) = bits_name size
word_end word.LoadImmediate = []
word_end (word.Load size extension) = size_name size
word_end (word.Store size) = size_name size
word_end (word.StoreRegister size) = size_name size
word_end (word.Jump width) = width_name width
word_end (word.Branch comparison width) = width_name width
word_end word.Call = []
word_end word.Exit = []

abbrev pub word_name : Word → List ℕ
word_name word = word_stem word ++ word_end word

-- ---- from a name to its word

unfoldable pub operation_named : List ℕ → Option Operation
operation_named s =
    if bytes_eq s (codes "add") then Some operation.Add
    else (if bytes_eq s (codes "sub") then Some operation.Subtract
    else (if bytes_eq s (codes "mul") then Some operation.Multiply
    else (if bytes_eq s (codes "div") then Some operation.Divide
    else (if bytes_eq s (codes "sdiv") then Some operation.SignedDivide
    else (if bytes_eq s (codes "or") then Some operation.Or
    else (if bytes_eq s (codes "and") then Some operation.And
    else (if bytes_eq s (codes "lsh") then Some operation.ShiftLeft
    else (if bytes_eq s (codes "rsh") then Some operation.ShiftRight
    else (if bytes_eq s (codes "mod") then Some operation.Modulo
    else (if bytes_eq s (codes "smod") then Some operation.SignedModulo
    else (if bytes_eq s (codes "xor") then Some operation.Xor
    else (if bytes_eq s (codes "mov") then Some operation.Move
    else (if bytes_eq s (codes "arsh") then Some operation.ArithmeticShiftRight
    else None)))))))))))))

unfoldable pub comparison_named : List ℕ → Option Comparison
comparison_named s =
    if bytes_eq s (codes "jeq") then Some comparison.Equal
    else (if bytes_eq s (codes "jgt") then Some comparison.Greater
    else (if bytes_eq s (codes "jge") then Some comparison.GreaterOrEqual
    else (if bytes_eq s (codes "jset") then Some comparison.BitsSet
    else (if bytes_eq s (codes "jne") then Some comparison.NotEqual
    else (if bytes_eq s (codes "jsgt") then Some comparison.SignedGreater
    else (if bytes_eq s (codes "jsge") then Some comparison.SignedGreaterOrEqual
    else (if bytes_eq s (codes "jlt") then Some comparison.Less
    else (if bytes_eq s (codes "jle") then Some comparison.LessOrEqual
    else (if bytes_eq s (codes "jslt") then Some comparison.SignedLess
    else (if bytes_eq s (codes "jsle") then Some comparison.SignedLessOrEqual
    else None))))))))))

-- the sizes of a move with sign extension, of which 4 bytes have no form of 32 bits
unfoldable pub extended_named : List ℕ → Option Size
extended_named s =
    if bytes_eq s (codes "movsb") then Some size.Byte
    else (if bytes_eq s (codes "movsh") then Some size.HalfWord
    else (if bytes_eq s (codes "movsw") then Some size.Word
    else None))

unfoldable pub bits_named : List ℕ → Option Size
bits_named s =
    if bytes_eq s (codes "16") then Some size.HalfWord
    else (if bytes_eq s (codes "32") then Some size.Word
    else (if bytes_eq s (codes "64") then Some size.DoubleWord
    else None))

-- the size that follows the name of an order
unfoldable pub ordered_named : ByteOrder → List ℕ → Option Size
ordered_named order s = if bytes_eq (take (length (order_name order)) s) (order_name order) then bits_named (drop (length (order_name order)) s) else None

unfoldable pub convert_named : ByteOrder → List ℕ → Option Word
convert_named order s = option_map (word.Convert order) (ordered_named order s)

unfoldable pub load_named : List ℕ → Option Word
load_named s =
    if bytes_eq s (codes "ldxb") then Some (word.Load size.Byte extension.Zero)
    else (if bytes_eq s (codes "ldxh") then Some (word.Load size.HalfWord extension.Zero)
    else (if bytes_eq s (codes "ldxw") then Some (word.Load size.Word extension.Zero)
    else (if bytes_eq s (codes "ldxdw") then Some (word.Load size.DoubleWord extension.Zero)
    else (if bytes_eq s (codes "ldxsb") then Some (word.Load size.Byte extension.Sign)
    else (if bytes_eq s (codes "ldxsh") then Some (word.Load size.HalfWord extension.Sign)
    else (if bytes_eq s (codes "ldxsw") then Some (word.Load size.Word extension.Sign)
    else None))))))

unfoldable pub store_named : List ℕ → Option Word
store_named s =
    if bytes_eq s (codes "stb") then Some (word.Store size.Byte)
    else (if bytes_eq s (codes "sth") then Some (word.Store size.HalfWord)
    else (if bytes_eq s (codes "stw") then Some (word.Store size.Word)
    else (if bytes_eq s (codes "stdw") then Some (word.Store size.DoubleWord)
    else (if bytes_eq s (codes "stxb") then Some (word.StoreRegister size.Byte)
    else (if bytes_eq s (codes "stxh") then Some (word.StoreRegister size.HalfWord)
    else (if bytes_eq s (codes "stxw") then Some (word.StoreRegister size.Word)
    else (if bytes_eq s (codes "stxdw") then Some (word.StoreRegister size.DoubleWord)
    else None)))))))

unfoldable pub single_named : List ℕ → Option Word
single_named s =
    if bytes_eq s (codes "call") then Some word.Call
    else (if bytes_eq s (codes "exit") then Some word.Exit
    else (if bytes_eq s (codes "lddw") then Some word.LoadImmediate
    else (if bytes_eq s (codes "ja") then Some (word.Jump width.Bits64)
    else (if bytes_eq s (codes "ja32") then Some (word.Jump width.Bits32)
    else (if bytes_eq s (codes "neg") then Some (word.Negate width.Bits64)
    else (if bytes_eq s (codes "neg32") then Some (word.Negate width.Bits32)
    else None))))))

-- a name that ends in 32 has 32 bits, and else 64
abbrev pub is_narrow : List ℕ → Bool
is_narrow s = bytes_eq (drop (length s - 2) s) (codes "32")

abbrev pub width_of : List ℕ → Width
width_of s = if is_narrow s then width.Bits32 else width.Bits64

abbrev pub stem_of : List ℕ → List ℕ
stem_of s = if is_narrow s then take (length s - 2) s else s

-- a move that extends has more bits than it extends
abbrev pub extended_word : Width → Size → Option Word
extended_word width.Bits32 size.Word = None
extended_word width size = Some (word.MoveSigned width size)

-- the words with a form for each width
unfoldable pub stem_named : Width → List ℕ → Option Word
stem_named width s =
    option_or (option_map (λ operation. word.Arithmetic operation width) (operation_named s))
    (option_or (option_map (λ comparison. word.Branch comparison width) (comparison_named s))
    (option_and_then (extended_word width) (extended_named s)))

-- the word that a name in small letters names
unfoldable pub word_named : List ℕ → Option Word
word_named s =
    option_or (single_named s)
    (option_or (convert_named order.Little s)
    (option_or (convert_named order.Big s)
    (option_or (convert_named order.Swap s)
    (option_or (load_named s)
    (option_or (store_named s)
    (stem_named (width_of s) (stem_of s)))))))
