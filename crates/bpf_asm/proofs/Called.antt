-- A word has one name.
use Rattle.std.proofs.Common.{◌≡◌, refl, sym, ap, ◌∙◌, ℕ, ◌-◌, Bool, true, false, cond, List, [], ◌++◌, length, take, drop, Option, Some, None}
use Rattle.std.specs.Prelude.{IsSome, option_map, codes}
use Rattle.std.specs.Str.{bytes_eq}
use Rattle.std.proofs.lemmas.List.{append-nil, take-append-drop}
use Rattle.std.proofs.lemmas.Slice.Eq.{bytes_eq-Decides}
use Rattle.bpf_profile.specs.declared.instruction.ByteOrder.{ByteOrder}
use Rattle.bpf_profile.specs.declared.instruction.ByteOrder.TheVariants as order
use Rattle.bpf_profile.specs.declared.instruction.Comparison.TheVariants as comparison
use Rattle.bpf_profile.specs.declared.instruction.Extension.TheVariants as extension
use Rattle.bpf_profile.specs.declared.instruction.Operation.TheVariants as operation
use Rattle.bpf_profile.specs.declared.instruction.Size.{Size}
use Rattle.bpf_profile.specs.declared.instruction.Size.TheVariants as size
use Rattle.bpf_profile.specs.declared.instruction.Width.{Width}
use Rattle.bpf_profile.specs.declared.instruction.Width.TheVariants as width
use Rattle.bpf_asm.specs.declared.words.Word.{Word}
use Rattle.bpf_asm.specs.declared.words.Word.TheVariants as word
use Rattle.bpf_asm.proofs.Admitted.{Gives, nothing, either, mapped_if, then_if}
use Rattle.bpf_asm.specs.Names.{operation_name, comparison_name, size_name, bits_name, order_name, width_name, word_name, operation_named, comparison_named, extended_named, extended_word, bits_named, ordered_named, convert_named, load_named, store_named, single_named, stem_named, is_narrow, width_of, stem_of, word_named}

same : (s t : List ℕ) → bytes_eq s t ≡ true → s ≡ t
same s t = (bytes_eq-Decides s t).0

if_true : {A : Type 0} {P : A → Type 0} (test : Bool) (x : A) {o : Option A} → (test ≡ true → P x) → Gives P o → Gives P (cond test (Some x) o)
if_true true x h rest = record { given = h refl }
if_true false x h rest = rest

-- a row of a table
if_named : {A : Type 0} {P : A → Type 0} (s t : List ℕ) (x : A) {o : Option A} → (s ≡ t → P x) → Gives P o → Gives P (cond (bytes_eq s t) (Some x) o)
if_named s t x h rest = if_true (bytes_eq s t) x (λ e. h (same s t e)) rest

of_operation : (s : List ℕ) → Gives (λ o. s ≡ operation_name o) (operation_named s)
unfolding operation_named
of_operation s =
    if_named s (codes "add") operation.Add (λ e. e)
    (if_named s (codes "sub") operation.Subtract (λ e. e)
    (if_named s (codes "mul") operation.Multiply (λ e. e)
    (if_named s (codes "div") operation.Divide (λ e. e)
    (if_named s (codes "sdiv") operation.SignedDivide (λ e. e)
    (if_named s (codes "or") operation.Or (λ e. e)
    (if_named s (codes "and") operation.And (λ e. e)
    (if_named s (codes "lsh") operation.ShiftLeft (λ e. e)
    (if_named s (codes "rsh") operation.ShiftRight (λ e. e)
    (if_named s (codes "mod") operation.Modulo (λ e. e)
    (if_named s (codes "smod") operation.SignedModulo (λ e. e)
    (if_named s (codes "xor") operation.Xor (λ e. e)
    (if_named s (codes "mov") operation.Move (λ e. e)
    (if_named s (codes "arsh") operation.ArithmeticShiftRight (λ e. e)
    nothing)))))))))))))

of_comparison : (s : List ℕ) → Gives (λ c. s ≡ comparison_name c) (comparison_named s)
unfolding comparison_named
of_comparison s =
    if_named s (codes "jeq") comparison.Equal (λ e. e)
    (if_named s (codes "jgt") comparison.Greater (λ e. e)
    (if_named s (codes "jge") comparison.GreaterOrEqual (λ e. e)
    (if_named s (codes "jset") comparison.BitsSet (λ e. e)
    (if_named s (codes "jne") comparison.NotEqual (λ e. e)
    (if_named s (codes "jsgt") comparison.SignedGreater (λ e. e)
    (if_named s (codes "jsge") comparison.SignedGreaterOrEqual (λ e. e)
    (if_named s (codes "jlt") comparison.Less (λ e. e)
    (if_named s (codes "jle") comparison.LessOrEqual (λ e. e)
    (if_named s (codes "jslt") comparison.SignedLess (λ e. e)
    (if_named s (codes "jsle") comparison.SignedLessOrEqual (λ e. e)
    nothing))))))))))

of_extended : (s : List ℕ) → Gives (λ z. s ≡ codes "movs" ++ size_name z) (extended_named s)
unfolding extended_named
of_extended s =
    if_named s (codes "movsb") size.Byte (λ e. e)
    (if_named s (codes "movsh") size.HalfWord (λ e. e)
    (if_named s (codes "movsw") size.Word (λ e. e)
    nothing))

of_bits : (s : List ℕ) → Gives (λ z. s ≡ bits_name z) (bits_named s)
unfolding bits_named
of_bits s =
    if_named s (codes "16") size.HalfWord (λ e. e)
    (if_named s (codes "32") size.Word (λ e. e)
    (if_named s (codes "64") size.DoubleWord (λ e. e)
    nothing))

of_load : (s : List ℕ) → Gives (λ w. s ≡ word_name w) (load_named s)
unfolding load_named
of_load s =
    if_named s (codes "ldxb") (word.Load size.Byte extension.Zero) (λ e. e)
    (if_named s (codes "ldxh") (word.Load size.HalfWord extension.Zero) (λ e. e)
    (if_named s (codes "ldxw") (word.Load size.Word extension.Zero) (λ e. e)
    (if_named s (codes "ldxdw") (word.Load size.DoubleWord extension.Zero) (λ e. e)
    (if_named s (codes "ldxsb") (word.Load size.Byte extension.Sign) (λ e. e)
    (if_named s (codes "ldxsh") (word.Load size.HalfWord extension.Sign) (λ e. e)
    (if_named s (codes "ldxsw") (word.Load size.Word extension.Sign) (λ e. e)
    nothing))))))

of_store : (s : List ℕ) → Gives (λ w. s ≡ word_name w) (store_named s)
unfolding store_named
of_store s =
    if_named s (codes "stb") (word.Store size.Byte) (λ e. e)
    (if_named s (codes "sth") (word.Store size.HalfWord) (λ e. e)
    (if_named s (codes "stw") (word.Store size.Word) (λ e. e)
    (if_named s (codes "stdw") (word.Store size.DoubleWord) (λ e. e)
    (if_named s (codes "stxb") (word.StoreRegister size.Byte) (λ e. e)
    (if_named s (codes "stxh") (word.StoreRegister size.HalfWord) (λ e. e)
    (if_named s (codes "stxw") (word.StoreRegister size.Word) (λ e. e)
    (if_named s (codes "stxdw") (word.StoreRegister size.DoubleWord) (λ e. e)
    nothing)))))))

of_single : (s : List ℕ) → Gives (λ w. s ≡ word_name w) (single_named s)
unfolding single_named
of_single s =
    if_named s (codes "call") word.Call (λ e. e)
    (if_named s (codes "exit") word.Exit (λ e. e)
    (if_named s (codes "lddw") word.LoadImmediate (λ e. e)
    (if_named s (codes "ja") (word.Jump width.Bits64) (λ e. e)
    (if_named s (codes "ja32") (word.Jump width.Bits32) (λ e. e)
    (if_named s (codes "neg") (word.Negate width.Bits64) (λ e. e)
    (if_named s (codes "neg32") (word.Negate width.Bits32) (λ e. e)
    nothing))))))

if_prefix : {P : Size → Type 0} (test : Bool) (o : Option Size) → (test ≡ true → Gives P o) → Gives P (cond test o None)
if_prefix true o h = h refl
if_prefix false o h = nothing

pub given_of : {A : Type 0} (P Q : A → Type 0) (o : Option A) → Gives P o → ((a : A) → P a → Q a) → Gives Q o
given_of P Q (Some a) h f = record { given = f a h.given }
given_of P Q None h f = nothing

of_ordered : (order : ByteOrder) (s : List ℕ) → Gives (λ z. s ≡ order_name order ++ bits_name z) (ordered_named order s)
unfolding ordered_named
of_ordered order s =
    let n = length (order_name order) in
    if_prefix (bytes_eq (take n s) (order_name order)) (bits_named (drop n s))
    (λ e. given_of (λ z. drop n s ≡ bits_name z) (λ z. s ≡ order_name order ++ bits_name z) (bits_named (drop n s)) (of_bits (drop n s))
    (λ z h. sym (take-append-drop n s) ∙ ap (λ (xs : List ℕ). xs ++ drop n s) (same (take n s) (order_name order) e) ∙ ap (λ (xs : List ℕ). order_name order ++ xs) h))

of_convert : (order : ByteOrder) (s : List ℕ) → Gives (λ w. s ≡ word_name w) (convert_named order s)
unfolding convert_named
of_convert order s = mapped_if (λ z. s ≡ order_name order ++ bits_name z) (λ w. s ≡ word_name w) (word.Convert order) (ordered_named order s) (of_ordered order s) (λ z h. h)

of_extended_word : (w : Width) (z : Size) (s : List ℕ) → s ≡ codes "movs" ++ size_name z → Gives (λ v. s ++ width_name w ≡ word_name v) (extended_word w z)
of_extended_word width.Bits32 size.Word s e = nothing
of_extended_word width.Bits32 size.Byte s e = record { given = ap (λ (xs : List ℕ). xs ++ codes "32") e }
of_extended_word width.Bits32 size.HalfWord s e = record { given = ap (λ (xs : List ℕ). xs ++ codes "32") e }
of_extended_word width.Bits32 size.DoubleWord s e = record { given = ap (λ (xs : List ℕ). xs ++ codes "32") e }
of_extended_word width.Bits64 size.Word s e = record { given = ap (λ (xs : List ℕ). xs ++ []) e }
of_extended_word width.Bits64 size.Byte s e = record { given = ap (λ (xs : List ℕ). xs ++ []) e }
of_extended_word width.Bits64 size.HalfWord s e = record { given = ap (λ (xs : List ℕ). xs ++ []) e }
of_extended_word width.Bits64 size.DoubleWord s e = record { given = ap (λ (xs : List ℕ). xs ++ []) e }

of_stem : (w : Width) (s : List ℕ) → Gives (λ v. s ++ width_name w ≡ word_name v) (stem_named w s)
unfolding stem_named
of_stem w s =
    either (option_map (λ o. word.Arithmetic o w) (operation_named s)) _
    (mapped_if (λ o. s ≡ operation_name o) (λ v. s ++ width_name w ≡ word_name v) (λ o. word.Arithmetic o w) (operation_named s) (of_operation s) (λ o h. ap (λ (xs : List ℕ). xs ++ width_name w) h))
    (either (option_map (λ c. word.Branch c w) (comparison_named s)) _
    (mapped_if (λ c. s ≡ comparison_name c) (λ v. s ++ width_name w ≡ word_name v) (λ c. word.Branch c w) (comparison_named s) (of_comparison s) (λ c h. ap (λ (xs : List ℕ). xs ++ width_name w) h))
    (then_if (λ z. s ≡ codes "movs" ++ size_name z) (λ v. s ++ width_name w ≡ word_name v) (extended_word w) (extended_named s) (of_extended s) (λ z h. of_extended_word w z s h)))

-- the stem and the width of a name make it up
parts : (s : List ℕ) (narrow : Bool) → is_narrow s ≡ narrow → cond narrow (take (length s - 2) s) s ++ width_name (cond narrow width.Bits32 width.Bits64) ≡ s
parts s true e = ap (λ (xs : List ℕ). take (length s - 2) s ++ xs) (sym (same (drop (length s - 2) s) (codes "32") e)) ∙ take-append-drop (length s - 2) s
parts s false e = append-nil s

of_parts : (s : List ℕ) → Gives (λ w. s ≡ word_name w) (stem_named (width_of s) (stem_of s))
of_parts s =
    given_of (λ w. stem_of s ++ width_name (width_of s) ≡ word_name w) (λ w. s ≡ word_name w) (stem_named (width_of s) (stem_of s)) (of_stem (width_of s) (stem_of s))
    (λ w h. sym (parts s (is_narrow s) refl) ∙ h)

of_name : (s : List ℕ) → Gives (λ w. s ≡ word_name w) (word_named s)
unfolding word_named
of_name s =
    either (single_named s) _ (of_single s) (either (convert_named order.Little s) _ (of_convert order.Little s) (either (convert_named order.Big s) _ (of_convert order.Big s)
    (either (convert_named order.Swap s) _ (of_convert order.Swap s) (either (load_named s) _ (of_load s) (either (store_named s) _ (of_store s) (of_parts s))))))

names_same : (s t : List ℕ) (a b : Option Word) → Gives (λ w. s ≡ word_name w) a → Gives (λ w. t ≡ word_name w) b → a ≡ b → IsSome a → s ≡ t
names_same s t None b x y e some = absurd cc
names_same s t (Some v) None x y e some = absurd (let g : ◌≡◌ {A = Option Word} (Some v) None = e in cc)
names_same s t (Some v) (Some w) x y e some = let g : ◌≡◌ {A = Option Word} (Some v) (Some w) = e in let h : v ≡ w = cc in x.given ∙ ap word_name h ∙ sym y.given

pub one_name : (s t : List ℕ) → word_named s ≡ word_named t → IsSome (word_named s) → s ≡ t
one_name s t e some = names_same s t (word_named s) (word_named t) (of_name s) (of_name t) e some
