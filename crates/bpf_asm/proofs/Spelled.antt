-- A text of two parts is another one where each part is.
use Rattle.std.proofs.Common.{◌≡◌, refl, sym, ap, ◌∙◌, ℕ, Bool, true, false, cond, eqb, List, [], ◌∷◌, ◌++◌, length, take, drop, Option, Some, None}
use Rattle.std.specs.Prelude.{◌&&◌, option_map, codes}
use Rattle.std.specs.Char.{to_ascii_lowercase}
use Rattle.std.specs.Str.{bytes_eq}
use Rattle.std.proofs.lemmas.List.{take-map, drop-map, length-map}
use Rattle.bpf_profile.specs.declared.instruction.ByteOrder.{ByteOrder}
use Rattle.bpf_profile.specs.declared.instruction.ByteOrder.TheVariants as order
use Rattle.bpf_profile.specs.declared.instruction.Size.TheVariants as size
use Rattle.bpf_asm.specs.declared.words.Word.{Word}
use Rattle.bpf_asm.specs.declared.words.Word.TheVariants as word
use Rattle.bpf_asm.specs.Assembly.{small_letters}
use Rattle.bpf_asm.specs.Names.{order_name, bits_named, ordered_named, convert_named}

and_again : (a b c : Bool) → (a && (b && c)) ≡ ((a && b) && c)
and_again true b c = refl
and_again false b c = refl

by_parts : (s a b : List ℕ) → bytes_eq s (a ++ b) ≡ (bytes_eq (take (length a) s) a && bytes_eq (drop (length a) s) b)
by_parts s [] b = refl
by_parts [] (x ∷ xs) b = refl
by_parts (c ∷ cs) (x ∷ xs) b = ap (λ (t : Bool). eqb c x && t) (by_parts cs xs b) ∙ and_again (eqb c x) _ _

small_append : (a b : List ℕ) → small_letters (a ++ b) ≡ small_letters a ++ small_letters b
small_append [] b = refl
small_append (c ∷ cs) b = ap (λ (xs : List ℕ). to_ascii_lowercase c ∷ xs) (small_append cs b)

-- in small letters
by_small_parts : (s a b front back : List ℕ) → front ≡ take (length a) s → back ≡ drop (length a) s
    → bytes_eq (small_letters s) (small_letters (a ++ b)) ≡ (bytes_eq (small_letters front) (small_letters a) && bytes_eq (small_letters back) (small_letters b))
by_small_parts s a b front back is behind =
    ap (bytes_eq (small_letters s)) (small_append a b)
    ∙ by_parts (small_letters s) (small_letters a) (small_letters b)
    ∙ ap (λ (n : ℕ). bytes_eq (take n (small_letters s)) (small_letters a) && bytes_eq (drop n (small_letters s)) (small_letters b)) (length-map a to_ascii_lowercase)
    ∙ ap (λ (xs : List ℕ). bytes_eq xs (small_letters a) && bytes_eq (drop (length a) (small_letters s)) (small_letters b)) (take-map to_ascii_lowercase (length a) s ∙ ap small_letters (sym is))
    ∙ ap (λ (xs : List ℕ). bytes_eq (small_letters front) (small_letters a) && bytes_eq xs (small_letters b)) (drop-map to_ascii_lowercase (length a) s ∙ ap small_letters (sym behind))

-- the first part is right or wrong
pub first_right : (s a b front back : List ℕ) → front ≡ take (length a) s → back ≡ drop (length a) s → bytes_eq (small_letters front) (small_letters a) ≡ true
    → bytes_eq (small_letters back) (small_letters b) ≡ bytes_eq (small_letters s) (small_letters (a ++ b))
first_right s a b front back is behind e =
    sym (by_small_parts s a b front back is behind ∙ ap (λ (t : Bool). t && bytes_eq (small_letters back) (small_letters b)) e)

pub first_wrong : (s a b front back : List ℕ) → front ≡ take (length a) s → back ≡ drop (length a) s → bytes_eq (small_letters front) (small_letters a) ≡ false
    → false ≡ bytes_eq (small_letters s) (small_letters (a ++ b))
first_wrong s a b front back is behind e =
    sym (by_small_parts s a b front back is behind ∙ ap (λ (t : Bool). t && bytes_eq (small_letters back) (small_letters b)) e)

-- ---- the words of an order

rows : (order : ByteOrder) (front a b c : Bool)
    → option_map (word.Convert order) (cond front (cond a (Some size.HalfWord) (cond b (Some size.Word) (cond c (Some size.DoubleWord) None))) None)
    ≡ cond (front && a) (Some (word.Convert order size.HalfWord)) (cond (front && b) (Some (word.Convert order size.Word)) (cond (front && c) (Some (word.Convert order size.DoubleWord)) None))
rows order false a b c = refl
rows order true true b c = refl
rows order true false true c = refl
rows order true false false true = refl
rows order true false false false = refl

small_name : (order : ByteOrder) (bits : List ℕ) → small_letters bits ≡ bits → small_letters (order_name order ++ bits) ≡ order_name order ++ bits
small_name order.Little bits e = ap (λ (xs : List ℕ). codes "le" ++ xs) e
small_name order.Big bits e = ap (λ (xs : List ℕ). codes "be" ++ xs) e
small_name order.Swap bits e = ap (λ (xs : List ℕ). codes "swap" ++ xs) e

-- whether a text is the name of an order and a number of bits
is_row : (order : ByteOrder) (s bits : List ℕ) → small_letters bits ≡ bits
    → bytes_eq s (small_letters (order_name order ++ bits)) ≡ (bytes_eq (take (length (order_name order)) s) (order_name order) && bytes_eq (drop (length (order_name order)) s) bits)
is_row order s bits e = ap (bytes_eq s) (small_name order bits e) ∙ by_parts s (order_name order) bits

convert_rows : (order : ByteOrder) (s : List ℕ)
    → cond (bytes_eq s (small_letters (order_name order ++ codes "16"))) (Some (word.Convert order size.HalfWord))
    (cond (bytes_eq s (small_letters (order_name order ++ codes "32"))) (Some (word.Convert order size.Word))
    (cond (bytes_eq s (small_letters (order_name order ++ codes "64"))) (Some (word.Convert order size.DoubleWord)) None))
    ≡ convert_named order s
unfolding convert_named ordered_named bits_named
convert_rows order s =
    let rest = drop (length (order_name order)) s in
    rw (is_row order s (codes "16") refl, is_row order s (codes "32") refl, is_row order s (codes "64") refl)
    (sym (rows order (bytes_eq (take (length (order_name order)) s) (order_name order)) (bytes_eq rest (codes "16")) (bytes_eq rest (codes "32")) (bytes_eq rest (codes "64"))))

-- one row after another, the last one first
pub convert_by : (order : ByteOrder) (s : List ℕ) (third second first : Option Word)
    → third ≡ cond (bytes_eq s (small_letters (order_name order ++ codes "64"))) (Some (word.Convert order size.DoubleWord)) None
    → second ≡ cond (bytes_eq s (small_letters (order_name order ++ codes "32"))) (Some (word.Convert order size.Word)) third
    → first ≡ cond (bytes_eq s (small_letters (order_name order ++ codes "16"))) (Some (word.Convert order size.HalfWord)) second
    → first ≡ convert_named order s
convert_by order s third second first e f g =
    g ∙ ap (λ (o : Option Word). cond (bytes_eq s (small_letters (order_name order ++ codes "16"))) (Some (word.Convert order size.HalfWord)) o) f
    ∙ ap (λ (o : Option Word). cond (bytes_eq s (small_letters (order_name order ++ codes "16"))) (Some (word.Convert order size.HalfWord)) (cond (bytes_eq s (small_letters (order_name order ++ codes "32"))) (Some (word.Convert order size.Word)) o)) e
    ∙ convert_rows order s
