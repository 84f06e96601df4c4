-- The length that fields give is what their texts spell.
use Rattle.std.proofs.Common.{◌≡◌, ◌≢◌, ◌⊎◌, ℕ, suc, ◌^◌, ◌==◌, ◌&&◌, Bool, true, false, cond, List, [], ◌∷◌, Option, Some, None, option_and_then, ap, sym, ◌∙◌, refl, arith, inl, inr, codes, All, nat_lt, eqb-true, eq-eqb}
use Rattle.std.specs.List.{Contains}
use Rattle.std.specs.Str.Parse.{digits_value}
use Rattle.std.proofs.lemmas.Bool.{ltb-true, lt-ltb, false≢true}
use Rattle.std.proofs.lemmas.List.Elements.{All-cons, All-nil, All-contains}
use Rattle.http_messages.specs.Lengths.{is_decimal, decimal_of, is_named, with_length, length_from, length_texts, Spells, AreNoLength, IsLengthOf}

-- ---- numbers and their texts

spelled_if : (a b : Bool) (v n : ℕ) → cond (a && b) (Some v) None ≡ Some n → (a ≡ true) × (b ≡ true) × (v ≡ n)
spelled_if true true v n is = (refl, refl, cc)
spelled_if true false v n is = absurd cc
spelled_if false b v n is = absurd cc

none_if : (a b : Bool) (v : ℕ) → cond (a && b) (Some v) None ≡ None → a ≡ true → b ≡ true → ⊥
none_if true true v is d e = absurd cc
none_if true false v is d e = false≢true e
none_if false b v is d e = false≢true d

decimal_spells : (text : List ℕ) (number : ℕ) → decimal_of text ≡ Some number → Spells text number
decimal_spells text number is =
    let parts = spelled_if (is_decimal text) (nat_lt (digits_value 10 text) (2 ^ 64)) (digits_value 10 text) number is in
    (parts.0, parts.2, rw parts.2 at (ltb-true (digits_value 10 text) (2 ^ 64) parts.1))

decimal_none : (text : List ℕ) → decimal_of text ≡ None → (number : ℕ) → Spells text number → ⊥
decimal_none text is number spells =
    none_if (is_decimal text) (nat_lt (digits_value 10 text) (2 ^ 64)) (digits_value 10 text) is spells.0 (lt-ltb _ _ (rw (sym spells.1) at spells.2))

spells_one : (text : List ℕ) (one other : ℕ) → Spells text one → Spells text other → one ≡ other
spells_one text one other spells spells' = sym spells.1 ∙ spells'.1

-- ---- the fold over texts

abbrev fold : Option ℕ → List (List ℕ) → Option (Option ℕ)
fold seen [] = Some seen
fold seen (text ∷ texts) = option_and_then (λ known. fold known texts) (with_length seen (decimal_of text))

known_alike : (fields : List (List ℕ × List ℕ)) (known : Option (Option ℕ)) → ((seen : Option ℕ) → length_from seen fields ≡ fold seen (length_texts fields))
    → option_and_then (λ k. length_from k fields) known ≡ option_and_then (λ k. fold k (length_texts fields)) known
known_alike fields None more = refl
known_alike fields (Some seen) more = more seen

-- one field more, of this name or of another
fold_named : (named : Bool) (seen : Option ℕ) (field : List ℕ × List ℕ) (fields : List (List ℕ × List ℕ)) → is_named (codes "content-length") field.0 ≡ named → ((known : Option ℕ) → length_from known fields ≡ fold known (length_texts fields))
    → length_from seen (field ∷ fields) ≡ fold seen (length_texts (field ∷ fields))
unfolding length_from
fold_named true seen field fields is more = rw is (known_alike fields (with_length seen (decimal_of field.1)) more)
fold_named false seen field fields is more = rw is (more seen)

-- fields of other names are passed over
fold_field : (fields : List (List ℕ × List ℕ)) (seen : Option ℕ) → length_from seen fields ≡ fold seen (length_texts fields)
unfolding length_from
fold_field [] seen = refl
fold_field (field ∷ fields) seen = fold_named (is_named (codes "content-length") field.0) seen field fields refl (fold_field fields)

-- ---- what the fold reads

here : (text : List ℕ) (texts : List (List ℕ)) → Contains (text ∷ texts) text
here text texts = (0, omega arith, refl)

there : (text other : List ℕ) (texts : List (List ℕ)) → Contains texts other → Contains (text ∷ texts) other
there text other texts (k, low, is) = (suc k, omega (arith, low), is)

no_length_more : (text : List ℕ) (texts : List (List ℕ)) → AreNoLength texts → AreNoLength (text ∷ texts)
no_length_more text texts (inl (bad, at, none)) = inl (bad, there text bad texts at, none)
no_length_more text texts (inr (first, second, one, other, at, at', spells, spells', differ)) =
    inr (first, second, one, other, there text first texts at, there text second texts at', spells, spells', differ)

-- what is read behind a length that was seen
abbrev Reads : Option ℕ → List (List ℕ) → Option (Option ℕ) → Type 0
Reads seen texts None = AreNoLength texts ⊎ ((s : ℕ) × (seen ≡ Some s) × (text : List ℕ) × (number : ℕ) × Contains texts text × Spells text number × (s ≢ number))
Reads seen texts (Some None) = (texts ≡ []) × (seen ≡ None)
Reads seen texts (Some (Some number)) = All (λ text. Spells text number) texts × ((seen ≡ Some number) ⊎ ((seen ≡ None) × (texts ≢ [])))

-- the first text was read, behind none
first_read : (text : List ℕ) (texts : List (List ℕ)) (n : ℕ) (r : Option (Option ℕ)) → Spells text n → Reads (Some n) texts r → Reads None (text ∷ texts) r
first_read text texts n None spells (inl none) = inl (no_length_more text texts none)
first_read text texts n None spells (inr (s, same, other, m, at, spells', differ)) =
    let is : n ≡ s = cc in
    inl (inr (text, other, n, m, here text texts, there text other texts at, spells, spells', λ e. differ (sym is ∙ e)))
first_read text texts n (Some None) spells (none, seen) = absurd cc
first_read text texts n (Some (Some m)) spells (all, inl same) =
    let is : n ≡ m = cc in
    (All-cons (λ t. Spells t m) text texts (rw is at spells) all, inr (refl, λ e. absurd cc))
first_read text texts n (Some (Some m)) spells (all, inr (none, some)) = absurd cc

-- a further text was read, and agrees
next_read : (text : List ℕ) (texts : List (List ℕ)) (n : ℕ) (r : Option (Option ℕ)) → Spells text n → Reads (Some n) texts r → Reads (Some n) (text ∷ texts) r
next_read text texts n None spells (inl none) = inl (no_length_more text texts none)
next_read text texts n None spells (inr (s, same, other, m, at, spells', differ)) = inr (s, same, other, m, there text other texts at, spells', differ)
next_read text texts n (Some None) spells (none, seen) = absurd cc
next_read text texts n (Some (Some m)) spells (all, inl same) =
    let is : n ≡ m = cc in
    (All-cons (λ t. Spells t m) text texts (rw is at spells) all, inl same)
next_read text texts n (Some (Some m)) spells (all, inr (none, some)) = absurd cc

-- a further text, compared with what was seen
compared : (same : Bool) (s n : ℕ) (text : List ℕ) (texts : List (List ℕ)) → (s == n) ≡ same → Spells text n → Reads (Some n) texts (fold (Some n) texts)
    → Reads (Some s) (text ∷ texts) (option_and_then (λ known. fold known texts) (cond same (Some (Some n)) None))
compared true s n text texts test spells reads = rw (eqb-true s n test) (next_read text texts n (fold (Some n) texts) spells reads)
compared false s n text texts test spells reads = inr (s, refl, text, n, here text texts, spells, λ e. false≢true (sym test ∙ eq-eqb s n e))

one_text : (seen : Option ℕ) (text : List ℕ) (texts : List (List ℕ)) (d : Option ℕ) → decimal_of text ≡ d → ((known : Option ℕ) → Reads known texts (fold known texts))
    → Reads seen (text ∷ texts) (option_and_then (λ known. fold known texts) (with_length seen d))
one_text seen text texts None is reads = inl (inl (text, here text texts, decimal_none text is))
one_text None text texts (Some n) is reads = first_read text texts n (fold (Some n) texts) (decimal_spells text n is) (reads (Some n))
one_text (Some s) text texts (Some n) is reads = compared (s == n) s n text texts refl (decimal_spells text n is) (reads (Some n))

fold_reads : (texts : List (List ℕ)) (seen : Option ℕ) → Reads seen texts (fold seen texts)
fold_reads [] None = (refl, refl)
fold_reads [] (Some s) = (All-nil (λ t. Spells t s), inl refl)
fold_reads (text ∷ texts) seen = one_text seen text texts (decimal_of text) refl (fold_reads texts)

-- ---- the length of fields

read_none : (texts : List (List ℕ)) (r : Option (Option ℕ)) → Reads None texts r → IsLengthOf texts r
read_none texts None (inl none) = none
read_none texts None (inr (s, same, text, n, at, spells, differ)) = absurd cc
read_none texts (Some None) (none, seen) = none
read_none texts (Some (Some n)) (all, inl same) = absurd cc
read_none texts (Some (Some n)) (all, inr (none, some)) = (some, all)

pub reads_length : (fields : List (List ℕ × List ℕ)) → IsLengthOf (length_texts fields) (length_from None fields)
reads_length fields = rw (fold_field fields None) (read_none (length_texts fields) (fold None (length_texts fields)) (fold_reads (length_texts fields) None))

-- ---- there is one length

none_contained : (text : List ℕ) → Contains [] text → ⊥
none_contained text (k, low, is) = omega (arith, low)

no_length_not_empty : (texts : List (List ℕ)) → texts ≡ [] → AreNoLength texts → ⊥
no_length_not_empty texts none (inl (text, at, bad)) = none_contained text (rw none at at)
no_length_not_empty texts none (inr (first, second, one, other, at, at', spells, spells', differ)) = none_contained first (rw none at at)

no_length_not_one : (texts : List (List ℕ)) (n : ℕ) → All (λ text. Spells text n) texts → AreNoLength texts → ⊥
no_length_not_one texts n all (inl (text, at, bad)) = bad n (All-contains (λ t. Spells t n) texts text all at)
no_length_not_one texts n all (inr (first, second, one, other, at, at', spells, spells', differ)) =
    differ (spells_one first one n spells (All-contains (λ t. Spells t n) texts first all at) ∙ spells_one second n other (All-contains (λ t. Spells t n) texts second all at') spells')

spelled_one : (texts : List (List ℕ)) (n m : ℕ) → texts ≢ [] → All (λ text. Spells text n) texts → All (λ text. Spells text m) texts → n ≡ m
spelled_one [] n m some all all' = absurd (some refl)
spelled_one (text ∷ texts) n m some all all' =
    spells_one text n m (All-contains (λ t. Spells t n) (text ∷ texts) text all (here text texts)) (All-contains (λ t. Spells t m) (text ∷ texts) text all' (here text texts))

pub one_length : (texts : List (List ℕ)) (one other : Option (Option ℕ)) → IsLengthOf texts one → IsLengthOf texts other → one ≡ other
one_length texts None None is is' = refl
one_length texts None (Some None) is is' = absurd (no_length_not_empty texts is' is)
one_length texts None (Some (Some m)) is is' = absurd (no_length_not_one texts m is'.1 is)
one_length texts (Some None) None is is' = absurd (no_length_not_empty texts is is')
one_length texts (Some None) (Some None) is is' = refl
one_length texts (Some None) (Some (Some m)) is is' = absurd (is'.0 is)
one_length texts (Some (Some n)) None is is' = absurd (no_length_not_one texts n is.1 is')
one_length texts (Some (Some n)) (Some None) is is' = absurd (is.0 is')
one_length texts (Some (Some n)) (Some (Some m)) is is' = ap (λ k. Some (Some k)) (spelled_one texts n m is.0 is.1 is'.1)
