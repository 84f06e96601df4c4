-- What a loop over the items of an array has read.
use Rattle.std.proofs.Common.{◌≡◌, ◌≤◌, ◌<◌, ℕ, suc, ◌+◌, ◌-◌, List, [], ◌∷◌, ◌++◌, length, take, drop, set, replicate, Option, Some, None, IfSome, option_map, option_and_then, refl, sym, ap, ◌∙◌, arith, append_assoc}
use Rattle.std.proofs.lemmas.Grind.{common_steps}
use Rattle.std.proofs.lemmas.List.{drop-drop, drop-replicate, drop-set-lt}
use Rattle.serde_json.specs.View.{view, items_view}
use Rattle.serde_json.specs.declared.value.Value.{Value}
use Rattle.texts.specs.Outcomes.{u64_of, at_most, numbers_of}
use Rattle.helpers.specs.Padded.{padded}

-- there are as many numbers as items
with_head : (o : Option ℕ) (rest : Option (List ℕ)) (k : ℕ) → IfSome rest (λ ns. length ns ≡ k) → IfSome (option_and_then (λ n. option_map (λ ns. n ∷ ns) rest) o) (λ ns. length ns ≡ suc k)
with_head None rest k h = tt
with_head (Some n) None k h = tt
with_head (Some n) (Some ns) k h = ap suc h

count : (xs : List Value) → IfSome (numbers_of (items_view xs)) (λ ns. length ns ≡ length xs)
count [] = refl
count (x ∷ xs) = with_head (u64_of (view x)) (numbers_of (items_view xs)) (length xs) (count xs)

at_most-none : (limit : ℕ) (xs : List ℕ) → limit < length xs → at_most limit xs ≡ None
at_most-none limit xs h = grind arith

at_most-some : (limit : ℕ) (xs : List ℕ) → length xs ≤ limit → at_most limit xs ≡ Some xs
at_most-some limit xs h = grind arith

none_of : (size k : ℕ) (o : Option (List ℕ)) → size < k → IfSome o (λ ns. length ns ≡ k) → option_map (padded size) (option_and_then (at_most size) o) ≡ None
none_of size k None h many = refl
none_of size k (Some ns) h many = rw (at_most-none size ns (omega arith)) refl

pub none_if_many : (size : ℕ) (xs : List Value) → size < length xs → None ≡ option_map (padded size) (option_and_then (at_most size) (numbers_of (items_view xs)))
none_if_many size xs h = sym (none_of size (length xs) (numbers_of (items_view xs)) h (count xs))

fused : (o : Option (List ℕ)) (front next : List ℕ) (n : ℕ) → next ≡ front ++ n ∷ [] → option_map (λ (rest : List ℕ). front ++ rest) (option_map (λ (ns : List ℕ). n ∷ ns) o) ≡ option_map (λ (rest : List ℕ). next ++ rest) o
fused None front next n e = refl
fused (Some ns) front next n e = ap Some (rw e (sym (append_assoc front (n ∷ []) ns)))

-- what is read so far, and what is left of the items
abbrev pub IsReadTo : List Value → List ℕ → ℕ → Type 0
IsReadTo items ns i =
    numbers_of (items_view items) ≡ option_map (λ (rest : List ℕ). take i ns ++ rest) (numbers_of (items_view (drop i items)))

pub read_next : (items : List Value) (ns : List ℕ) (i n : ℕ) (x : Value) → drop i items ≡ x ∷ drop (i + 1) items → u64_of (view x) ≡ Some n → i < length ns → IsReadTo items ns i → IsReadTo items (set ns i n) (i + 1)
read_next items ns i n x split number inside h =
    let front : take (i + 1) (set ns i n) ≡ take i ns ++ n ∷ [] = grind (arith, common_steps) in
    let begun = rw (split, number) at h in
    begun ∙ fused (numbers_of (items_view (drop (i + 1) items))) (take i ns) (take (i + 1) (set ns i n)) n front

pub zeros_next : (size i n : ℕ) (ns : List ℕ) → i < size → length ns ≡ size → drop i ns ≡ replicate (size - i) 0 → drop (i + 1) (set ns i n) ≡ replicate (size - (i + 1)) 0
zeros_next size i n ns inside full zeros =
    let kept : drop (i + 1) (set ns i n) ≡ drop 1 (drop i ns) = drop-set-lt (i + 1) ns i n (omega arith) ∙ sym (drop-drop 1 i ns) in
    let count : size - i - 1 ≡ size - (i + 1) = omega arith in
    kept ∙ ap (drop 1) zeros ∙ drop-replicate {X = ℕ} 1 (size - i) 0 ∙ ap (λ (k : ℕ). replicate k 0) count

pub read_all : (size : ℕ) (items : List Value) (ns : List ℕ) (i : ℕ) → drop i items ≡ [] → i ≤ size → length ns ≡ size → drop i ns ≡ replicate (size - i) 0 → IsReadTo items ns i → Some ns ≡ option_map (padded size) (option_and_then (at_most size) (numbers_of (items_view items)))
read_all size items ns i end few full zeros h =
    let begun = rw end at h in
    let front : length (take i ns) ≡ i = grind (arith, common_steps) in
    let whole : take i ns ++ drop i ns ≡ ns = grind (arith, common_steps) in
    let all : numbers_of (items_view items) ≡ Some (take i ns) = begun ∙ ap Some (grind (arith, common_steps)) in
    rw (all, at_most-some size (take i ns) (omega arith), front, ← zeros, whole) refl
