-- The tokens of members of an object, and of entries in a list.
use Rattle.std.proofs.Common.{◌≡◌, ◌≤◌, ℕ, zero, suc, ◌+◌, List, [], ◌∷◌, ◌++◌, map, length, take, take_all, flat_map, append_assoc, append-nil, Some, None, refl, sym, ap, subst, ◌∙◌, Result, Ok, Err, OnOk, rules, arith}
use Rattle.std.specs.List.{slice_get}
use Rattle.json.specs.Token.{Token, begin_array, end_object, end_array}
use Rattle.json.specs.Tree.{items_tokens}
use Rattle.json.specs.Written.{Written, Writes}
use Rattle.serde_json.specs.Data.{Data, array}
use Rattle.serde_json.specs.View.{items_of}
use Rattle.serde_json.specs.Written.{items_outline}
use Rattle.service.specs.Asked.{ResponseData}
use Rattle.service_profile.specs.Events.{EntryData}
use Rattle.answers.specs.Entries.{entry_data}
use Rattle.answers.specs.Listing.{service_data, service_list}
use Rattle.answers.specs.Texts.{Field}
use Rattle.answers.specs.Writing.{Adds, tokens_of, field_tokens, last_tokens}

-- they are those of each member, and the bracket
pub object_tokens : (fields : List Field) → last_tokens fields ≡ flat_map field_tokens fields ++ end_object ∷ []
object_tokens [] = refl
object_tokens (f ∷ fs) = ap (λ ts. field_tokens f ++ ts) (object_tokens fs) ∙ sym (append_assoc (field_tokens f) (flat_map field_tokens fs) (end_object ∷ []))

-- they are those of each entry, and the bracket
pub entries_tokens : (lines : List EntryData) → items_tokens (items_outline (items_of (map entry_data lines))) ≡ flat_map (λ line. tokens_of (entry_data line)) lines ++ end_array ∷ []
entries_tokens [] = refl
entries_tokens (line ∷ lines) = ap (λ ts. tokens_of (entry_data line) ++ ts) (entries_tokens lines) ∙ sym (append_assoc (tokens_of (entry_data line)) (flat_map (λ l. tokens_of (entry_data l)) lines) (end_array ∷ []))

-- they are those of each value, and the bracket
pub values_tokens : (values : List Data) → items_tokens (items_outline (items_of values)) ≡ flat_map tokens_of values ++ end_array ∷ []
values_tokens [] = refl
values_tokens (value ∷ values) = ap (λ ts. tokens_of value ++ ts) (values_tokens values) ∙ sym (append_assoc (tokens_of value) (flat_map tokens_of values) (end_array ∷ []))

-- the tokens of the first services
abbrev pub first_services : ℕ → List (List ℕ) → List ResponseData → List Token
first_services n names given = flat_map tokens_of (service_list (take n names) (take n given))

-- one service more
pub service_more : (n : ℕ) (names : List (List ℕ)) (given : List ResponseData) (name : List ℕ) (answer : ResponseData) → slice_get names n ≡ Some name → slice_get given n ≡ Some answer
    → first_services (suc n) names given ≡ first_services n names given ++ tokens_of (service_data name answer)
service_more n [] given name answer is answers = let never : None ≡ Some name = is in cc
service_more n (x ∷ names) [] name answer is answers = let never : None ≡ Some answer = answers in cc
service_more zero (x ∷ names) (r ∷ given) name answer is answers =
    let same : x ≡ name = cc in
    let told : r ≡ answer = cc in
    append-nil (tokens_of (service_data x r)) ∙ (λ i. tokens_of (service_data (same i) (told i)))
service_more (suc n) (x ∷ names) (r ∷ given) name answer is answers =
    ap (λ ts. tokens_of (service_data x r) ++ ts) (service_more n names given name answer is answers)
    ∙ sym (append_assoc (tokens_of (service_data x r)) (first_services n names given) (tokens_of (service_data name answer)))

-- what is written by turns
pub adds_then : (x y z : Written) (a b : List Token) → Adds a x y → Adds b y z → Adds (a ++ b) x z
adds_then x y z a b p q = (q.0 ∙ p.0, q.1 ∙ ap (λ ts. ts ++ b) p.1 ∙ append_assoc x.tokens a b)

-- a last token
pub adds_last : {E : Type 0} (r : Result (Unit {0}) E) (x y z : Written) (a : List Token) (t : Token) → Adds a x y → Writes r y z t → OnOk r (Adds (a ++ t ∷ []) x z)
adds_last (Ok u) x y z a t p w = (w.room.0 ∙ p.0, w.ok ∙ ap (λ ts. ts ++ t ∷ []) p.1 ∙ append_assoc x.tokens a (t ∷ []))
adds_last (Err e) x y z a t p w = search rules

-- what is written by turns, where the last turn may fail
pub adds_end : {E : Type 0} (r : Result (Unit {0}) E) (x y z : Written) (a b : List Token) → Adds a x y → OnOk r (Adds b y z) → OnOk r (Adds (a ++ b) x z)
adds_end (Ok u) x y z a b p q = adds_then x y z a b p q
adds_end (Err e) x y z a b p q = search rules

-- one service more is written
pub services_then : (n : ℕ) (names : List (List ℕ)) (given : List ResponseData) (name : List ℕ) (answer : ResponseData) (x y z : Written) → slice_get names n ≡ Some name → slice_get given n ≡ Some answer
    → Adds (begin_array ∷ first_services n names given) x y → Adds (tokens_of (service_data name answer)) y z → Adds (begin_array ∷ first_services (n + 1) names given) x z
services_then n names given name answer x y z is answers before added =
    let next : n + 1 ≡ suc n = omega arith in
    subst (λ (ts : List Token). Adds (begin_array ∷ ts) x z) (sym (ap (λ m. first_services m names given) next ∙ service_more n names given name answer is answers))
    (adds_then x y z (begin_array ∷ first_services n names given) (tokens_of (service_data name answer)) before added)

-- all of them are, and the bracket
pub services_end : {E : Type 0} (r : Result (Unit {0}) E) (n : ℕ) (names : List (List ℕ)) (given : List ResponseData) (x y z : Written) → length names ≤ n → length given ≤ n
    → Adds (begin_array ∷ first_services n names given) x y → Writes r y z end_array → OnOk r (Adds (tokens_of (array (items_of (service_list names given)))) x z)
services_end r n names given x y z past beyond before written =
    let each : List Token = flat_map tokens_of (service_list names given) in
    let whole : first_services n names given ≡ each = λ i. flat_map tokens_of (service_list (take_all n names past i) (take_all n given beyond i)) in
    let all : Adds (begin_array ∷ each) x y = subst (λ (ts : List Token). Adds (begin_array ∷ ts) x y) whole before in
    subst (λ (ts : List Token). OnOk r (Adds (begin_array ∷ ts) x z)) (sym (values_tokens (service_list names given))) (adds_last r x y z (begin_array ∷ each) end_array all written)
