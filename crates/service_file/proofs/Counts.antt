-- A file that can be used has 1 to 64 workers, and 1 to 64 services.
use Rattle.std.proofs.Common.{◌≡◌, ◌∙◌, ◌+◌, ℕ, suc, List, [], ◌∷◌, ◌++◌, length, Bool, true, false, Option, Some, None, option_and_then, if◌then◌else◌, ap, subst, refl, arith}
use Rattle.std.specs.Prelude.{IfSome, codes, ⊤}
use Rattle.std.specs.List.{list_any}
use Rattle.serde_json.specs.Data.{Data, Items, no_items, item}
use Rattle.serde_json.specs.Find.{get, as_array}
use Rattle.texts.specs.JsonText.{json_of}
use Rattle.requests.specs.Keys.{has_known_keys}
use Rattle.requests.specs.Values.{number_at, text_at}
use Rattle.service_file.specs.declared.settings.ServiceSettings.{ServiceSettings}
use Rattle.service_file.specs.declared.settings.Settings.{Settings}
use Rattle.service_file.specs.Files.{ServiceData, is_count, kept_if, is_named, added, service_of, with_service, services_after, items_length, services_of, services_at, workers_at, keeper_at, open_at, tickets_at, logging_at, file_of, file_in, is_file_key}
use Rattle.service_file.specs.Settled.{AreServices, IsRead, HasCounts}

always : {A : Type 0} (o : Option A) → IfSome o (λ a. ⊤)
always None = tt
always (Some a) = tt

then_if : {A B : Type 0} (o : Option A) (f : A → Option B) (P : A → Type 0) (Q : B → Type 0) → IfSome o P → ((a : A) → P a → IfSome (f a) Q) → IfSome (option_and_then f o) Q
then_if None f P Q p each = tt
then_if (Some a) f P Q p each = each a p

where_true : {A : Type 0} (test : Bool) (o : Option A) (P : A → Type 0) → IfSome o P → IfSome (if test then o else None) P
where_true true o P p = p
where_true false o P p = tt

kept : {A : Type 0} (test : A → Bool) (a : A) (b : Bool) → test a ≡ b → IfSome (if b then Some a else None) (λ x. test x ≡ true)
kept test a true is = is
kept test a false is = tt

workers_count : (d : Data) → IfSome (workers_at d) (λ n. is_count n ≡ true)
workers_count d = then_if (number_at (codes "workers") d) (kept_if is_count) (λ n. ⊤) (λ n. is_count n ≡ true) (always (number_at (codes "workers") d)) (λ n any. kept is_count n (is_count n) refl)

length_more : {A : Type 0} (xs : List A) (x : A) → length (xs ++ x ∷ []) ≡ suc (length xs)
length_more [] x = refl
length_more (y ∷ xs) x = ap suc (length_more xs x)

added_one : (services : List ServiceData) (service : ServiceData) (there : Bool) → IfSome (if there then None else Some (services ++ service ∷ [])) (λ more. length more ≡ suc (length services))
added_one services service true = tt
added_one services service false = length_more services service

with_one : (services : List ServiceData) (d : Data) → IfSome (with_service services d) (λ more. length more ≡ suc (length services))
unfolding with_service
with_one services d = then_if (service_of d) (added services) (λ s. ⊤) (λ more. length more ≡ suc (length services)) (always (service_of d)) (λ s any. added_one services s (list_any (is_named s.name) services))

if_some_as : {A : Type 0} (o : Option A) (P Q : A → Type 0) → ((a : A) → P a → Q a) → IfSome o P → IfSome o Q
if_some_as None P Q step p = tt
if_some_as (Some a) P Q step p = step a p

all_added : (services : List ServiceData) (ds : Items) → IfSome (services_after services ds) (λ after. length after ≡ length services + items_length ds)
all_added services no_items = omega arith
all_added services (item d ds) =
    then_if (with_service services d) (λ more. services_after more ds) (λ more. length more ≡ suc (length services)) (λ after. length after ≡ length services + items_length (item d ds)) (with_one services d)
    (λ more one. if_some_as (services_after more ds) (λ after. length after ≡ length more + items_length ds) (λ after. length after ≡ length services + items_length (item d ds)) (λ after all. omega (arith, one, all)) (all_added more ds))

services_count : (ds : Items) → IfSome (services_of ds) (λ services. is_count (length services) ≡ true)
services_count ds =
    then_if (kept_if (λ xs. is_count (items_length xs)) ds) (services_after []) (λ xs. is_count (items_length xs) ≡ true) (λ services. is_count (length services) ≡ true)
    (kept (λ xs. is_count (items_length xs)) ds (is_count (items_length ds)) refl)
    (λ xs count. if_some_as (services_after [] xs) (λ after. length after ≡ 0 + items_length xs) (λ services. is_count (length services) ≡ true) (λ after all. (let same : length after ≡ items_length xs = omega (arith, all) in ap is_count same ∙ count)) (all_added [] xs))

services_at_count : (d : Data) → IfSome (services_at d) (λ services. is_count (length services) ≡ true)
services_at_count d =
    then_if (option_and_then as_array (get (codes "services") d)) services_of (λ ds. ⊤) (λ services. is_count (length services) ≡ true) (always (option_and_then as_array (get (codes "services") d))) (λ ds any. services_count ds)

file_of_count : (d : Data) → IfSome (file_of d) (λ file. (is_count file.workers ≡ true) × (is_count (length file.services) ≡ true))
unfolding file_of
file_of_count d =
    where_true (has_known_keys is_file_key d) _ _ (then_if (text_at (codes "listen") d) _ (λ t. ⊤) _ (always (text_at (codes "listen") d))
    (λ listen any. then_if (workers_at d) _ (λ n. is_count n ≡ true) _ (workers_count d)
    (λ workers counted. then_if (keeper_at d) _ (λ k. ⊤) _ (always (keeper_at d))
    (λ keeper either. then_if (number_at (codes "connections") d) _ (λ n. ⊤) _ (always (number_at (codes "connections") d))
    (λ connections free. then_if (open_at d) _ (λ n. ⊤) _ (always (open_at d))
    (λ most_open within. then_if (tickets_at d) _ (λ t. ⊤) _ (always (tickets_at d))
    (λ tickets numbered. then_if (logging_at d) _ (λ l. ⊤) _ (always (logging_at d))
    (λ logging told. then_if (services_at d) _ (λ services. is_count (length services) ≡ true) _ (services_at_count d)
    (λ services many. (counted, many))))))))))

file_in_count : (text : List ℕ) → IfSome (file_in text) (λ file. (is_count file.workers ≡ true) × (is_count (length file.services) ≡ true))
file_in_count text = then_if (json_of text) file_of (λ d. ⊤) (λ file. (is_count file.workers ≡ true) × (is_count (length file.services) ≡ true)) (always (json_of text)) (λ d any. file_of_count d)

if_some_at : {A : Type 0} (o : Option A) (P : A → Type 0) (a : A) → o ≡ Some a → IfSome o P → P a
if_some_at o P a is p = subst (λ x. IfSome x P) is p

as_many : (services : List ServiceSettings) (given : List ServiceData) → AreServices services given → length services ≡ length given
as_many [] [] are = refl
as_many [] (g ∷ given) are = absurd are
as_many (s ∷ services) [] are = absurd are
as_many (s ∷ services) (g ∷ given) are = ap suc (as_many services given are.1)

-- the settings that are read of a text
pub has_counts : (text : List ℕ) (settings : Settings) → IsRead text (Some settings) → HasCounts settings
has_counts text settings (file, is, are) =
    (let counts = if_some_at (file_in text) (λ f. (is_count f.workers ≡ true) × (is_count (length f.services) ≡ true)) file is (file_in_count text) in
    (ap is_count are.threads ∙ counts.0, ap is_count (as_many settings.services.items file.services are.served) ∙ counts.1))
