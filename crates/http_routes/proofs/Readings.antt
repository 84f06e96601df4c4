-- The route that the search finds is the one that the segments of the path name.
use Rattle.std.proofs.Common.{◌≡◌, ℕ, zero, suc, ◌<◌, get_or, take, List, [], ◌∷◌, ◌++◌, Bool, true, false, cond, ◌&&◌, ltb, ◌==◌, Option, Some, None, option_map, map, inl, inr, refl, ap, sym, subst, ◌∙◌, arith, codes, append-nil}
use Rattle.std.proofs.lemmas.Bool.{ltb-true}
use Rattle.std.proofs.lemmas.Bool.Decides.{nat_tests}
use Rattle.matchit.specs.Rows.{param_token}
use Rattle.matchit.specs.Router.{RouteOf}
use Rattle.matchit.specs.Seek.{first, has_slash}
use Rattle.http_routes.specs.declared.table.Route.{Route}
use Rattle.http_routes.specs.declared.table.Route.TheVariants as route
use Rattle.http_routes.specs.Finding.{Asked, number_at, asked_of, asked_at, finds}
use Rattle.http_routes.specs.Paths.{path_of, segments}
use Rattle.http_routes.specs.Patterns.{IsSegment, HasService, HasNumber, IsRead, IsBytes}
use Rattle.http_routes.specs.Routing.{Row, row, row_of, all_routes, routes, route_of}
use Rattle.http_routes.specs.Table.{word_of}
use Rattle.std.specs.List.{slice_split, onto_first, position_or_len}
use Rattle.std.specs.Prelude.{slice_get}
use Rattle.std.specs.Str.{is_utf8}
use Rattle.http_routes.proofs.Plain.{is_plain, is_slash, IsPlain, which_route, never_unnamed}
use Rattle.http_routes.proofs.Searches.{Fits, HasRow, first-reads}

pub and-both : (a b : Bool) → a && b ≡ true → (a ≡ true) × (b ≡ true)
and-both true b e = (refl, e)
and-both false b e = absurd (let never : false ≡ true = e in cc)

behind : (x : ℕ) (path rest w last : List ℕ) → path ≡ x ∷ rest → rest ≡ w ++ last → path ≡ x ∷ (w ++ last)
behind x path rest w last e f = e ∙ ap (λ l. x ∷ l) f

-- a pattern's bytes stand for themselves
fits-text : (w t path : List ℕ) → is_plain w ≡ true → Fits (w ++ t) path → (rest : List ℕ) × (path ≡ w ++ rest) × Fits t rest
fits-text [] t path plain fits = (path, refl, fits)
fits-text (x ∷ w) t path plain fits =
    let both = and-both (ltb x 256) (is_plain w) plain in
    let small : x < 256 = ltb-true x 256 both.0 in
    let byte : (x == 256) ≡ false = grind (arith, nat_tests) in
    let byte_too : (x == 257) ≡ false = grind (arith, nat_tests) in
    let head = rw (byte, byte_too) at fits in
    let tail = fits-text w t head.0 both.1 head.2 in
    (tail.0, behind x path head.0 w tail.0 head.1 tail.1, tail.2)

-- a path under a service
under : (t path : List ℕ) → Fits (codes "/v1/services/" ++ (param_token ∷ t)) path
    → (service : List ℕ) × (rest : List ℕ) × (path ≡ codes "/v1/services/" ++ (service ++ rest)) × IsSegment service × Fits t rest
under t path fits =
    let below = fits-text (codes "/v1/services/") (param_token ∷ t) path refl fits in
    let s = below.2 in
    (s.0, s.1, below.1 ∙ ap (λ l. codes "/v1/services/" ++ l) s.2, s.3, s.4)

abbrev Asks : List ℕ → Route → Type 0
Asks path r = (asked : Asked) × (asked.route ≡ r) × IsRead path asked

-- a route without a number
plain-asks : (r : Route) (path : List ℕ) → IsPlain r → Fits (row r).0 path → Asks path r
plain-asks r path is fits =
    let found = under (47 ∷ word_of r) path fits in
    let spelled = subst (λ w. Fits (47 ∷ w) found.1) (sym (append-nil (word_of r))) found.4 in
    let word = fits-text (47 ∷ word_of r) [] found.1 is.plain spelled in
    let end : found.1 ≡ 47 ∷ (word_of r ++ []) = word.1 ∙ ap (λ l. 47 ∷ (word_of r ++ l)) word.2 in
    (record { route = r; service = Some found.0; number = None }, refl, (found.2 ∙ ap (λ l. codes "/v1/services/" ++ (found.0 ++ l)) end, is.names found.0 found.3, is.none))

journal-asks : (path : List ℕ) → Fits (codes "/v1/services/" ++ (param_token ∷ (codes "/journal/" ++ (param_token ∷ [])))) path → Asks path route.Journal
journal-asks path fits =
    let found = under (codes "/journal/" ++ (param_token ∷ [])) path fits in
    let word = fits-text (codes "/journal/") (param_token ∷ []) found.1 refl found.4 in
    let last = word.2 in
    let number : word.0 ≡ last.0 = last.2 ∙ ap (λ l. last.0 ++ l) last.4 ∙ append-nil last.0 in
    let end : found.1 ≡ codes "/journal/" ++ last.0 = word.1 ∙ ap (λ l. codes "/journal/" ++ l) number in
    (record { route = route.Journal; service = Some found.0; number = Some last.0 }, refl, (found.2 ∙ ap (λ l. codes "/v1/services/" ++ (found.0 ++ l)) end, found.3, last.3))

services-asks : (path : List ℕ) → Fits (codes "/v1/services") path → Asks path route.Services
services-asks path fits =
    let word = fits-text (codes "/v1/services") [] path refl fits in
    (record { route = route.Services; service = None; number = None }, refl, (word.1 ∙ ap (λ l. codes "/v1/services" ++ l) word.2, tt, tt))

-- a path that fits the row of a route asks for it
row-asks : (r : Route) (path : List ℕ) → Fits (row_of r).0 path → Asks path (row_of r).1.value
row-asks r path fits =
    elim (which_route r) [
      | inl is ↦ rw is (services-asks path (subst (λ q. Fits (row_of q).0 path) is fits))
      | inr other ↦ elim other [
        | inl is ↦ rw is.its_row (plain-asks r path is (subst (λ (x : Row). Fits x.0 path) is.its_row fits))
        | inr is ↦ rw is (journal-asks path (subst (λ q. Fits (row_of q).0 path) is fits))
      ]
    ]

rows-ask : (all : List Route) (path t : List ℕ) (r : RouteOf Route) → HasRow t r (map row_of all) → Fits t path → Asks path r.value
rows-ask (q ∷ all) path t r (inl same) fits = subst (λ (l : RouteOf Route). Asks path l.value) same.1 (row-asks q path (subst (λ u. Fits u path) (sym same.0) fits))
rows-ask (q ∷ all) path t r (inr has) fits = rows-ask all path t r has fits
rows-ask [] path t r has fits = absurd has

route-asks : (path : List ℕ) (r : RouteOf Route) → IsBytes path → first routes path ≡ Some r → Asks path r.value
unfolding routes
route-asks path r bytes e =
    let found = first-reads path routes r bytes e in
    rows-ask all_routes path found.0 r found.1 found.2

-- ---- segments

pub byte-of : (c : Bool) (rest : Bool) → cond c true rest ≡ false → (c ≡ false) × (rest ≡ false)
byte-of true rest e = absurd (let never : true ≡ false = e in cc)
byte-of false rest e = (refl, e)

split-segment : (s ys : List ℕ) → has_slash s ≡ false → slice_split is_slash (s ++ (47 ∷ ys)) ≡ s ∷ slice_split is_slash ys
split-segment [] ys whole = refl
split-segment (b ∷ s) ys whole =
    let both = byte-of (b == 47) (has_slash s) whole in
    rw (both.0, split-segment s ys both.1) refl

split-last : (s : List ℕ) → has_slash s ≡ false → slice_split is_slash s ≡ s ∷ []
split-last [] whole = refl
split-last (b ∷ s) whole =
    let both = byte-of (b == 47) (has_slash s) whole in
    rw (both.0, split-last s both.1) refl

-- the segments of a route's path
segments-under : (s rest : List ℕ) → IsSegment s → segments (codes "/v1/services/" ++ (s ++ (47 ∷ rest))) ≡ [] ∷ codes "v1" ∷ codes "services" ∷ s ∷ slice_split is_slash rest
segments-under s rest is = ap (λ l. [] ∷ onto_first 118 (onto_first 49 ([] ∷ l))) (ap (λ l. onto_first 115 (onto_first 101 (onto_first 114 (onto_first 118 (onto_first 105 (onto_first 99 (onto_first 101 (onto_first 115 ([] ∷ l))))))))) (split-segment s rest is.whole))

abbrev Places : List ℕ → Asked → Type 0
Places path asked = (slice_get (segments path) 3 ≡ asked.service) × (slice_get (segments path) 5 ≡ asked.number)

abbrev pub asks : Route → Option (List ℕ) → Option (List ℕ) → Asked
asks r service number = record { route = r; service = service; number = number }

places-plain : (r : Route) (service path word : List ℕ) → IsSegment service → path ≡ codes "/v1/services/" ++ (service ++ (47 ∷ word)) → slice_split is_slash word ≡ word ∷ [] → Places path (asks r (Some service) None)
places-plain r service path word is e whole =
    let parts = ap segments e ∙ segments-under service word is ∙ ap (λ l. [] ∷ codes "v1" ∷ codes "services" ∷ service ∷ l) whole in
    (ap (λ l. slice_get l 3) parts, ap (λ l. slice_get l 5) parts)

journal-places : (service number path : List ℕ) → IsRead path (asks route.Journal (Some service) (Some number)) → Places path (asks route.Journal (Some service) (Some number))
journal-places service number path read =
    let rest : slice_split is_slash (codes "journal/" ++ number) ≡ codes "journal" ∷ number ∷ [] =
    ap (λ l. onto_first 106 (onto_first 111 (onto_first 117 (onto_first 114 (onto_first 110 (onto_first 97 (onto_first 108 ([] ∷ l)))))))) (split-last number read.2.whole) in
    let parts = ap segments read.0 ∙ segments-under service (codes "journal/" ++ number) read.1 ∙ ap (λ l. [] ∷ codes "v1" ∷ codes "services" ∷ service ∷ l) rest in
    (ap (λ l. slice_get l 3) parts, ap (λ l. slice_get l 5) parts)

places-of : (r : Route) (service number : Option (List ℕ)) (path : List ℕ) → IsRead path (asks r service number) → Places path (asks r service number)
places-of r None None path read = (ap (λ p. slice_get (segments p) 3) read.0, ap (λ p. slice_get (segments p) 5) read.0)
places-of r None (Some number) path read =
    elim (which_route r) [
      | inl is ↦ absurd (subst (λ q. HasNumber q (Some number)) is read.2)
      | inr other ↦ absurd (never_unnamed r other read.1)
    ]
places-of r (Some service) None path read =
    elim (which_route r) [
      | inl is ↦ absurd (subst (λ q. HasService q (Some service)) is read.1)
      | inr other ↦ elim other [
        | inl is ↦ places-plain r service path (word_of r) (is.named service read.1) (read.0 ∙ ap (λ w. codes "/v1/services/" ++ (service ++ (47 ∷ w))) (append-nil (word_of r))) is.whole
        | inr is ↦ absurd (subst (λ q. HasNumber q None) is read.2)
      ]
    ]
places-of r (Some service) (Some number) path read =
    elim (which_route r) [
      | inl is ↦ absurd (subst (λ q. HasService q (Some service)) is read.1)
      | inr other ↦ elim other [
        | inl is ↦ absurd (is.some number read.2)
        | inr is ↦ subst (λ q. Places path (asks q (Some service) (Some number))) (sym is) (journal-places service number path (subst (λ q. IsRead path (asks q (Some service) (Some number))) is read))
      ]
    ]

-- a path that is read so asks for that
pub read-asked : (path : List ℕ) (asked : Asked) → IsRead path asked → asked_of path asked.route ≡ asked
read-asked path asked read =
    let places = places-of asked.route asked.service asked.number path read in
    ap (λ service. asks asked.route service (slice_get (segments path) 5)) places.0
    ∙ ap (λ number. asks asked.route asked.service number) places.1

by-first : (path : List ℕ) (asked : Asked) (found : Option (RouteOf Route)) → IsBytes path → first routes path ≡ found → option_map (asked_of path) (option_map (λ (r : RouteOf Route). r.value) found) ≡ Some asked → IsRead path asked
by-first path asked None bytes f e = let never : None ≡ Some asked = e in cc
by-first path asked (Some r) bytes f e =
    let read = route-asks path r bytes f in
    let other : asked_of path r.value ≡ read.0 = ap (asked_of path) (sym read.1) ∙ read-asked path read.0 read.2 in
    let both : Some asked ≡ Some read.0 = sym e ∙ ap (λ a. Some a) other in
    let same : asked ≡ read.0 = cc in
    let P : Asked → Type 0 = λ a. IsRead path a in
    subst P (sym same) read.2

-- what is found in a path is what its segments name
pub asked_at-read : (path : List ℕ) (asked : Asked) → IsBytes path → asked_at path ≡ Some asked → IsRead path asked
asked_at-read path asked bytes e =
    elim (is_utf8 path) as (λ c. option_map (asked_of path) (cond c (option_map (λ (r : RouteOf Route). r.value) (first routes path)) None) ≡ Some asked → IsRead path asked) [
      | true ↦ λ g. by-first path asked (first routes path) bytes refl g
      | false ↦ λ g. let never : None ≡ Some asked = g in cc
    ] e

-- ---- bytes

pub bytes-each : (xs : List ℕ) → ((i : ℕ) → get_or xs i 0 < 256) → IsBytes xs
bytes-each [] h = tt
bytes-each (x ∷ xs) h = (h 0, bytes-each xs (λ i. h (suc i)))

bytes-take : (n : ℕ) (xs : List ℕ) → IsBytes xs → IsBytes (take n xs)
bytes-take zero xs h = tt
bytes-take (suc n) [] h = tt
bytes-take (suc n) (x ∷ xs) h = (h.0, bytes-take n xs h.1)

-- what is found in parts
asked_at-parts : (path : List ℕ) (r : Route) (service number : Option (List ℕ)) → Some r ≡ route_of path → service ≡ slice_get (segments path) 3 → number ≡ slice_get (segments path) 5 → asked_at path ≡ Some (asks r service number)
asked_at-parts path r service number is_route is_service is_number =
    ap (option_map (asked_of path)) (sym is_route)
    ∙ ap (λ s. Some (asks r s (slice_get (segments path) 5))) (sym is_service)
    ∙ ap (λ n. Some (asks r service n)) (sym is_number)

pub target-read : (target path : List ℕ) (r : Route) (service number : Option (List ℕ)) → path ≡ path_of target → IsBytes target → Some r ≡ route_of path → service ≡ slice_get (segments path) 3 → number ≡ slice_get (segments path) 5 → IsRead (path_of target) (asks r service number)
target-read target path r service number same bytes is_route is_service is_number =
    let P : List ℕ → Type 0 = λ p. IsRead p (asks r service number) in
    let Q : List ℕ → Type 0 = λ p. IsBytes p in
    let within = subst Q (sym same) (bytes-take (position_or_len (λ b. b == 63) target) target bytes) in
    subst P same (asked_at-read path (asks r service number) within (asked_at-parts path r service number is_route is_service is_number))

-- ---- numbers

-- the path of a route has a sixth segment only where an entry's number stands there
numbered : (r : Route) (path : List ℕ) (n : Option (List ℕ)) → n ≡ slice_get (segments path) 5 → HasNumber r n → number_at r path ≡ n
numbered route.Journal path n is has = sym is
numbered route.Services path None is has = refl
numbered route.Services path (Some number) is has = absurd has
numbered route.Acquire path None is has = refl
numbered route.Acquire path (Some number) is has = absurd has
numbered route.Report path None is has = refl
numbered route.Report path (Some number) is has = absurd has
numbered route.Release path None is has = refl
numbered route.Release path (Some number) is has = absurd has
numbered route.Transition path None is has = refl
numbered route.Transition path (Some number) is has = absurd has
numbered route.Reset path None is has = refl
numbered route.Reset path (Some number) is has = absurd has
numbered route.Cut path None is has = refl
numbered route.Cut path (Some number) is has = absurd has
numbered route.Roll path None is has = refl
numbered route.Roll path (Some number) is has = absurd has
numbered route.Program path None is has = refl
numbered route.Program path (Some number) is has = absurd has
numbered route.State path None is has = refl
numbered route.State path (Some number) is has = absurd has

pub target-number : (target path : List ℕ) (r : Route) → path ≡ path_of target → IsBytes target → Some r ≡ route_of path → number_at r path ≡ slice_get (segments path) 5
target-number target path r same bytes is_route =
    let read = target-read target path r (slice_get (segments path) 3) (slice_get (segments path) 5) same bytes is_route refl refl in
    numbered r path (slice_get (segments path) 5) refl read.2

pub target-found : (target path : List ℕ) (r : Route) (service number : Option (List ℕ)) → path ≡ path_of target → Some r ≡ route_of path → service ≡ slice_get (segments path) 3 → number ≡ slice_get (segments path) 5 → Some (asks r service number) ≡ finds target
target-found target path r service number same is_route is_service is_number = sym (asked_at-parts path r service number is_route is_service is_number) ∙ ap asked_at same
