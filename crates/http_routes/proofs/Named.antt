-- A path whose segments name a route asks for it.
use Rattle.std.proofs.Common.{◌≡◌, ℕ, ◌<◌, List, [], ◌∷◌, ◌++◌, false, cond, ◌==◌, Option, Some, None, option_map, inl, inr, refl, ap, sym, subst, ◌∙◌, arith, codes, append-nil}
use Rattle.std.specs.Str.{IsUtf8}
use Rattle.std.proofs.lemmas.Str.{is_utf8-from_IsUtf8}
use Rattle.std.proofs.lemmas.Bool.Decides.{nat_tests}
use Rattle.matchit.specs.Rows.{RowsOf}
use Rattle.matchit.specs.Router.{RouteOf}
use Rattle.matchit.specs.Seek.{has_slash, seek, param_step, first}
use Rattle.http_routes.specs.declared.table.Route.{Route}
use Rattle.http_routes.specs.declared.table.Route.TheVariants as route
use Rattle.http_routes.specs.Finding.{Asked, asked_of, asked_at}
use Rattle.http_routes.specs.Patterns.{IsSegment, HasService, HasNumber, IsRead, IsBytes}
use Rattle.http_routes.specs.Routing.{row, journal_row, services_row, routes, route_of}
use Rattle.http_routes.specs.Table.{word_of}
use Rattle.http_routes.proofs.Completeness.{steps, seek-bytes, seek-param, seek-last}
use Rattle.http_routes.proofs.Plain.{word_rows, which_route, never_unnamed}
use Rattle.http_routes.proofs.Readings.{asks, read-asked}

abbrev below : RowsOf (RouteOf Route)
below = steps (codes "/v1/services/") routes

no-byte : (b : ℕ) → b < 256 → (256 == b) ≡ false
no-byte b small = grind (arith, nat_tests)

behind-service : (b : ℕ) (s rest : List ℕ) → b < 256 → has_slash (b ∷ s) ≡ false → seek 0 routes (codes "/v1/services/" ++ ((b ∷ s) ++ (47 ∷ rest))) ≡ seek 0 word_rows rest
unfolding routes
behind-service b s rest small whole =
    seek-bytes (codes "/v1/services/") ((b ∷ s) ++ (47 ∷ rest)) routes refl
    ∙ seek-param below b s rest _ _ _ (rw (no-byte b small) refl) refl refl whole

bytes-behind : (w rest : List ℕ) → IsBytes (w ++ rest) → IsBytes rest
bytes-behind [] rest h = h
bytes-behind (b ∷ w) rest h = bytes-behind w rest h.1

-- a route is found whose row has this value
abbrev Finds : List ℕ → Route → Type 0
Finds path r = (x : RouteOf Route) × (first routes path ≡ Some x) × (x.value ≡ r)

under : (service rest path : List ℕ) → IsBytes path → IsSegment service → path ≡ codes "/v1/services/" ++ (service ++ (47 ∷ rest)) → first routes path ≡ seek 0 word_rows rest
under [] rest path bytes is e = absurd (omega (arith, is.nonempty))
under (b ∷ s) rest path bytes is e =
    let P : List ℕ → Type 0 = λ p. IsBytes p in
    let tail = bytes-behind (codes "/v1/services/") ((b ∷ s) ++ (47 ∷ rest)) (subst P e bytes) in
    ap (λ p. seek 0 routes p) e ∙ behind-service b s rest tail.0 is.whole

number-found : (number : List ℕ) → IsBytes number → IsSegment number → seek 0 word_rows (codes "journal/" ++ number) ≡ Some journal_row.1
number-found [] bytes is = absurd (omega (arith, is.nonempty))
number-found (b ∷ s) bytes is =
    seek-bytes (codes "journal/") (b ∷ s) word_rows refl
    ∙ seek-last b s journal_row.1 (steps (codes "journal/") word_rows) (rw (no-byte b bytes.0) refl) refl refl is.whole

number-bytes : (service number path : List ℕ) → IsBytes path → path ≡ codes "/v1/services/" ++ (service ++ (codes "/journal/" ++ number)) → IsBytes number
number-bytes service number path bytes e =
    let P : List ℕ → Type 0 = λ p. IsBytes p in
    let tail = bytes-behind (codes "/v1/services/") (service ++ (codes "/journal/" ++ number)) (subst P e bytes) in
    bytes-behind (codes "/journal/") number (bytes-behind service (codes "/journal/" ++ number) tail)

services-found : first routes (codes "/v1/services") ≡ Some services_row.1
unfolding routes seek param_step
services-found = refl

finds-named : (r : Route) (service number : Option (List ℕ)) (path : List ℕ) → IsBytes path → IsRead path (asks r service number) → Finds path r
finds-named r None number path bytes read =
    elim (which_route r) [
      | inl is ↦ (services_row.1, ap (λ p. first routes p) read.0 ∙ services-found, sym is)
      | inr other ↦ absurd (never_unnamed r other read.1)
    ]
finds-named r (Some service) None path bytes read =
    elim (which_route r) [
      | inl is ↦ absurd (subst (λ q. HasService q (Some service)) is read.1)
      | inr other ↦ elim other [
        | inl is ↦ ((row r).1, under service (word_of r) path bytes (is.named service read.1) (read.0 ∙ ap (λ w. codes "/v1/services/" ++ (service ++ (47 ∷ w))) (append-nil (word_of r))) ∙ is.found, refl)
        | inr is ↦ absurd (subst (λ q. HasNumber q None) is read.2)
      ]
    ]
finds-named r (Some service) (Some number) path bytes read =
    elim (which_route r) [
      | inl is ↦ absurd (subst (λ q. HasService q (Some service)) is read.1)
      | inr other ↦ elim other [
        | inl is ↦ absurd (is.some number read.2)
        | inr is ↦
            let journal = subst (λ q. IsRead path (asks q (Some service) (Some number))) is read in
            (journal_row.1, under service (codes "journal/" ++ number) path bytes journal.1 journal.0 ∙ number-found number (number-bytes service number path bytes journal.0) journal.2, sym is)
      ]
    ]

pub named-asked : (path : List ℕ) (asked : Asked) → IsBytes path → IsUtf8 path → IsRead path asked → asked_at path ≡ Some asked
named-asked path asked bytes text read =
    let found = finds-named asked.route asked.service asked.number path bytes read in
    let value : Option (RouteOf Route) → Option Route = λ o. option_map (λ (x : RouteOf Route). x.value) o in
    let is_route : route_of path ≡ Some asked.route =
    ap (λ c. cond c (value (first routes path)) None) (is_utf8-from_IsUtf8 path text) ∙ ap value found.1 ∙ ap (λ r. Some r) found.2 in
    ap (option_map (asked_of path)) is_route ∙ ap (λ a. Some a) (read-asked path asked read)
