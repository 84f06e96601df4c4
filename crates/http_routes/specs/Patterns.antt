-- The reading of a path by its segments, in place of a search.
use Rattle.std.specs.Prelude.{◌≡◌, ℕ, ◌<◌, List, [], ◌∷◌, ◌++◌, false, length, Option, Some, None, codes}
use Rattle.matchit.specs.Seek.{has_slash}
use Rattle.http_routes.specs.declared.table.Route.{Route}
use Rattle.http_routes.specs.declared.table.Route.TheVariants as route
use Rattle.http_routes.specs.Finding.{Asked}
use Rattle.http_routes.specs.Table.{word_of}

-- one byte or more, and no slash among them
pub record IsSegment (text : List ℕ) : Type 0 where
  pub nonempty : 0 < length text
  pub whole : has_slash text ≡ false

-- the name of a service stands in each path but that of the list of services
abbrev pub HasService : Route → Option (List ℕ) → Type 0
HasService route.Services None = Unit {0}
HasService route.Services (Some service) = ⊥
HasService other None = ⊥
HasService other (Some service) = IsSegment service

-- the number of an entry stands behind the journal alone
abbrev pub HasNumber : Route → Option (List ℕ) → Type 0
HasNumber route.Journal (Some number) = IsSegment number
HasNumber route.Journal None = ⊥
HasNumber other None = Unit {0}
HasNumber other (Some number) = ⊥

abbrev pub number_text : Option (List ℕ) → List ℕ
number_text None = []
number_text (Some number) = codes "/" ++ number

-- behind "/v1/services" stand "/{service}/" and the route's word; for the journal also "/{from}", and for the list of services nothing
abbrev pub path_for : Route → Option (List ℕ) → Option (List ℕ) → List ℕ
path_for route None number = codes "/v1/services"
path_for route (Some service) number = codes "/v1/services/" ++ (service ++ (codes "/" ++ (word_of route ++ number_text number)))

abbrev pub path_to : Asked → List ℕ
path_to asked = path_for asked.route asked.service asked.number

-- a path asks for this: its segments are those of the route, with a service and a number where the route has them
abbrev pub IsRead : List ℕ → Asked → Type 0
IsRead path asked = (path ≡ path_to asked) × HasService asked.route asked.service × HasNumber asked.route asked.number

-- each is a byte
abbrev pub IsBytes : List ℕ → Type 0
IsBytes [] = Unit {0}
IsBytes (b ∷ bytes) = (b < 256) × IsBytes bytes
