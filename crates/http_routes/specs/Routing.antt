-- The routes as `matchit` keeps them, and which one its search finds.
use Rattle.std.specs.Prelude.{ℕ, List, [], ◌∷◌, ◌++◌, map, Option, None, option_map, if◌then◌else◌, codes}
use Rattle.std.specs.Str.{is_utf8}
use Rattle.matchit.specs.Rows.{RowsOf, param_token}
use Rattle.matchit.specs.Router.{RouteOf}
use Rattle.matchit.specs.Seek.{first}
use Rattle.http_routes.specs.declared.table.Route.{Route}
use Rattle.http_routes.specs.declared.table.Route.TheVariants as route
use Rattle.http_routes.specs.Table.{word_of}

abbrev pub Row : Type 0
Row = List ℕ × RouteOf Route

-- a route below a service: the pattern with a parameter for the service, its text, and where the parameter's name stands in it
abbrev pub row : Route → Row
row r =
    let pattern = codes "/v1/services/" ++ param_token ∷ codes "/" ++ word_of r in
    (pattern, record { pattern = pattern; text = codes "/v1/services/{service}/" ++ word_of r; names = (14, 21) ∷ []; value = r })

-- the journal has a second parameter, the number of an entry
abbrev pub journal_row : Row
journal_row =
    let pattern = codes "/v1/services/" ++ param_token ∷ codes "/journal/" ++ param_token ∷ [] in
    (pattern, record { pattern = pattern; text = codes "/v1/services/{service}/journal/{from}"; names = (14, 21) ∷ (32, 36) ∷ []; value = route.Journal })

-- the list of services has none
abbrev pub services_row : Row
services_row = (codes "/v1/services", record { pattern = codes "/v1/services"; text = codes "/v1/services"; names = []; value = route.Services })

abbrev pub row_of : Route → Row
row_of route.Services = services_row
row_of route.Journal = journal_row
row_of other = row other

-- the eleven routes, in the order of their patterns, by which one comes behind those that it begins
abbrev pub all_routes : List Route
all_routes = route.Acquire ∷ route.Cut ∷ route.Journal ∷ route.Program ∷ route.Release ∷ route.Report ∷ route.Reset ∷ route.Roll ∷ route.State ∷ route.Transition ∷ route.Services ∷ []

unfoldable pub routes : RowsOf (RouteOf Route)
routes = map row_of all_routes

-- the route that a path finds; one that is no UTF-8 finds none
abbrev pub route_of : List ℕ → Option Route
route_of path = if is_utf8 path then option_map (λ (r : RouteOf Route). r.value) (first routes path) else None
