-- What a request's target asks for, and of which service.
use Rattle.std.specs.Prelude.{ℕ, List, Option, None, option_map, slice_get}
use Rattle.http_routes.specs.declared.table.Route.{Route}
use Rattle.http_routes.specs.declared.table.Route.TheVariants as route
use Rattle.http_routes.specs.declared.matching.Destination.{Destination}
use Rattle.http_routes.specs.Paths.{path_of, segments}
use Rattle.http_routes.specs.Routing.{route_of}

-- a route, the name of a service, and what stands for an entry's number, where the path has them
pub record Asked : Type 0 where
  pub route : Route
  pub service : Option (List ℕ)
  pub number : Option (List ℕ)

abbrev pub asked_by : Destination → Asked
asked_by found = record { route = found.route; service = option_map (λ s. s.now) found.service; number = option_map (λ n. n.now) found.number }

-- what stands for an entry's number in the path of a route: the sixth segment of the journal's; the others have none
abbrev pub number_at : Route → List ℕ → Option (List ℕ)
number_at route.Journal path = slice_get (segments path) 5
number_at other path = None

-- of a path "/v1/services/{service}/journal/{from}" the service is the fourth segment, and the number the sixth
abbrev pub asked_of : List ℕ → Route → Asked
asked_of path route = record { route = route; service = slice_get (segments path) 3; number = slice_get (segments path) 5 }

-- what a path asks for
abbrev pub asked_at : List ℕ → Option Asked
asked_at path = option_map (asked_of path) (route_of path)

-- what a target asks for: its path alone decides
abbrev pub finds : List ℕ → Option Asked
finds target = asked_at (path_of target)
