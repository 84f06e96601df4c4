-- What a request over HTTP asks for: the first refusal that holds, or what is asked of which service.
use Rattle.std.specs.Prelude.{ℕ, List, Bool, true, false, Option, Some, None, Result, Ok, Err, position, bytes_eq}
use Rattle.refusals.specs.declared.RefusalNumber.{RefusalNumber}
use Rattle.refusals.specs.declared.RefusalNumber.TheVariants as refusal
use Rattle.http_routes.specs.declared.table.Route.{Route}
use Rattle.http_routes.specs.Finding.{Asked, finds}
use Rattle.http_routes.specs.Paths.{query_of}
use Rattle.http_routes.specs.Table.{method_of}
use Rattle.http_front.specs.Bodies.{body_asks}
use Rattle.http_connection.specs.Requests.{HttpRequestData}
use Rattle.service.specs.Asked.{RequestData}

-- what is asked of the service at a place; or the list of all; or why nothing is, with the route that was asked with another method
pub data Asking : Type 0 where
  asks : ℕ → RequestData → Asking
  lists : Asking
  refuses : RefusalNumber → Option Route → Asking

abbrev pub asks_of : ℕ → Result RequestData RefusalNumber → Asking
asks_of place (Ok wanted) = asks place wanted
asks_of place (Err number) = refuses number None

-- where the first service of a name stands, if there is one
abbrev pub place_of_name : List (List ℕ) → List ℕ → Option ℕ
place_of_name names name = position (λ other. bytes_eq other name) names

-- a query and a body are looked at only where the service is there
abbrev pub asked_of_service : Option ℕ → Asked → HttpRequestData → Asking
asked_of_service None found request = refuses refusal.NoService None
asked_of_service (Some place) found request = asks_of place (body_asks found.route found.number (query_of request.target) request.body)

-- where no service is named, all are listed; the query and the body are ignored
abbrev pub asked_of : List (List ℕ) → Option (List ℕ) → Asked → HttpRequestData → Asking
asked_of names None found request = lists
asked_of names (Some name) found request = asked_of_service (place_of_name names name) found request

-- a service is looked for only where the route has the method
abbrev pub asked_by_method : List (List ℕ) → Bool → Asked → HttpRequestData → Asking
asked_by_method names false found request = refuses refusal.WrongMethod (Some found.route)
asked_by_method names true found request = asked_of names found.service found request

abbrev pub asked_at : List (List ℕ) → HttpRequestData → Option Asked → Asking
asked_at names request None = refuses refusal.NoRoute None
asked_at names request (Some found) = asked_by_method names (bytes_eq request.method (method_of found.route)) found request

-- what a request asks for, where services have these names, in their order
abbrev pub asked : List (List ℕ) → HttpRequestData → Asking
asked names request = asked_at names request (finds request.target)
