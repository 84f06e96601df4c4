-- The routes of the HTTP interface: the method of each (RFC 9110, section 9), and the segment of a path that names it.
use Rattle.std.specs.Prelude.{ℕ, List, codes}
use Rattle.http_routes.specs.declared.table.Route.{Route}
use Rattle.http_routes.specs.declared.table.Route.TheVariants as route

abbrev pub method_of : Route → List ℕ
method_of route.Services = codes "GET"
method_of route.Acquire = codes "POST"
method_of route.Report = codes "POST"
method_of route.Release = codes "POST"
method_of route.Transition = codes "POST"
method_of route.Reset = codes "POST"
method_of route.Cut = codes "POST"
method_of route.Roll = codes "POST"
method_of route.Program = codes "PUT"
method_of route.State = codes "GET"
method_of route.Journal = codes "GET"

abbrev pub word_of : Route → List ℕ
word_of route.Services = codes "services"
word_of route.Acquire = codes "acquire"
word_of route.Report = codes "report"
word_of route.Release = codes "release"
word_of route.Transition = codes "transition"
word_of route.Reset = codes "reset"
word_of route.Cut = codes "cut"
word_of route.Roll = codes "roll"
word_of route.Program = codes "program"
word_of route.State = codes "state"
word_of route.Journal = codes "journal"
