-- What a request asks for, by its route, the number in its path, its query and its body.
use Rattle.std.specs.Prelude.{ℕ, List, Option, Some, None, Result, Ok, Err}
use Rattle.std.specs.Option.{ok_or}
use Rattle.serde_json.specs.Data.{Data}
use Rattle.refusals.specs.declared.RefusalNumber.{RefusalNumber}
use Rattle.refusals.specs.declared.RefusalNumber.TheVariants as refusal
use Rattle.requests.specs.Asking.{request_of}
use Rattle.requests.specs.declared.asking.RequestKind.{RequestKind}
use Rattle.requests.specs.declared.asking.RequestKind.TheVariants as kind
use Rattle.texts.specs.JsonText.{json_of}
use Rattle.service_profile.specs.Answers.{map_ok}
use Rattle.service.specs.Asked.{RequestData, acquire, install, reset, read, page, cut}
use Rattle.http_front.specs.Layouts.{layout_in}
use Rattle.http_routes.specs.EntryNumbers.{entry_number}
use Rattle.http_routes.specs.declared.table.Route.{Route}
use Rattle.http_routes.specs.declared.table.Route.TheVariants as route

-- a body that is no JSON is refused as such, before its values are looked at
abbrev pub json_asks : RequestKind → Option Data → Result RequestData RefusalNumber
json_asks kind None = Err refusal.BadJson
json_asks kind (Some d) = ok_or (request_of kind d) refusal.BadValue

-- an install of the program that the body is, for the layout that the query names
abbrev pub program_asks : List ℕ → List ℕ → Result RequestData RefusalNumber
program_asks query body = map_ok (install body) (layout_in query)

-- a page of the journal, from the number in the path on
abbrev pub page_asks : Option (List ℕ) → Result RequestData RefusalNumber
page_asks None = Err refusal.BadValue
page_asks (Some number) = map_ok page (entry_number number)

-- what is asked of a service, or why nothing is: a report, a release, a transition and a roll have a body of JSON, a program is its body, and the other routes ignore theirs; an install alone looks at the query. The list of services is asked of none
abbrev pub body_asks : Route → Option (List ℕ) → List ℕ → List ℕ → Result RequestData RefusalNumber
body_asks route.Acquire number query body = Ok acquire
body_asks route.Report number query body = json_asks kind.Report (json_of body)
body_asks route.Release number query body = json_asks kind.Release (json_of body)
body_asks route.Transition number query body = json_asks kind.Move (json_of body)
body_asks route.Reset number query body = Ok reset
body_asks route.Cut number query body = Ok cut
body_asks route.Roll number query body = json_asks kind.Roll (json_of body)
body_asks route.Program number query body = program_asks query body
body_asks route.State number query body = Ok read
body_asks route.Journal number query body = page_asks number
body_asks route.Services number query body = Err refusal.NoRoute
