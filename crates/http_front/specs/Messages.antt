-- The lines of an answer's head (RFC 9112, sections 2.1 and 4).
use Rattle.std.specs.Prelude.{ℕ, List, [], ◌++◌, Bool, true, false, ◌&&◌, nat_le, nat_lt, Option, Some, None, unwrap_or, if◌then◌else◌, codes, decimal}
use Rattle.http.specs.StatusCode.{reason_phrase}
use Rattle.http_routes.specs.declared.table.Route.{Route}
use Rattle.http_routes.specs.Table.{method_of}

abbrev pub line_end : List ℕ
line_end = codes "\r\n"

-- a field's line
abbrev pub field : List ℕ → List ℕ → List ℕ
field name value = name ++ (codes ": " ++ (value ++ line_end))

abbrev pub is_status_code : ℕ → Bool
is_status_code status = nat_le 100 status && nat_lt status 1000

-- the reason phrase of a status code (RFC 9110, section 15); empty where there is none
unfoldable pub phrase_of : ℕ → List ℕ
phrase_of status = if is_status_code status then unwrap_or (reason_phrase status) [] else []

abbrev pub status_line : ℕ → List ℕ
status_line status = codes "HTTP/1.1 " ++ (decimal status ++ (codes " " ++ (phrase_of status ++ line_end)))

-- the method that is allowed, where a route was asked with another one (RFC 9110, section 10.2.1)
abbrev pub allow_field : Option Route → List ℕ
allow_field None = []
allow_field (Some route) = field (codes "Allow") (method_of route)

-- that the connection ends after the answer (RFC 9112, section 9.6)
abbrev pub close_field : Bool → List ℕ
close_field true = field (codes "Connection") (codes "close")
close_field false = []
