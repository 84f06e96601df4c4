-- The text of an answer over HTTP.
use Rattle.std.specs.Prelude.{ℕ, List, [], ◌++◌, length, Bool, Option, if◌then◌else◌, codes, decimal}
use Rattle.http_routes.specs.declared.table.Route.{Route}
use Rattle.http_front.specs.declared.message.AnswerMessage.{AnswerMessage}
use Rattle.http_front.specs.Messages.{line_end, field, status_line, allow_field, close_field}

-- an answer: its status, its body, the route whose method is allowed where another one was asked with, whether the connection ends, and whether a HEAD is answered
pub record AnswerData : Type 0 where
  pub status : ℕ
  pub body : List ℕ
  pub allow : Option Route
  pub closes : Bool
  pub head_only : Bool

abbrev pub answer_data : AnswerMessage → AnswerData
answer_data answer = record { status = answer.status; body = answer.body.now; allow = answer.allow; closes = answer.closes; head_only = answer.head_only }

-- the head, with the empty line behind it (RFC 9110, sections 8.3 and 8.6); its Content-Length is the body's also where the body does not follow
abbrev pub head_of : AnswerData → List ℕ
head_of answer =
    status_line answer.status
    ++ field (codes "Content-Type") (codes "application/json")
    ++ field (codes "Content-Length") (decimal (length answer.body))
    ++ allow_field answer.allow
    ++ close_field answer.closes
    ++ line_end

-- what follows the head: nothing where a HEAD is answered (RFC 9110, section 9.3.2)
abbrev pub body_of : AnswerData → List ℕ
body_of answer = if answer.head_only then [] else answer.body

abbrev pub answer_text : AnswerData → List ℕ
answer_text answer = head_of answer ++ body_of answer
