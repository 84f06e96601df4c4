-- What of a message decides its answer.
use Rattle.std.specs.Prelude.{ℕ, List, Bool}
use Rattle.http_messages.specs.Fields.{ends_connection}
use Rattle.http_messages.specs.Messages.{Message}
use Rattle.http_connection.specs.declared.responder.HttpRequest.{HttpRequest}

-- the method, the target, the body, and whether the connection ends behind the answer
pub record HttpRequestData : Type 0 where
  pub method : List ℕ
  pub target : List ℕ
  pub body : List ℕ
  pub closes : Bool

abbrev pub http_request_data : HttpRequest → HttpRequestData
http_request_data request = record { method = request.method.now; target = request.target.now; body = request.body.now; closes = request.closes }

abbrev pub request_of : Message → HttpRequestData
request_of message = record { method = message.head.method; target = message.head.target; body = message.body; closes = ends_connection message.head }
