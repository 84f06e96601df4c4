-- The text of answers over HTTP, and what is answered to a request.
use Rattle.std.specs.Prelude.{◌≡◌, ℕ, suc, List, [], ◌∷◌, length, true, Option, None}
use Rattle.refusals.specs.declared.RefusalNumber.{RefusalNumber}
use Rattle.answers.specs.Listing.{services_body}
use Rattle.answers.specs.Responses.{body, status}
use Rattle.service_profile.specs.declared.replies.Reply.TheVariants as reply
use Rattle.service.specs.Asked.{RequestData, read, ResponseData, replies}
use Rattle.http_routes.specs.declared.table.Route.{Route}
use Rattle.http_front.specs.AnswerTexts.{answer_text}
use Rattle.http_messages.specs.declared.front.Fault.{Fault}
use Rattle.http_messages.specs.Fields.{is_head_method}
use Rattle.http_connection.specs.Requests.{HttpRequestData}
use Rattle.http_front.specs.Asked.{Asking, asks, lists, refuses, asked}

abbrev pub refused_with : RefusalNumber → ResponseData
refused_with number = replies (reply.Refused number)

-- the answer to a message that is refused; the connection ends behind it
unfoldable pub fault_text : Fault → List ℕ
fault_text fault =
    answer_text (record { status = status (refused_with fault.number); body = body (refused_with fault.number); allow = None; closes = true; head_only = fault.to_head })

-- the answer to a request, by the response; where a route was asked with another method, with the route
unfoldable pub text_for : HttpRequestData → ResponseData → Option Route → List ℕ
text_for request response allow =
    answer_text (record { status = status response; body = body response; allow = allow; closes = request.closes; head_only = is_head_method request.method })

-- the answer to a request for the list of services, by their names and by what each answered to a reading
unfoldable pub list_text : HttpRequestData → List (List ℕ) → List ResponseData → List ℕ
list_text request names given =
    answer_text (record { status = 200; body = services_body names given; allow = None; closes = request.closes; head_only = is_head_method request.method })

-- ---- requests

-- answers relates a state, a service's place, a moment and what is asked to the response and the state after it
module _ {S : Type 0} (answers : S → ℕ → ℕ → RequestData → ResponseData → S → Type 0) where
  -- the services were read, one after another, from the one at this place on, and gave these answers
  abbrev pub AreRead : S → ℕ → ℕ → List ResponseData → S → Type 0
  AreRead state place moment [] after = after ≡ state
  AreRead state place moment (given ∷ later) after = (next : S) × answers state place moment read given next × AreRead next (suc place) moment later after

-- names_of tells the names of a state's services, in their order; answers relates a state, a service's place, a moment and what is asked to the response and the state after it
module _ {S : Type 0} (names_of : S → List (List ℕ)) (answers : S → ℕ → ℕ → RequestData → ResponseData → S → Type 0) where
  abbrev pub IsAnswerTo : S → ℕ → HttpRequestData → Asking → List ℕ → S → Type 0
  IsAnswerTo state moment request (refuses number allow) text after = (text ≡ text_for request (refused_with number) allow) × (after ≡ state)
  IsAnswerTo state moment request (asks place wanted) text after =
      (response : ResponseData) × answers state place moment wanted response after × (text ≡ text_for request response None)
  IsAnswerTo state moment request lists text after =
      (given : List ResponseData) × (length given ≡ length (names_of state)) × AreRead answers state 0 moment given after × (text ≡ list_text request (names_of state) given)

  -- what is answered to a request at a moment, and the state after it: a refusal changes nothing
  abbrev pub IsAnswered : S → ℕ → HttpRequestData → List ℕ → S → Type 0
  IsAnswered state moment request text after = IsAnswerTo state moment request (asked (names_of state) request) text after
