use Rattle.std.proofs.Common.{◌≡◌, ◌∙◌, List, length, map, ap, sym, inr, rules}
use Rattle.std.proofs.lemmas.List.{length-map}
use Rattle.service.specs.Asked.{ResponseData, request_data, response_data}
use Rattle.http_connection.specs.Requests.{http_request_data}
use Rattle.http_front.specs.Asked.{asked, asks, lists}
use Rattle.http_front.proofs.LostAnswers.{has_answer, has_list, on_err}
use Rattle.http_front.proofs.responder.HttpResponderResponder.respond.Goals as goal

pub write_list-requires : goal.write_list-requires
write_list-requires g c = ap length c.deref.ensures.value ∙ (c.read_services.ensures.all ∙ ap length (sym c.read_services.ensures.names))

pub returns-in_ok-responses-in-Lists-clause-lost : goal.returns-in_ok-responses-in-Lists-clause-lost
returns-in_ok-responses-in-Lists-clause-lost g c =
    let answers = g.A.Answerer.answers in
    let state = c.args.state.now in
    let after = c.read_services.new.answerer in
    let is : asked (g.A.Answerer.names_of state) (http_request_data c.args.request.now) ≡ lists = search rules in
    let given : List ResponseData = map response_data c.read_services.new.responses.items in
    let all : length given ≡ length (g.A.Answerer.names_of state) = length-map c.read_services.new.responses.items response_data ∙ c.read_services.ensures.all in
    on_err c.write_list.result _ (inr (has_list g.A.Answerer.names_of answers state c.args.moment (http_request_data c.args.request.now) given after is all c.read_services.ensures.read))

pub returns-in-Asks-clause-lost : goal.returns-in-Asks-clause-lost
returns-in-Asks-clause-lost g c =
    let is : asked (g.A.Answerer.names_of c.args.state.now) (http_request_data c.args.request.now) ≡ asks c.in-Asks.place (request_data c.in-Asks.wanted) = search rules in
    on_err c.write_response-in-Asks.result _ (inr (has_answer g.A.Answerer.names_of g.A.Answerer.answers c.args.state.now c.args.moment (http_request_data c.args.request.now) c.in-Asks.place
    (request_data c.in-Asks.wanted) (response_data c.ask-response.result) c.ask-response.new.self is c.ask-response.ensures.answered))
