use Rattle.std.proofs.Common.{◌≡◌, [], ◌++◌, ◌∙◌, rules}
use Rattle.json.specs.Print.{print}
use Rattle.serde_json.proofs.Texts.{print-outline}
use Rattle.service.specs.Asked.{response_data}
use Rattle.answers.specs.Responses.{response_json}
use Rattle.answers.specs.Writing.{tokens_of}
use Rattle.answers.proofs.responses.body.Goals as goal

pub returns : goal.returns
returns c =
    let written = c.in_ok-put_response.ensures in
    let before : c.put_response.new.out.before ≡ [] = search rules in
    let tokens : c.put_response.new.out.tokens ≡ tokens_of (response_json (response_data c.args.response.now)) = search rules in
    c.into_inner.ensures.items ∙ (λ i. before i ++ print (tokens i)) ∙ print-outline (response_json (response_data c.args.response.now))
