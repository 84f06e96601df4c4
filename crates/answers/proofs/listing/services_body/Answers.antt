use Rattle.std.proofs.Common.{◌≡◌, [], ◌++◌, ◌∙◌, map, rules}
use Rattle.json.specs.Print.{print}
use Rattle.serde_json.proofs.Texts.{print-outline}
use Rattle.service.specs.Asked.{response_data}
use Rattle.answers.specs.Listing.{services_data}
use Rattle.answers.specs.Writing.{tokens_of}
use Rattle.answers.proofs.listing.services_body.Goals as goal

pub returns : goal.returns
returns c =
    let list = services_data (map (λ name. name.now) c.args.names.now) (map response_data c.args.responses.now) in
    let written = c.in_ok-put_list.ensures in
    let before : c.put_list.new.out.before ≡ [] = search rules in
    let tokens : c.put_list.new.out.tokens ≡ tokens_of list = search rules in
    c.into_inner.ensures.items ∙ (λ i. before i ++ print (tokens i)) ∙ print-outline list
