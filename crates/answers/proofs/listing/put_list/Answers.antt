use Rattle.std.proofs.Common.{ℕ, List, Bor, [], ◌∷◌, map, codes, rules}
use Rattle.json.specs.Token.{Token, begin_object, end_object, key}
use Rattle.serde_json.specs.Data.{array}
use Rattle.serde_json.specs.View.{items_of}
use Rattle.service.specs.Asked.{response_data}
use Rattle.answers.specs.Listing.{service_list}
use Rattle.answers.specs.Writing.{Adds, tokens_of}
use Rattle.answers.proofs.Listed.{adds_then, adds_last}
use Rattle.answers.proofs.listing.put_list.Goals as goal

pub returns : goal.returns
returns c =
    let first : List Token = begin_object ∷ [] in
    let called : List Token = key (codes "services") ∷ [] in
    let list : List Token = tokens_of (array (items_of (service_list (map (λ (name : Bor (List ℕ)). name.now) c.args.names.now) (map response_data c.args.responses.now)))) in
    let begun : Adds first c.args.out.now c.begin_object.new.self = search rules in
    let with_key : Adds called c.begin_object.new.self c.key.new.self = search rules in
    let before = adds_then c.args.out.now c.begin_object.new.self c.key.new.self first called begun with_key in
    let all = adds_then c.args.out.now c.key.new.self c.put_services.new.out (begin_object ∷ key (codes "services") ∷ []) list before c.in_ok-put_services.ensures in
    adds_last c.end_object.result c.args.out.now c.put_services.new.out c.end_object.new.self (begin_object ∷ key (codes "services") ∷ list) end_object all c.end_object.ensures
