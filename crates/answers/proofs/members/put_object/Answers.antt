use Rattle.std.proofs.Common.{List, [], ◌∷◌, map, flat_map, OnOk, subst, sym, rules}
use Rattle.json.specs.Token.{Token, begin_object, end_object}
use Rattle.answers.specs.Members.{field_of}
use Rattle.answers.specs.Texts.{Field}
use Rattle.answers.specs.Writing.{Adds, field_tokens}
use Rattle.answers.proofs.Listed.{object_tokens, adds_then, adds_last}
use Rattle.answers.proofs.members.put_object.Goals as goal

pub returns : goal.returns
returns c =
    let fields : List Field = map field_of c.args.members.now in
    let begun : Adds (begin_object ∷ []) c.args.out.now c.begin_object.new.self = search rules in
    let all = adds_then c.args.out.now c.begin_object.new.self c.put_members.new.out (begin_object ∷ []) (flat_map field_tokens fields) begun c.in_ok-put_members.ensures in
    subst (λ (ts : List Token). OnOk c.end_object.result (Adds (begin_object ∷ ts) c.args.out.now c.end_object.new.self)) (sym (object_tokens fields)) (adds_last c.end_object.result c.args.out.now c.put_members.new.out c.end_object.new.self (begin_object ∷ flat_map field_tokens fields) end_object all c.end_object.ensures)
