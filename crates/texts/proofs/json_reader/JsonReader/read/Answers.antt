use Rattle.std.proofs.Common.{◌≡◌, Option, option_map, IfOk, sym, subst, rules}
use Rattle.serde_json.specs.Data.{Data}
use Rattle.serde_json.specs.View.{view}
use Rattle.texts.proofs.JsonTexts.{json_of-none, json_of-utf8}
use Rattle.texts.proofs.json_reader.JsonReader.read.Goals as goal

pub returns-in-Ok : goal.returns-in-Ok
returns-in-Ok c =
    let cases = c.in-Ok.ensures.cases in
    subst (λ (found : Option Data). IfOk c.value_of.result (λ value. option_map view value ≡ found)) (json_of-utf8 c.in-Ok.text.now c.args.text.now cases.0 cases.1) c.value_of.ensures

pub returns-in-Err : goal.returns-in-Err
returns-in-Err c = sym (json_of-none c.args.text.now (search rules))
