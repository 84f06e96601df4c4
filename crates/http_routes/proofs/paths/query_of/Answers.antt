use Rattle.std.proofs.Common.{◌==◌, sym, ◌∙◌, rules}
use Rattle.std.proofs.lemmas.Iterator.{YieldsList-from_slice}
use Rattle.std.proofs.lemmas.Iterator.Search.{position_from_yields_List}
use Rattle.http_routes.proofs.Cuts.{after_first-found, after_first-none}
use Rattle.http_routes.proofs.paths.query_of.Goals as goal

pub returns-in-Some : goal.returns-in-Some
returns-in-Some c =
    let place = position_from_yields_List (λ b. b == 63) _ _ c.position.result c.position.ensures.ran (YieldsList-from_slice c.args.target.now c.iter.ensures.rest) (λ x b q k. search rules) in
    after_first-found (λ b. b == 63) c.args.target.now c.in-Some.mark (sym c.in-Some.is ∙ place)

pub returns-in-None : goal.returns-in-None
returns-in-None c =
    let place = position_from_yields_List (λ b. b == 63) _ _ c.position.result c.position.ensures.ran (YieldsList-from_slice c.args.target.now c.iter.ensures.rest) (λ x b q k. search rules) in
    after_first-none (λ b. b == 63) c.args.target.now (sym c.in-None.is ∙ place)
