use Rattle.std.proofs.Common.{◌∙◌, arith}
use Rattle.http_routes.proofs.Readings.{bytes-each, target-found, target-number, target-read}
use Rattle.http_routes.proofs.Found.{nothing_is_asked, other_bytes_find_none}
use Rattle.http_routes.proofs.matching.Routes.find.Goals as goal

pub returns-in_default-clause-found : goal.returns-in_default-clause-found
returns-in_default-clause-found c =
    let none = other_bytes_find_none c.path_of.result.now c.in_default.ensures.cases.0 in
    nothing_is_asked c.args.target.now (rw c.path_of.ensures at none)

pub returns-clause-read : goal.returns-clause-read
returns-clause-read c =
    let bytes = bytes-each c.args.target.now (λ i. omega (arith, c.type_inv.target i)) in
    let same = c.in-Ok.ensures.cases.0 ∙ c.path_of.ensures in
    let number = target-number c.args.target.now c.in-Ok.path.now c.in_ok-route.route same bytes c.in_ok-route.ensures in
    target-read c.args.target.now c.in-Ok.path.now c.in_ok-route.route _ _ same bytes c.in_ok-route.ensures c.segment-service.ensures (c.number_at-number.ensures ∙ number)

pub returns-clause-found : goal.returns-clause-found
returns-clause-found c =
    let bytes = bytes-each c.args.target.now (λ i. omega (arith, c.type_inv.target i)) in
    let same = c.in-Ok.ensures.cases.0 ∙ c.path_of.ensures in
    let number = target-number c.args.target.now c.in-Ok.path.now c.in_ok-route.route same bytes c.in_ok-route.ensures in
    target-found c.args.target.now c.in-Ok.path.now c.in_ok-route.route _ _ same c.in_ok-route.ensures c.segment-service.ensures (c.number_at-number.ensures ∙ number)
