use Rattle.std.proofs.Common.{◌∙◌}
use Rattle.matchit.proofs.OnLiterals.{matchit_on_literals}
use Rattle.http_routes.specs.Routing.{routes}
use Rattle.http_routes.proofs.matching.add_routes.Goals as goal

pub returns : goal.returns
unfolding matchit_on_literals routes
returns c =
    let a = c.in_ok-insert.ensures.1 in
    let b = c.in_ok-insert-2.ensures.1 in
    let d = c.in_ok-insert-3.ensures.1 in
    let e = c.in_ok-insert-4.ensures.1 in
    let f = c.in_ok-insert-5.ensures.1 in
    let g = c.in_ok-insert-6.ensures.1 in
    let h = c.in_ok-insert-7.ensures.1 in
    let i = c.in_ok-insert-8.ensures.1 in
    let j = c.in_ok-insert-9.ensures.1 in
    let k = c.in_ok-insert-10.ensures.1 in
    let l = c.in_ok-insert-11.ensures.1 in
    l ∙ rw (k, j, i, h, g, f, e, d, b, a, c.requires)
