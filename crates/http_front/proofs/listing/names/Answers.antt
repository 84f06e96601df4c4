use Rattle.std.proofs.Common.{◌≤◌, ◌∙◌, length, take_all, arith}
use Rattle.http_front.proofs.Services.{names_more}
use Rattle.http_front.proofs.listing.names.Goals as goal

pub loop-place-preserved : goal.loop-place-preserved
loop-place-preserved g c = (
  omega (arith, c.loop-place-test.true),
  names_more c.loop-place.place (g.A.Answerer.names_of c.args.answerer.now) c.loop-place.names.items c.push.new.self.items c.name.result c.loop-place.invariant.1 c.name.ensures c.in_ok-push.ensures.items,
)

pub returns : goal.returns
returns g c =
    let past : length (g.A.Answerer.names_of c.args.answerer.now) ≤ c.loop-place.place = omega (arith, c.count-count.ensures.count, c.loop-place-test.false) in
    c.loop-place.invariant.1 ∙ take_all c.loop-place.place (g.A.Answerer.names_of c.args.answerer.now) past
