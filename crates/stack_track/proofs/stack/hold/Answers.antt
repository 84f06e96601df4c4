use Rattle.std.proofs.Common.{List, refl, sym, ap, ◌∙◌, arith}
use Rattle.stack_track.specs.declared.cell.Cell.{Cell}
use Rattle.stack_track.specs.Cells.{cell_in}
use Rattle.stack_track.proofs.Held.{held_more}
use Rattle.stack_track.proofs.stack.hold.Goals as goal

pub push_reserved-requires : goal.push_reserved-requires
push_reserved-requires g c =
    let long = c.loop-next.invariant.long in
    let room = c.loop-next.invariant.room in
    let place = c.requires.room in
    let within = c.loop-next-test.true in
    omega (arith, long, room, place, within)

pub returns-clause-held : goal.returns-clause-held
returns-clause-held g c =
    let long = c.loop-next.invariant.long in
    let many = c.loop-next.held.ok.0 in
    let all = c.loop-next-test.false in
    omega (arith, long, many, all)

pub returns-clause-few : goal.returns-clause-few
returns-clause-few g c most place old =
    let long = c.loop-next.invariant.long in
    let many = c.loop-next.held.ok.0 in
    let few = c.loop-next.invariant.few most place old in
    omega (arith, long, many, few)

pub loop-next-init : goal.loop-next-init
loop-next-init g c = record {
  long = sym c.len-next.ensures;
  few = λ most place old. (let long = c.args.held.now.ok.0 in let len = c.len-next.ensures in omega (arith, long, len, old));
  room = refl;
  same = λ k. refl;
}

pub loop-next-preserved : goal.loop-next-preserved
loop-next-preserved g c = record {
  long = (let long = c.loop-next.invariant.long in let len = c.push_reserved.ensures.len in omega (arith, long, len));
  few = λ most place old. (let within = c.loop-next-test.true in omega (arith, place, within));
  room = c.push_reserved.ensures.capacity ∙ c.loop-next.invariant.room;
  same = λ k. ap (λ (cells : List (Cell g.row.D.Denot)). cell_in cells k) c.push_reserved.ensures.items ∙ (held_more c.loop-next.held.items k ∙ c.loop-next.invariant.same k);
}
