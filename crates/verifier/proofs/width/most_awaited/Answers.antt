use Rattle.std.proofs.Common.{◌+◌, ◌≤◌, length, refl, ◌∙◌, arith}
use Rattle.flow_check.proofs.Marks.{entered_start, entered_step}
use Rattle.verifier.proofs.Marked.{count_is, widest_none, widest_turn, is_width, instructions_inside, count_none}
use Rattle.verifier.proofs.width.most_awaited.Goals as goal

pub loop-place-init : goal.loop-place-init
loop-place-init c = record {
  entered = entered_start c.args.slots.now (length c.args.slots.now) c.args.marks.now c.mark-awaited.new.marks refl c.requires.unmarked c.mark-awaited.ensures.marked;
  counted = (let first = c.mark-awaited.ensures.counted 0 (omega arith) in let none = count_none (length c.args.slots.now) c.args.marks.now c.requires.unmarked in omega (arith, first, none));
  widest = widest_none c.args.slots.now;
}

pub loop-place-preserved : goal.loop-place-preserved
loop-place-preserved c =
    let entered = entered_step c.args.slots.now c.loop-place.place (c.loop-place.place + 1) c.loop-place.marks c.pass-awaited.new.marks refl c.loop-place.invariant.entered c.pass-awaited.ensures.marked in
    record {
      entered = entered;
      counted = c.pass-awaited.ensures.counted;
      widest = widest_turn c.args.slots.now c.loop-place.place c.loop-place.width c.pass-awaited.result c.widened-width.result c.requires.program (c.pass-awaited.ensures.counted ∙ count_is c.args.slots.now c.loop-place.place c.pass-awaited.new.marks (omega arith) entered) c.loop-place.invariant.widest c.widened-width.ensures;
    }

pub returns : goal.returns
returns c =
    let all : length c.args.slots.now ≤ c.loop-place.place = omega arith in
    is_width c.args.slots.now c.loop-place.place c.loop-place.width c.requires.program.some all (instructions_inside c.args.slots.now) c.loop-place.invariant.widest
