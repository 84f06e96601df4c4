use Rattle.std.proofs.Common.{◌≡◌, ◌+◌, ◌-◌, ap, arith, sym, ◌∙◌}
use Rattle.stack_track.specs.Accesses.{stretch_written}
use Rattle.stack_track.proofs.Stretched.{written_more}
use Rattle.stack_track.proofs.stack.StackState.write_stretch.Goals as goal

pub loop-i-preserved : goal.loop-i-preserved
loop-i-preserved g c = written_more c.loop-i.self c.write_byte.new.self c.args.place c.args.count c.loop-i.i c.loop-i-test.true c.write_byte.ensures ∙ c.loop-i.invariant

pub returns : goal.returns
returns g c =
    let none : c.args.count - c.loop-i.i ≡ 0 = omega arith in
    sym (ap (stretch_written c.loop-i.self (c.args.place + c.loop-i.i)) none) ∙ c.loop-i.invariant
