use Rattle.std.proofs.Common.{rules, ◌≡◌, Some, ◌+◌, [], ◌∷◌, drop, arith}
use Rattle.std.proofs.lemmas.Grind.{common_steps}
use Rattle.serde_json.specs.View.{view}
use Rattle.texts.specs.Outcomes.{u64_of}
use Rattle.texts.proofs.Numbers.{none_if_many, read_next, zeros_next, read_all}
use Rattle.texts.proofs.outcomes.numbers.Goals as goal

pub returns-then-items-gt-FACT_COUNT : goal.returns-then-items-gt-FACT_COUNT
returns-then-items-gt-FACT_COUNT c = none_if_many 16 c.args.items.now c.if-items-gt-FACT_COUNT.true

pub loop-i-preserved : goal.loop-i-preserved
loop-i-preserved c =
    let is = c.index-items-i.is in
    let full = c.loop-i.invariant.full in
    let number : u64_of (view c.index-items-i.result) ≡ Some c.in_ok-numbers.field-0 = search rules in
    let split : drop c.loop-i.i c.args.items.now ≡ c.index-items-i.result ∷ drop (c.loop-i.i + 1) c.args.items.now = grind (arith, common_steps) in
    record {
      full = grind (arith, common_steps);
      read = read_next c.args.items.now c.loop-i.numbers c.loop-i.i c.in_ok-numbers.field-0 c.index-items-i.result split number (omega arith) c.loop-i.invariant.read;
      zeros = zeros_next 16 c.loop-i.i c.in_ok-numbers.field-0 c.loop-i.numbers (omega arith) full c.loop-i.invariant.zeros;
    }

pub returns : goal.returns
returns c =
    let end : drop c.loop-i.i c.args.items.now ≡ [] = grind (arith, common_steps) in
    read_all 16 c.args.items.now c.loop-i.numbers c.loop-i.i end (omega arith) c.loop-i.invariant.full c.loop-i.invariant.zeros c.loop-i.invariant.read
