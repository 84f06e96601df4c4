use Rattle.packed_outcomes.proofs.Outcomes.{packed_is}
use Rattle.packed_outcomes.proofs.outcome.PackedOutcome.pack.Goals as goal

pub invariant_of-result : goal.invariant_of-result
invariant_of-result c =
    let same = packed_is c.args.outcome.now c.in_ok-words.words.items c.in_ok-words.ensures c.know_record.ensures.fits c.know_record.ensures.size in
    rw same c.know_record.ensures.fits

pub returns : goal.returns
returns c = packed_is c.args.outcome.now c.in_ok-words.words.items c.in_ok-words.ensures c.know_record.ensures.fits c.know_record.ensures.size
