use Rattle.std.proofs.Common.{true, false}
use Rattle.bpf_asm.proofs.Letters.{stem_cut, stem_whole, width_by}
use Rattle.bpf_asm.proofs.words.stem_and_width.Goals as goal

pub returns-in-Some-clause-stem : goal.returns-in-Some-clause-stem
returns-in-Some-clause-stem c = stem_cut c.args.name.now c.in-Some.stem.now c.in-Some.ensures.cases.0 c.in-Some.ensures.cases.1

pub returns-in-Some-clause-width : goal.returns-in-Some-clause-width
returns-in-Some-clause-width c = width_by c.args.name.now true c.in-Some.ensures.cases.0

pub returns-in-None-clause-stem : goal.returns-in-None-clause-stem
returns-in-None-clause-stem c = stem_whole c.args.name.now c.in-None.ensures.cases

pub returns-in-None-clause-width : goal.returns-in-None-clause-width
returns-in-None-clause-width c = width_by c.args.name.now false c.in-None.ensures.cases
