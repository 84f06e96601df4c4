use Rattle.std.proofs.Common.{[], replicate, ◌∙◌}
use Rattle.helpers.specs.Padded.{padded}
use Rattle.packed_outcomes.proofs.Outcomes.{numbers_outcome}
use Rattle.packed_outcomes.proofs.words.record_of_numbers.Goals as goal

pub returns : goal.returns
returns c =
    c.from_beginning.ensures ∙ (λ i. record { context = padded 192 (c.write_u64_into.ensures i); facts = replicate 16 0; tag = [] }) ∙ numbers_outcome c.args.words.now c.requires.words
