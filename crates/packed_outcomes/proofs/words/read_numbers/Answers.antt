use Rattle.std.proofs.Common.{refl, ap, ◌∙◌, ℕ, List, take}
use Rattle.packed_outcomes.specs.Words.{words_in}
use Rattle.packed_outcomes.proofs.WordBytes.{words_in_front}
use Rattle.packed_outcomes.proofs.words.read_numbers.Goals as goal

pub returns : goal.returns
returns c = record {
  words =
      c.read_words.ensures ∙ ap (λ (n : ℕ). words_in n c.split_at.result.0.now) c.requires ∙ ap (words_in 8) c.split_at.ensures.front
      ∙ ap (λ (bs : List ℕ). words_in 8 (take 64 bs)) c.context.ensures.bytes ∙ words_in_front 8 64 c.args.outcome.now.context refl;
}
