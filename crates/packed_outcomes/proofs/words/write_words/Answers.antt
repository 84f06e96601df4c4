use Rattle.std.proofs.Common.{rules, ◌≡◌, length, slice_set, ◌∷◌, [], ◌∙◌, refl, ap, ℕ}
use Rattle.helpers.specs.Padded.{padded}
use Rattle.packed_outcomes.specs.Words.{words_in}
use Rattle.packed_outcomes.proofs.Outcomes.{tag_padded, only_one}
use Rattle.packed_outcomes.proofs.words.write_words.Goals as goal

pub returns : goal.returns
returns c =
    let one : length c.split_at_mut-tag.result.1.now ≡ 1 = search rules in
    let size : slice_set c.split_at_mut-tag.result.1.now 0 c.copy_tag.result ≡ length c.args.outcome.now.tag ∷ [] = only_one c.split_at_mut-tag.result.1.now c.copy_tag.result (length c.args.outcome.now.tag) one c.copy_tag.ensures.count in
    let four : length c.split_at_mut-tag.result.0.now ≡ 4 = search rules in
    let many : length c.split_at_mut-context.result.0.now ≡ 24 = search rules in
    let tag : c.read_words.new.words ≡ words_in 4 (padded 32 c.args.outcome.now.tag) =
    c.read_words.ensures ∙ ap (λ (n : ℕ). words_in n c.copy_tag.new.to) four ∙ ap (words_in 4) (c.copy_tag.ensures.bytes ∙ tag_padded c.args.outcome.now.tag c.facts.ensures.fits.short) in
    let facts : c.copy_from_slice.new.self ≡ c.args.outcome.now.facts = search rules in
    let context : c.read_words-2.new.words ≡ words_in 24 c.args.outcome.now.context =
    c.read_words-2.ensures ∙ ap (λ (n : ℕ). words_in n c.context.result.now) many ∙ ap (words_in 24) c.context.ensures.bytes in
    rw (context, facts, tag, size) refl
