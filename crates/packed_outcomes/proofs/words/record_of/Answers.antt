use Rattle.std.proofs.Common.{◌≡◌, take, drop, get_or, ◌∙◌, ap}
use Rattle.packed_outcomes.specs.Words.{bytes_of}
use Rattle.packed_outcomes.proofs.Outcomes.{tag_taken}
use Rattle.packed_outcomes.proofs.words.record_of.Goals as goal

pub returns : goal.returns
returns c =
    let made = rw c.unwrap.ensures at c.from_parts.ensures.some in
    let context : c.write_u64_into.new.dst ≡ bytes_of (take 24 c.args.words.now) = c.write_u64_into.ensures ∙ ap bytes_of c.split_at.ensures.front in
    let facts : c.copy_from_slice.new.self ≡ take 16 (drop 24 c.args.words.now) = c.copy_from_slice.ensures.after ∙ c.split_at-2.ensures.front ∙ ap (take 16) c.split_at.ensures.back in
    let tag : take c.min-count.result c.write_u64_into-2.new.dst ≡ take (get_or (drop 44 c.args.words.now) 0 0) (bytes_of (take 4 (drop 40 c.args.words.now))) =
    tag_taken c.args.words.now c.split_at.result.1.now c.split_at-2.result.1.now c.split_at-3.result.0.now c.split_at-3.result.1.now c.min-count.result c.write_u64_into-2.new.dst
    c.requires.words c.split_at.ensures.back c.split_at-2.ensures.back c.split_at-3.ensures.front c.split_at-3.ensures.back c.min-count.ensures c.write_u64_into-2.ensures in
    made ∙ (λ i. record { context = context i; facts = facts i; tag = tag i })
