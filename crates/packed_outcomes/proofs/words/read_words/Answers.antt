use Rattle.std.proofs.Common.{rules, length}
use Rattle.packed_outcomes.proofs.WordBytes.{read_words_are}
use Rattle.packed_outcomes.proofs.words.read_words.Goals as goal

pub returns : goal.returns
returns c = read_words_are (length c.args.words.now) c.args.bytes.now c.read_u64_into.new.dst (search rules) c.read_u64_into.ensures
