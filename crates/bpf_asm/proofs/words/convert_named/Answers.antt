use Rattle.bpf_asm.specs.Assembly.{small_letters}
use Rattle.bpf_asm.proofs.Spelled.{convert_by}
use Rattle.bpf_asm.proofs.words.convert_named.Goals as goal

pub returns : goal.returns
returns c = convert_by c.args.order (small_letters c.args.name.now) c.word_or-found.result c.word_or-found-2.result c.word_or.result c.word_or-found.ensures c.word_or-found-2.ensures c.word_or.ensures
