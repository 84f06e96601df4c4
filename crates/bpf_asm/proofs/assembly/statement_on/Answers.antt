use Rattle.std.proofs.Common.{◌∙◌, ap}
use Rattle.bpf_asm.specs.Assembly.{small_letters, statement_on}
use Rattle.bpf_asm.specs.Reading.{statement_of}
use Rattle.bpf_asm.specs.Tokens.{tokens_of}
use Rattle.bpf_asm.proofs.Kept.{read_alike}
use Rattle.bpf_asm.proofs.assembly.statement_on.Goals as goal

pub returns : goal.returns
unfolding statement_on
returns c =
    c.statement_of.ensures ∙ ap statement_of c.as_slice.ensures.value
    ∙ read_alike c.read_tokens-tokens.result.items (tokens_of (small_letters c.args.line.now)) c.read_tokens-tokens.ensures
