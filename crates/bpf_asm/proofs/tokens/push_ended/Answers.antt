use Rattle.std.proofs.Common.{◌∙◌, ap, ◌++◌, take, Option}
use Rattle.std.specs.Prelude.{option_to_list}
use Rattle.bpf_asm.specs.declared.tokens.Token.{Token}
use Rattle.bpf_asm.specs.Assembly.{small_letters}
use Rattle.bpf_asm.specs.Tokens.{run_tokens, mark_of}
use Rattle.bpf_asm.proofs.Scanning.{kept_both}
use Rattle.bpf_asm.proofs.tokens.push_ended.Goals as goal

pub returns-in-Some : goal.returns-in-Some
returns-in-Some c =
    kept_both c.args.tokens.now.items c.push_run.new.tokens.items c.push_token.new.tokens.items (run_tokens (small_letters c.args.run.now)) (option_to_list (mark_of c.args.end)) c.push_run.ensures
    (c.push_token.ensures ∙ ap (λ (m : Option Token). take 19 (c.push_run.new.tokens.items ++ option_to_list m)) c.in-Some.ensures)
