use Rattle.std.proofs.Common.{◌≡◌, ◌≤◌, ◌-◌, ◌++◌, take, drop, []}
use Rattle.bpf_asm.specs.Assembly.{small_letters}
use Rattle.bpf_asm.specs.Tokens.{tokens_after}
use Rattle.bpf_asm.proofs.tokens.read_tokens.Given as goal

abbrev pub invariant-loop-place : goal.invariant-loop-place
invariant-loop-place l =
    (l.start ≤ l.place)
    × (take 19 (l.tokens.items ++ tokens_after (take (l.place - l.start) (drop l.start (small_letters l.content))) (drop l.place (small_letters l.content))) ≡ take 19 (tokens_after [] (small_letters l.content)))
