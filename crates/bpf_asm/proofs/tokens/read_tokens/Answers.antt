use Rattle.std.proofs.Common.{◌∙◌, sym, ap, ℕ, List, [], take, arith}
use Rattle.bpf_asm.specs.Assembly.{small_letters}
use Rattle.bpf_asm.specs.Tokens.{tokens_after}
use Rattle.bpf_asm.proofs.Letters.{content_small}
use Rattle.bpf_asm.proofs.Scanning.{kept_ended, kept_goes_on, kept_last}
use Rattle.bpf_asm.proofs.tokens.read_tokens.Goals as goal
use Rattle.bpf_asm.proofs.tokens.read_tokens.Goals.{then-ends_run, else-ends_run}

pub loop-place-preserved : goal.loop-place-preserved
loop-place-preserved c =
    let content = c.content_of-content.result.now in
    let all = take 19 (tokens_after [] (small_letters content)) in
    elim c.if-ends_run.branch [
      | then-ends_run w ↦ rw (w.tokens-is, w.start-is) (omega arith, kept_ended content c.loop-place.tokens.items _ c.loop-place.start c.loop-place.place all c.loop-place-test.true (sym c.ends_run.ensures ∙ w.if-ends_run.true) w.push_ended.ensures c.loop-place.invariant.1)
      | else-ends_run w ↦ rw (w.tokens-is, w.start-is) (omega arith, kept_goes_on content c.loop-place.tokens.items c.loop-place.start c.loop-place.place all c.loop-place-test.true c.loop-place.invariant.0 (sym c.ends_run.ensures ∙ w.if-ends_run.false) c.loop-place.invariant.1)
    ]

pub returns : goal.returns
returns c =
    let content = c.content_of-content.result.now in
    kept_last content c.loop-place.tokens.items c.push_run.new.tokens.items c.loop-place.start c.loop-place.place (take 19 (tokens_after [] (small_letters content))) c.loop-place-test.false c.loop-place.invariant.0 c.push_run.ensures c.loop-place.invariant.1
    ∙ ap (λ (xs : List ℕ). take 19 (tokens_after [] (small_letters xs))) c.content_of-content.ensures ∙ ap (λ (xs : List ℕ). take 19 (tokens_after [] xs)) (sym (content_small c.args.line.now))
