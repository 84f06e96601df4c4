use Rattle.std.proofs.Common.{ℕ, ◌==◌, not, take, refl, arith}
use Rattle.std.proofs.lemmas.List.{length-take}
use Rattle.std.proofs.lemmas.List.Filters.{length-filter_both}
use Rattle.classifier_commands.proofs.assembling.line_at.Goals as goal

pub overflow_add-result : goal.overflow_add-result
overflow_add-result c =
    let fewer = length-filter_both (λ (b : ℕ). b == 10) (λ (b : ℕ). not (b == 10)) (λ b. refl) (take c.args.index c.args.text.now) in
    omega (arith, c.line_feeds.ensures, fewer, length-take c.args.index c.args.text.now, c.requires)
