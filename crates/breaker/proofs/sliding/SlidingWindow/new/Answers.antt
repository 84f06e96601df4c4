use Rattle.std.proofs.Common.{◌∙◌}
use Rattle.breaker.proofs.Deciding.{counts_calls}
use Rattle.breaker.proofs.sliding.SlidingWindow.new.Goals as goal

pub returns-in_ok-window-in-CountBased-clause-configured : goal.returns-in_ok-window-in-CountBased-clause-configured
returns-in_ok-window-in-CountBased-clause-configured c = λ moment notes.
    c.in_ok-window-in-CountBased.ensures.counted moment notes ∙ counts_calls c.args.config.now c.parts-parts.result moment notes c.parts-parts.ensures.parts c.in-CountBased.is
