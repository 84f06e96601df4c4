use Rattle.std.proofs.Common.{ap, refl, ◌∙◌}
use Rattle.http_front.proofs.Phrases.{phrase_of-found}
use Rattle.http_front.proofs.phrase.phrase_of.Goals as goal

pub returns-in-Ok : goal.returns-in-Ok
returns-in-Ok c =
    ap (λ text. text.now) c.unwrap_or.ensures
    ∙ phrase_of-found c.args.status c.in-Ok.code c.canonical_reason.result _ c.in-Ok.ensures.0 c.in-Ok.ensures.1 c.canonical_reason.ensures.value refl
