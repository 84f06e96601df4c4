use Rattle.std.proofs.Common.{◌∙◌, sym, ap}
use Rattle.service_profile.specs.Machine.{Situation}
use Rattle.book.proofs.Finds.{same_situation, new_situation}
use Rattle.book.proofs.found.FoundService.standing.Goals as goal

pub returns-in-Some-clause-stands : goal.returns-in-Some-clause-stands
returns-in-Some-clause-stands c = λ held s as_found. (new_situation c.args.self.now.after_stay as_found.before s c.in-Some.standing as_found.found c.in-Some.is).0

pub returns-in-None-clause-stands : goal.returns-in-None-clause-stands
returns-in-None-clause-stands c = λ held s as_found.
    c.standing.ensures ∙ as_found.stands.stands.standing
    ∙ ap (λ (t : Situation). t.standing) (sym (same_situation c.args.self.now.after_stay as_found.before s as_found.found c.in-None.is))
