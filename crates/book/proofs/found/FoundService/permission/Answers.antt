use Rattle.std.proofs.Common.{◌∙◌, refl}
use Rattle.book.specs.Situations.{breaker_of}
use Rattle.book.proofs.Finds.{same_situation, new_situation}
use Rattle.book.proofs.found.FoundService.permission.Goals as goal

pub returns-in-Some : goal.returns-in-Some
returns-in-Some c = λ held s as_found.
    let ended = new_situation c.args.self.now.after_stay as_found.before s c.in-Some.standing as_found.found c.in-Some.is in
    c.permission_in_new_period.ensures (breaker_of as_found.before) as_found.stands.stands ∙ rw (ended.0, ended.2) refl

pub returns-in-None : goal.returns-in-None
returns-in-None c = λ held s as_found.
    rw (same_situation c.args.self.now.after_stay as_found.before s as_found.found c.in-None.is) (c.permission.ensures held as_found.before as_found.stands)
