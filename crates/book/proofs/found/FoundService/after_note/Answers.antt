use Rattle.std.proofs.Common.{refl, subst}
use Rattle.windows.specs.Notes.{AreNotAfter}
use Rattle.service_profile.specs.Machine.{Situation}
use Rattle.book.proofs.Finds.{same_situation, new_situation}
use Rattle.book.proofs.found.FoundService.after_note.Goals as goal

pub returns-in-Some : goal.returns-in-Some
returns-in-Some c = λ held s as_found before.
    let ended = new_situation c.args.self.now.after_stay as_found.before s c.in-Some.standing as_found.found c.in-Some.is in
    rw (ended.0, ended.2) refl

pub returns-in-None : goal.returns-in-None
returns-in-None c = λ held s as_found before.
    let same = same_situation c.args.self.now.after_stay as_found.before s as_found.found c.in-None.is in
    rw same (c.after_note.ensures held as_found.before as_found.stands (subst (λ (t : Situation). AreNotAfter c.args.note.moment t.notes) same before))
