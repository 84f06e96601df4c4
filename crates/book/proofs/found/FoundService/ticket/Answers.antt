use Rattle.std.proofs.Common.{◌∙◌, refl}
use Rattle.service_profile.specs.Machine.{Situation}
use Rattle.book.specs.Finding.{ticket_in}
use Rattle.book.proofs.Finds.{part}
use Rattle.book.proofs.Versions.{ticket_same}
use Rattle.book.proofs.found.FoundService.ticket.Goals as goal

pub returns : goal.returns
returns c = λ held s as_found. part (λ (t : Situation). ticket_in t c.args.number) (λ m b. refl) c.args.self.now.after_stay as_found.before s as_found.found _ (c.ticket.ensures.ticket ∙ ticket_same _ as_found.before c.args.number as_found.stands.registered)
