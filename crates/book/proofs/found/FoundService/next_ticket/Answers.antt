use Rattle.std.proofs.Common.{refl}
use Rattle.service_profile.specs.Machine.{Situation}
use Rattle.book.proofs.Finds.{part}
use Rattle.book.proofs.found.FoundService.next_ticket.Goals as goal

pub returns : goal.returns
returns c = λ held s as_found. part (λ (t : Situation). t.next_ticket) (λ m b. refl) c.args.self.now.after_stay as_found.before s as_found.found _ (c.next_ticket.ensures held as_found.before as_found.stands)
