use Rattle.std.proofs.Common.{refl, nat_le, length}
use Rattle.service_profile.specs.Machine.{Situation}
use Rattle.book.proofs.Finds.{part}
use Rattle.book.proofs.found.FoundService.is_taken.Goals as goal

pub returns : goal.returns
returns c = λ held s as_found. part (λ (t : Situation). nat_le t.config.max_concurrent_calls (length t.open_tickets)) (λ m b. refl) c.args.self.now.after_stay as_found.before s as_found.found _ (c.is_taken.ensures held as_found.before as_found.stands)
