use Rattle.std.proofs.Common.{refl}
use Rattle.service_profile.specs.Machine.{Situation, current_version}
use Rattle.book.proofs.Finds.{part}
use Rattle.book.proofs.found.FoundService.current_version.Goals as goal

pub returns : goal.returns
returns c = λ held s as_found. part (λ (t : Situation). current_version t) (λ m b. refl) c.args.self.now.after_stay as_found.before s as_found.found _ (c.current_version.ensures held as_found.before as_found.stands)
