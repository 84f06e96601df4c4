use Rattle.book.proofs.Roomy.{versions_roomy}
use Rattle.book.proofs.laws.rolls_leave_room_for_versions.Goals as goal

pub returns : goal.returns
returns c = versions_roomy
