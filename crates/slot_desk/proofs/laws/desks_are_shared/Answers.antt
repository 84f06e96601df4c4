use Rattle.slot_desk.proofs.Showing.{desk_sync}
use Rattle.slot_desk.proofs.laws.desks_are_shared.Goals as goal

pub shared-requires-sync-T : goal.shared-requires-sync-T
shared-requires-sync-T c κs = record { shared = λ d b o ν. desk_sync.shared d b o ν }
