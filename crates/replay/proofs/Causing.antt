-- Why a replay ends early, after a first part of it went well.
use Rattle.std.proofs.Common.{◌≡◌, ℕ, List, Option, rules}
use Rattle.replay.specs.declared.error.ReplayError.{ReplayError}
use Rattle.replay.specs.Causes.{IsCauseOf}
use Rattle.replay.specs.Lines.{LosesLines}

-- lines were taken off before
pub cause_on : (e : ReplayError) (reads mid after writes writes_after count : ℕ) (input left : Option (List ℕ))
    → mid ≡ reads → LosesLines count input left → IsCauseOf e mid after writes writes_after left → IsCauseOf e reads after writes writes_after input
cause_on e reads mid after writes writes_after count input left same lost cause = search rules
