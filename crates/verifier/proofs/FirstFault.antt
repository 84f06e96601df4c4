-- The first fault of an analysis is found by the fold over any places.
use Rattle.std.proofs.Common.{◌≡◌, ℕ, zero, suc, List, refl, ap}
use Rattle.std.specs.Option.{option_or}
use Rattle.std.specs.Prelude.{option_map}
use Rattle.abs_domain.specs.declared.domain.Domain.{Ghosts}
use Rattle.bpf_profile.specs.declared.slot.Slot.{Slot}
use Rattle.bpf_profile.proofs.FirstFaults.{least_from}
use Rattle.verifier.specs.Analysis.{fault_at, fault_from}

pub analysis_is : {X : Type 0} (domain : Ghosts X) (context : ℕ) (slots : List Slot) (place count : ℕ) → fault_from domain context slots place count ≡ least_from (fault_at domain context slots) place count
unfolding fault_from least_from
analysis_is domain context slots place zero = refl
analysis_is domain context slots place (suc count) =
    ap (option_or (option_map (λ number. record { slot = place; number = number }) (fault_at domain context slots place))) (analysis_is domain context slots (suc place) count)
