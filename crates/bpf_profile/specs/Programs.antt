-- Verified programs as data.
use Rattle.std.specs.Prelude.{ℕ, List}
use Rattle.bpf_profile.specs.declared.layout.Layout.{Layout}
use Rattle.bpf_profile.specs.declared.slot.Slot.{Slot}

-- what contracts see of a verified program: its slots, how many steps it takes at most, and how much of a record it sees
pub record VerifiedProgram : Type 0 where
  pub slots : List Slot
  pub budget : ℕ
  pub layout : Layout
