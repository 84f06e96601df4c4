-- How many lines of a service are written in a second.
use Rattle.std.specs.Prelude.{ℕ, suc, ◌/◌, ◌-◌, ◌==◌, ◌^◌, min, nat_le, Bool, if◌then◌else◌, Option, Some, None}
use Rattle.service_log.specs.declared.quota.Quota.{Quota}

-- a service has so many lines in a second at most
abbrev pub most_lines : ℕ
most_lines = 100

-- how many lines were written in the second of this moment
abbrev pub written_at : Quota → ℕ → ℕ
written_at quota moment = if moment / 1000 == quota.second then quota.written else 0

-- the second has all its lines
abbrev pub is_used_up : Quota → ℕ → Bool
is_used_up quota moment = nat_le most_lines (written_at quota moment)

-- how many lines were left out before a line that is written at this moment; none is written where the second has all its lines
abbrev pub taken : Quota → ℕ → Option ℕ
taken quota moment = if is_used_up quota moment then None else Some quota.left_out

-- a line more was left out; or it was written, and none was left out since
abbrev pub after_take : Quota → ℕ → Quota
after_take quota moment =
    if is_used_up quota moment then record { second = moment / 1000; written = written_at quota moment; left_out = min (suc quota.left_out) (2 ^ 64 - 1) }
    else record { second = moment / 1000; written = suc (written_at quota moment); left_out = 0 }
