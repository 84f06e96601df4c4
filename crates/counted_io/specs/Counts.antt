-- What several calls of one direction did to its counts, before and after them.
use Rattle.std.specs.Prelude.{◌≡◌}
use Rattle.counted_io.specs.Counting.{one_more}
use Rattle.counted_io.specs.Wires.{CountsOf}

-- no call failed, would have had to wait, or met the end
abbrev pub CountsNothing : CountsOf → CountsOf → Type 0
CountsNothing before after = (after.failures ≡ before.failures) × (after.waits ≡ before.waits) × (after.ends ≡ before.ends)

-- one call failed, and none would have had to wait, or met the end
abbrev pub CountsFailure : CountsOf → CountsOf → Type 0
CountsFailure before after = (after.failures ≡ one_more before.failures) × (after.waits ≡ before.waits) × (after.ends ≡ before.ends)

-- one call would have had to wait, and none failed, or met the end
abbrev pub CountsWait : CountsOf → CountsOf → Type 0
CountsWait before after = (after.failures ≡ before.failures) × (after.waits ≡ one_more before.waits) × (after.ends ≡ before.ends)

-- one call met the end, and none failed, or would have had to wait
abbrev pub CountsEnd : CountsOf → CountsOf → Type 0
CountsEnd before after = (after.failures ≡ before.failures) × (after.waits ≡ before.waits) × (after.ends ≡ one_more before.ends)
