-- A reader and a writer that wait.
use Rattle.counted_io.specs.Counting.{CountedData}
use Rattle.counted_io.specs.Wires.{CountsOf}

-- how the calls of a reader or a writer ended that waits until each is done: none answered that it would have to wait
abbrev pub blocking_counts : {T : Type 0} → CountedData T → CountsOf
blocking_counts counted = record { failures = counted.failures; waits = 0; ends = counted.ends }
