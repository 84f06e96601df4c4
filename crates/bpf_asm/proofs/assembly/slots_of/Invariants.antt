use Rattle.std.proofs.Common.{◌≡◌, ◌≤◌, ◌+◌, [], length}
use Rattle.bpf_asm.specs.Assembly.{with_lines, lines_of, small_letters}
use Rattle.bpf_asm.proofs.assembly.slots_of.Given as goal

abbrev pub invariant-lines : goal.invariant-lines
invariant-lines l = (with_lines l.number l.slots.items (lines_of (small_letters l.rest)) ≡ with_lines 1 [] (lines_of (small_letters l.text))) × (l.number + length l.rest ≤ length l.text + 1)

abbrev pub decreases-lines : goal.decreases-lines
decreases-lines l = length l.rest
