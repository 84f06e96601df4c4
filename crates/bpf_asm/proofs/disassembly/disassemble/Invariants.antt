use Rattle.std.proofs.Common.{◌≡◌, ◌++◌, drop}
use Rattle.std.specs.String.{string_bytes}
use Rattle.bpf_asm.specs.Canonical.{text_of}
use Rattle.bpf_asm.proofs.disassembly.disassemble.Given as goal

abbrev pub invariant-loop-place : goal.invariant-loop-place
invariant-loop-place l = string_bytes l.text ++ text_of (drop l.place l.slots) ≡ text_of l.slots
