use Rattle.std.proofs.Common.{ap, ℕ, List, []}
use Rattle.bpf_asm.specs.Assembly.{with_lines, then_lines, not_empty, lines_of}
use Rattle.bpf_asm.proofs.Leniency.{texts_alike}
use Rattle.bpf_asm.proofs.laws.texts_read_alike_assemble_alike.Goals as goal

pub returns : goal.returns
returns c = record { lines = texts_alike; letters = λ text other e. ap (λ (xs : List ℕ). then_lines (with_lines 1 [] (lines_of xs)) not_empty) e }
