use Rattle.bpf_profile.specs.Layouts.{context_size}
use Rattle.bpf_profile.specs.Meaning.{entry, Reaches}
use Rattle.bpf_slow.proofs.tracing.trace.Given as goal

-- so many steps were made
abbrev pub invariant-loop-done : goal.invariant-loop-done
invariant-loop-done l = Reaches (context_size l.layout) l.program l.outcome entry l.done l.machine
