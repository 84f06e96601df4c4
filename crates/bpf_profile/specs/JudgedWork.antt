-- Judged work as data: a program, an outcome, and what the program says of it.
use Rattle.std.specs.Prelude.{ℕ}
use Rattle.bpf_profile.specs.declared.machine.Verdict.{Verdict}
use Rattle.bpf_profile.specs.Layouts.{context_size}
use Rattle.bpf_profile.specs.Meaning.{Judges}
use Rattle.bpf_profile.specs.Outcomes.{Outcome}
use Rattle.bpf_profile.specs.Programs.{VerifiedProgram}

pub record JudgedData : Type 0 where
  pub program : VerifiedProgram
  pub outcome : Outcome
  pub verdict : Verdict
  pub steps : ℕ

-- verdict and steps are those of the program on the outcome
abbrev pub IsTied : JudgedData → Type 0
IsTied work = Judges (context_size work.program.layout) work.program.slots work.outcome work.verdict work.steps
