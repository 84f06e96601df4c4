-- The words for verdicts.
use Rattle.std.specs.Prelude.{ℕ, List, codes}
use Rattle.bpf_profile.specs.declared.machine.Verdict.{Verdict}
use Rattle.bpf_profile.specs.declared.machine.Verdict.TheVariants as verdict

abbrev pub verdict_name : Verdict → List ℕ
verdict_name verdict.Success = codes "success"
verdict_name verdict.Failure = codes "failure"
verdict_name verdict.Ignored = codes "ignored"
