use Rattle.std.proofs.Common.{length, sym, ◌∙◌}
use Rattle.bpf_profile.proofs.FirstFaults.{least_is, is_least, none_is, is_none}
use Rattle.verifier.specs.Analysis.{fault_at}
use Rattle.verifier.proofs.FirstFault.{analysis_is}
use Rattle.verifier.proofs.laws.analysis_fault_is_the_least.Goals as goal
use Rattle.bpf_profile.specs.Layouts.{context_size}

pub returns : goal.returns
returns g c = record {
  some = λ layout slots fault. (
    λ e. least_is (fault_at g.D.Domain (context_size layout) slots) (length slots) fault (sym (analysis_is g.D.Domain (context_size layout) slots 0 (length slots)) ∙ e),
    λ p. analysis_is g.D.Domain (context_size layout) slots 0 (length slots) ∙ is_least (fault_at g.D.Domain (context_size layout) slots) (length slots) fault p,
  );
  none = λ layout slots. (
    λ e. none_is (fault_at g.D.Domain (context_size layout) slots) (length slots) (sym (analysis_is g.D.Domain (context_size layout) slots 0 (length slots)) ∙ e),
    λ p. analysis_is g.D.Domain (context_size layout) slots 0 (length slots) ∙ is_none (fault_at g.D.Domain (context_size layout) slots) (length slots) p,
  );
}
