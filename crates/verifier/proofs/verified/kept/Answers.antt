use Rattle.std.proofs.Common.{ℕ, List, sym, subst}
use Rattle.bpf_profile.specs.declared.slot.Slot.{Slot}
use Rattle.bpf_profile.specs.Layouts.{context_size}
use Rattle.verifier.specs.Regions.{IsRunnable}
use Rattle.verifier.specs.Verifying.{IsVerification}
use Rattle.verifier.proofs.verified.kept.Goals as goal

pub invariant_of-result : goal.invariant_of-result
invariant_of-result c = record {
  verified =
      subst (λ (bytes : List ℕ). IsVerification bytes (record { slots = c.into_program.result; budget = c.args.budget; layout = c.args.layout })) (sym (c.in_ok-bytes.ensures.items_if_clones_equal (λ x y e. e)))
      (subst (λ (slots : List Slot). IsVerification c.args.bytes.now (record { slots = slots; budget = c.args.budget; layout = c.args.layout })) (sym c.into_program.ensures) c.requires.verified);
  some_steps = c.requires.some;
  runnable = subst (λ (slots : List Slot). IsRunnable (context_size c.args.layout) slots c.args.budget c.args.flat) (sym c.into_program.ensures) c.requires.runnable;
}
