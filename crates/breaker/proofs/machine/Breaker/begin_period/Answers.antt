use Rattle.std.proofs.Common.{ℕ, List, arith, ap, ◌∙◌}
use Rattle.service_profile.specs.declared.notes.Note.{Note}
use Rattle.breaker.proofs.machine.Breaker.begin_period.Goals as goal

pub invariant_of-self : goal.invariant_of-self
invariant_of-self c = record {
  configured = λ moment notes. ap (λ (f : ℕ → List Note → List Note). f moment notes) c.clear.ensures.same ∙ c.self.invariant.configured moment notes;
  counted = record { total = omega arith; failed = omega arith; slow = omega arith };
}
