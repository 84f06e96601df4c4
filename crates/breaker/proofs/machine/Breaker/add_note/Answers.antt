use Rattle.std.proofs.Common.{ℕ, List, ap, ◌∙◌}
use Rattle.service_profile.specs.declared.notes.Note.{Note}
use Rattle.breaker.proofs.machine.Breaker.add_note.Goals as goal

pub invariant_of-self-else-is_half_open : goal.invariant_of-self-else-is_half_open
invariant_of-self-else-is_half_open c = record {
  configured = λ moment notes. ap (λ (f : ℕ → List Note → List Note). f moment notes) c.record.ensures.same ∙ c.self.invariant.configured moment notes;
  counted = c.self.invariant.counted;
}
