use Rattle.std.proofs.Common.{ℕ, ap, ◌∙◌, length, take, replicate, false}
use Rattle.std.proofs.lemmas.List.{take-replicate}
use Rattle.bpf_profile.specs.Limits.{most_slots}
use Rattle.verifier.proofs.width.width_of.Goals as goal

pub most_awaited-requires-clause-unmarked : goal.most_awaited-requires-clause-unmarked
most_awaited-requires-clause-unmarked c = ap (λ (n : ℕ). take n (replicate most_slots false)) c.len.ensures.count ∙ take-replicate (length c.args.slots.now) most_slots false c.requires.program.few
