use Rattle.std.proofs.Common.{refl, sym, ◌∙◌}
use Rattle.std.specs.Prelude.{option_map}
use Rattle.bpf_profile.specs.Flow.{next_of, distance_of}
use Rattle.bpf_profile.specs.Machine.{target_of}
use Rattle.flow_check.proofs.Accepted.{all_inside, both_few}
use Rattle.flow_check.proofs.Marks.{edges_listed, successors_none}
use Rattle.flow_check.proofs.edges.successors_of.Goals as goal

pub narrow-requires : goal.narrow-requires
narrow-requires c =
    (both_few c.args.slots.now (record { program = c.requires.program; faultless = c.requires.accepted }) c.args.place c.next_of.result (option_map (target_of c.args.place) (distance_of c.in-Some.instruction))
    (edges_listed _ _ c.in-Some.instruction _ _ (sym c.in-Some.ensures) c.next_of.ensures refl)).0

pub narrow-requires-in-Some : goal.narrow-requires-in-Some
narrow-requires-in-Some c =
    (both_few c.args.slots.now (record { program = c.requires.program; faultless = c.requires.accepted }) c.args.place (next_of c.args.place c.in-Some.instruction) c.jump_of.result
    (edges_listed _ _ c.in-Some.instruction _ _ (sym c.in-Some.ensures) refl c.jump_of.ensures)).1

pub returns-in-Some-clause-edges : goal.returns-in-Some-clause-edges
returns-in-Some-clause-edges c = edges_listed _ _ c.in-Some.instruction _ _ (sym c.in-Some.ensures) (c.narrow.ensures ∙ c.next_of.ensures) (c.narrow-in-Some.ensures ∙ c.jump_of.ensures)

pub returns-in-Some-clause-inside : goal.returns-in-Some-clause-inside
returns-in-Some-clause-inside c =
    all_inside c.args.slots.now (record { program = c.requires.program; faultless = c.requires.accepted }) c.args.place _
    (edges_listed _ _ c.in-Some.instruction _ _ (sym c.in-Some.ensures) (c.narrow.ensures ∙ c.next_of.ensures) (c.narrow-in-Some.ensures ∙ c.jump_of.ensures))

pub returns-in-None-clause-edges : goal.returns-in-None-clause-edges
returns-in-None-clause-edges c = sym (successors_none c.args.slots.now c.args.place (sym c.in-None.ensures))
