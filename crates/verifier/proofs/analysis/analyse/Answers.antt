use Rattle.std.proofs.Common.{◌≡◌, ◌⊎◌, inl, List, Option, Box, Some, None, ◌++◌, length, take, drop, sym, ap, ◌∙◌, subst}
use Rattle.abs_states.specs.declared.state.AbsState.{AbsState}
use Rattle.bpf_profile.specs.Layouts.{context_size}
use Rattle.bpf_profile.specs.FlowFaults.{flow_fault}
use Rattle.bpf_profile.specs.Spelling.{IsProgram}
use Rattle.bpf_profile.specs.declared.slot.Slot.{Slot}
use Rattle.verifier.specs.Analysis.{analysis_fault, AreKnown}
use Rattle.verifier.specs.Passes.{seen}
use Rattle.verifier.specs.declared.refusal.Refusal.{Refusal}
use Rattle.verifier.specs.Verifying.{IsFlowOf, fault_of, out_of_memory}
use Rattle.verifier.proofs.Edges.{is_flow_of}
use Rattle.verifier.proofs.Held.{taken_whole}
use Rattle.verifier.proofs.Refused.{no_value, passed_on, slot_of, slot_without_memory}
use Rattle.verifier.proofs.Sound.{sound, are_words}
use Rattle.verifier.proofs.analysis.analyse.Goals as goal

pub pass_all-requires : goal.pass_all-requires
pass_all-requires g c =
    let all = c.in_ok-slots.ensures.same in (
      c.requires.fits,
      (
        c.requires.fits,
        (
          ap (λ (states : List (Option (Box (AbsState g.row.D.Denot) _))). seen states) c.deref_mut.ensures.value ∙ c.in_ok-states.ensures,
          (
            c.in_ok-slots.ensures.program,
            (ap flow_fault all ∙ c.requires.accepted, subst (λ (slots : List Slot). IsFlowOf slots c.args.flow.now.edges) (sym all) (is_flow_of c.args.program.now c.args.flow.now.edges c.requires.flow)),
          ),
        ),
      ),
    )

pub returns-clause-known : goal.returns-clause-known
returns-clause-known g c =
    subst (λ (slots : List Slot). AreKnown g.D.Domain (context_size c.args.layout) slots (seen (take c.in_ok-states.states.len (c.pass_all.new.states ++ drop (length c.pass_all.new.states) c.in_ok-states.states.items)))) c.in_ok-slots.ensures.same
    (subst (λ (items : List (Option (Box (AbsState g.row.D.Denot) _))). AreKnown g.D.Domain (context_size c.args.layout) c.in_ok-slots.slots (seen items))
    (sym (taken_whole c.in_ok-states.states.len c.pass_all.new.states c.in_ok-states.states.items c.deref_mut.result.now c.pass_all.auto.states c.deref_mut.ensures.value c.deref_mut.ensures.len))
    c.in_ok-pass_all.ensures.known)

pub returns-clause-accepted : goal.returns-clause-accepted
returns-clause-accepted g c = subst (λ (slots : List Slot). analysis_fault g.D.Domain (context_size c.args.layout) slots ≡ None) c.in_ok-slots.ensures.same c.in_ok-pass_all.ensures.passed

-- the laws of the domain are all that soundness stands on
pub returns-clause-safe : goal.returns-clause-safe
returns-clause-safe g c = λ budget budgeted.
    sound g.D.Domain (record { registers = record { sound = record { words = g.met.D.Domain.contained_are_words; constants = g.met.D.Domain.words_are_contained; any = g.met.D.Domain.any_contains_all; operations = g.met.D.Domain.operations_are_contained; shifts = g.met.D.Domain.shifts_are_contained; conversions = g.met.D.Domain.conversions_are_contained; bounds = g.met.D.Domain.bounds_hold }; refines = record { bounds = g.met.D.Domain.bounds_hold; first = g.met.D.Domain.refining_keeps_the_first; second = g.met.D.Domain.refining_keeps_the_second }; first = g.met.D.Domain.joins_contain_the_first; second = g.met.D.Domain.joins_contain_the_second }; cells = record { words = g.met.D.Domain.contained_are_words; any = g.met.D.Domain.any_contains_all; first = g.met.D.Domain.joins_contain_the_first; second = g.met.D.Domain.joins_contain_the_second; conversions = g.met.D.Domain.conversions_are_contained; bounds = g.met.D.Domain.bounds_hold; zeros = g.met.D.Domain.low_zeros_hold } })
    (context_size c.args.layout) c.args.program.now budget (subst IsProgram c.in_ok-slots.ensures.same c.in_ok-slots.ensures.program) c.requires.accepted budgeted
    (subst (λ (slots : List Slot). analysis_fault g.D.Domain (context_size c.args.layout) slots ≡ None) c.in_ok-slots.ensures.same c.in_ok-pass_all.ensures.passed)
    (are_words c.args.program.now (subst IsProgram c.in_ok-slots.ensures.same c.in_ok-slots.ensures.program))

pub returns-in_err-slots-clause-known : goal.returns-in_err-slots-clause-known
returns-in_err-slots-clause-known g c = no_value c.from_residual.result _ _ c.from_residual.ensures.1

pub returns-in_err-slots-clause-accepted : goal.returns-in_err-slots-clause-accepted
returns-in_err-slots-clause-accepted g c = no_value c.from_residual.result _ _ c.from_residual.ensures.1

pub returns-in_err-slots-clause-safe : goal.returns-in_err-slots-clause-safe
returns-in_err-slots-clause-safe g c = no_value c.from_residual.result _ _ c.from_residual.ensures.1

pub returns-in_err-slots-clause-refused : goal.returns-in_err-slots-clause-refused
returns-in_err-slots-clause-refused g c = passed_on c.from_residual.result _ _ (λ e is. inl is) c.from_residual.ensures.1

pub returns-in_err-slots-clause-slot : goal.returns-in_err-slots-clause-slot
returns-in_err-slots-clause-slot g c = passed_on c.from_residual.result _ _ (λ e is. slot_without_memory e is) c.from_residual.ensures.1

pub first_states-requires : goal.first_states-requires
first_states-requires g c = (c.requires.fits, (c.requires.fits, c.in_ok-slots.ensures.program.some))

pub returns-in_err-states-clause-known : goal.returns-in_err-states-clause-known
returns-in_err-states-clause-known g c = no_value c.from_residual-in_err-states.result _ _ c.from_residual-in_err-states.ensures.1

pub returns-in_err-states-clause-accepted : goal.returns-in_err-states-clause-accepted
returns-in_err-states-clause-accepted g c = no_value c.from_residual-in_err-states.result _ _ c.from_residual-in_err-states.ensures.1

pub returns-in_err-states-clause-safe : goal.returns-in_err-states-clause-safe
returns-in_err-states-clause-safe g c = no_value c.from_residual-in_err-states.result _ _ c.from_residual-in_err-states.ensures.1

pub returns-in_err-states-clause-refused : goal.returns-in_err-states-clause-refused
returns-in_err-states-clause-refused g c = passed_on c.from_residual-in_err-states.result _ _ (λ e is. inl is) c.from_residual-in_err-states.ensures.1

pub returns-in_err-states-clause-slot : goal.returns-in_err-states-clause-slot
returns-in_err-states-clause-slot g c = passed_on c.from_residual-in_err-states.result _ _ (λ e is. slot_without_memory e is) c.from_residual-in_err-states.ensures.1

pub returns-in_err-pass_all-clause-known : goal.returns-in_err-pass_all-clause-known
returns-in_err-pass_all-clause-known g c = no_value c.from_residual-in_err-pass_all.result _ _ c.from_residual-in_err-pass_all.ensures.1

pub returns-in_err-pass_all-clause-accepted : goal.returns-in_err-pass_all-clause-accepted
returns-in_err-pass_all-clause-accepted g c = no_value c.from_residual-in_err-pass_all.result _ _ c.from_residual-in_err-pass_all.ensures.1

pub returns-in_err-pass_all-clause-safe : goal.returns-in_err-pass_all-clause-safe
returns-in_err-pass_all-clause-safe g c = no_value c.from_residual-in_err-pass_all.result _ _ c.from_residual-in_err-pass_all.ensures.1

pub returns-in_err-pass_all-clause-refused : goal.returns-in_err-pass_all-clause-refused
returns-in_err-pass_all-clause-refused g c =
    let error = c.in_err-pass_all.field-0.0 in
    passed_on c.from_residual-in_err-pass_all.result _ _
    (λ e is. subst (λ (f : Refusal). (f ≡ out_of_memory) ⊎ (analysis_fault g.D.Domain (context_size c.args.layout) c.args.program.now ≡ Some (fault_of f))) (sym is)
    (subst (λ (slots : List Slot). (error ≡ out_of_memory) ⊎ (analysis_fault g.D.Domain (context_size c.args.layout) slots ≡ Some (fault_of error))) c.in_ok-slots.ensures.same c.in_err-pass_all.ensures.fault))
    c.from_residual-in_err-pass_all.ensures.1

pub returns-in_err-pass_all-clause-slot : goal.returns-in_err-pass_all-clause-slot
returns-in_err-pass_all-clause-slot g c = passed_on c.from_residual-in_err-pass_all.result _ _ (λ e is. slot_of e c.in_err-pass_all.field-0.0.slot (ap (λ (f : Refusal). f.slot) is) c.in_err-pass_all.ensures.slot) c.from_residual-in_err-pass_all.ensures.1
