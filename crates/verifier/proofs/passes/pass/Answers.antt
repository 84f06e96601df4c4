use Rattle.std.proofs.Common.{◌≡◌, inl, ◌<◌, ℕ, Some, sym, ap, ◌∙◌, subst, arith}
use Rattle.std.specs.Prelude.{IfSome, box_value}
use Rattle.abs_states.specs.declared.state.AbsState.{AbsState}
use Rattle.bpf_profile.specs.Layouts.{context_size}
use Rattle.bpf_profile.specs.Meaning.{instruction_at}
use Rattle.verifier.specs.Passes.{state_of, seen}
use Rattle.verifier.proofs.Edges.{edges_are}
use Rattle.verifier.proofs.Known.{on_ok_map, if_err_map}
use Rattle.verifier.proofs.Refused.{no_value, passed_on}
use Rattle.verifier.proofs.Taken.{seen_some, seen_none, tail_sends, unknown_sends, unknown_passes, edges_send, edges_pass, fails_or_memory}
use Rattle.verifier.proofs.passes.pass.Goals as goal

pub send-requires : goal.send-requires
send-requires g c = (c.requires.fits, (c.requires.fits, (subst (λ (n : ℕ). IfSome c.edges_at-edges.result.next (λ to. to < n)) (sym c.requires.states) c.edges_at-edges.ensures.next, subst (λ (n : ℕ). IfSome c.edges_at-edges.result.target (λ to. to < n)) (sym c.requires.states) c.edges_at-edges.ensures.target)))

pub returns-clause-passed : goal.returns-clause-passed
returns-clause-passed g c =
    let here : state_of (seen c.args.states.now) c.args.place ≡ Some (box_value c.in-Some-states.held) = seen_some c.args.states.now c.args.place _ c.in-Some-states.held (omega arith) c.in-Some-states.is in
    let known : state_of (seen c.args.states.now) c.args.place ≡ Some (box_value c.in_ok-state.state) = here ∙ ap (λ (s : AbsState g.row.D.Denot). Some s) (sym (c.in_ok-state.ensures ∙ c.deref.ensures)) in
    on_ok_map c.send.result _ _
    (edges_pass g.D.Domain (context_size c.args.layout) (instruction_at c.args.slots.now c.args.place) (state_of (seen c.args.states.now) c.args.place) c.in-Some.instruction (box_value c.in_ok-state.state) (sym c.in-Some.ensures) known)
    c.send.ensures.passed

pub returns-clause-sent : goal.returns-clause-sent
returns-clause-sent g c =
    let here : state_of (seen c.args.states.now) c.args.place ≡ Some (box_value c.in-Some-states.held) = seen_some c.args.states.now c.args.place _ c.in-Some-states.held (omega arith) c.in-Some-states.is in
    let known : state_of (seen c.args.states.now) c.args.place ≡ Some (box_value c.in_ok-state.state) = here ∙ ap (λ (s : AbsState g.row.D.Denot). Some s) (sym (c.in_ok-state.ensures ∙ c.deref.ensures)) in
    on_ok_map c.send.result _ _
    (edges_send g.D.Domain (context_size c.args.layout) c.args.place (instruction_at c.args.slots.now c.args.place) (state_of (seen c.args.states.now) c.args.place) c.in-Some.instruction (box_value c.in_ok-state.state) c.edges_at-edges.result.next c.edges_at-edges.result.target (seen c.args.states.now) (seen c.send.new.states) (sym c.in-Some.ensures) known
    (c.edges_at-edges.ensures.edges ∙ edges_are c.args.slots.now c.args.place c.in-Some.instruction (sym c.in-Some.ensures)))
    c.send.ensures.sent

pub returns-clause-fault : goal.returns-clause-fault
returns-clause-fault g c =
    let here : state_of (seen c.args.states.now) c.args.place ≡ Some (box_value c.in-Some-states.held) = seen_some c.args.states.now c.args.place _ c.in-Some-states.held (omega arith) c.in-Some-states.is in
    let known : state_of (seen c.args.states.now) c.args.place ≡ Some (box_value c.in_ok-state.state) = here ∙ ap (λ (s : AbsState g.row.D.Denot). Some s) (sym (c.in_ok-state.ensures ∙ c.deref.ensures)) in
    if_err_map c.send.result _ _
    (λ e. fails_or_memory g.D.Domain (context_size c.args.layout) c.args.place (instruction_at c.args.slots.now c.args.place) (state_of (seen c.args.states.now) c.args.place) c.in-Some.instruction (box_value c.in_ok-state.state) e (sym c.in-Some.ensures) known)
    c.send.ensures.fault

pub returns-in_default-clause-sent : goal.returns-in_default-clause-sent
returns-in_default-clause-sent g c = tail_sends g.D.Domain (context_size c.args.layout) c.args.place (instruction_at c.args.slots.now c.args.place) (state_of (seen c.args.states.now) c.args.place) (seen c.args.states.now) (sym c.at.ensures ∙ c.in_default.is)

pub returns-in_default-states-clause-passed : goal.returns-in_default-states-clause-passed
returns-in_default-states-clause-passed g c = unknown_passes g.D.Domain (context_size c.args.layout) (instruction_at c.args.slots.now c.args.place) (state_of (seen c.args.states.now) c.args.place) (seen_none c.args.states.now c.args.place _ (omega arith) c.in_default-states.is)

pub returns-in_default-states-clause-sent : goal.returns-in_default-states-clause-sent
returns-in_default-states-clause-sent g c = unknown_sends g.D.Domain (context_size c.args.layout) c.args.place (instruction_at c.args.slots.now c.args.place) (state_of (seen c.args.states.now) c.args.place) (seen c.args.states.now) (seen_none c.args.states.now c.args.place _ (omega arith) c.in_default-states.is)

pub returns-in_err-state-clause-passed : goal.returns-in_err-state-clause-passed
returns-in_err-state-clause-passed g c = no_value c.from_residual.result _ _ c.from_residual.ensures.1

pub returns-in_err-state-clause-sent : goal.returns-in_err-state-clause-sent
returns-in_err-state-clause-sent g c = no_value c.from_residual.result _ _ c.from_residual.ensures.1

pub returns-in_err-state-clause-fault : goal.returns-in_err-state-clause-fault
returns-in_err-state-clause-fault g c = passed_on c.from_residual.result _ _ (λ e is. inl is) c.from_residual.ensures.1

pub boxed_copy-requires : goal.boxed_copy-requires
boxed_copy-requires g c = (c.requires.fits, c.requires.fits)

pub edges_at-edges-requires : goal.edges_at-edges-requires
edges_at-edges-requires g c = record { place = c.requires.place; program = c.requires.program; accepted = c.requires.accepted; flow = c.requires.flow }
