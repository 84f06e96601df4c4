use Rattle.std.proofs.Common.{ap}
use Rattle.verifier.specs.declared.refusal.Refusal.{Refusal}
use Rattle.verifier.proofs.Refused.{no_value, passed_on, refused_flow, refused_analysis, slot_of}
use Rattle.verifier.proofs.verified.checked.Goals as goal

pub returns-in_err-flow-clause-budget : goal.returns-in_err-flow-clause-budget
returns-in_err-flow-clause-budget c = no_value c.from_residual.result _ _ c.from_residual.ensures.1

pub returns-in_err-flow-clause-some : goal.returns-in_err-flow-clause-some
returns-in_err-flow-clause-some c = no_value c.from_residual.result _ _ c.from_residual.ensures.1

pub returns-in_err-flow-clause-runnable : goal.returns-in_err-flow-clause-runnable
returns-in_err-flow-clause-runnable c = no_value c.from_residual.result _ _ c.from_residual.ensures.1

pub returns-in_err-flow-clause-accepted : goal.returns-in_err-flow-clause-accepted
returns-in_err-flow-clause-accepted c = no_value c.from_residual.result _ _ c.from_residual.ensures.1

pub returns-in_err-flow-clause-refused : goal.returns-in_err-flow-clause-refused
returns-in_err-flow-clause-refused c = passed_on c.from_residual.result _ _ (λ e is. refused_flow c.args.layout c.args.program.now c.in_err-flow.field-0.0 e is c.in_err-flow.ensures.refused) c.from_residual.ensures.1

pub returns-in_err-flow-clause-slot : goal.returns-in_err-flow-clause-slot
returns-in_err-flow-clause-slot c = passed_on c.from_residual.result _ _ (λ e is. slot_of e c.in_err-flow.field-0.0.slot (ap (λ (f : Refusal). f.slot) is) c.in_err-flow.ensures.slot) c.from_residual.ensures.1

pub analyse_awaited-requires-clause-program : goal.analyse_awaited-requires-clause-program
analyse_awaited-requires-clause-program c = c.requires

pub analyse_awaited-requires-clause-accepted : goal.analyse_awaited-requires-clause-accepted
analyse_awaited-requires-clause-accepted c = c.in_ok-flow.ensures.accepted

pub analyse_awaited-requires-clause-flow : goal.analyse_awaited-requires-clause-flow
analyse_awaited-requires-clause-flow c = c.in_ok-flow.ensures.edges

pub returns-in_err-flat-clause-budget : goal.returns-in_err-flat-clause-budget
returns-in_err-flat-clause-budget c = no_value c.from_residual-in_err-flat.result _ _ c.from_residual-in_err-flat.ensures.1

pub returns-in_err-flat-clause-some : goal.returns-in_err-flat-clause-some
returns-in_err-flat-clause-some c = no_value c.from_residual-in_err-flat.result _ _ c.from_residual-in_err-flat.ensures.1

pub returns-in_err-flat-clause-runnable : goal.returns-in_err-flat-clause-runnable
returns-in_err-flat-clause-runnable c = no_value c.from_residual-in_err-flat.result _ _ c.from_residual-in_err-flat.ensures.1

pub returns-in_err-flat-clause-accepted : goal.returns-in_err-flat-clause-accepted
returns-in_err-flat-clause-accepted c = no_value c.from_residual-in_err-flat.result _ _ c.from_residual-in_err-flat.ensures.1

pub returns-in_err-flat-clause-refused : goal.returns-in_err-flat-clause-refused
returns-in_err-flat-clause-refused c = passed_on c.from_residual-in_err-flat.result _ _ (λ e is. refused_analysis c.args.layout c.args.program.now c.in_err-flat.field-0.0 e is c.in_ok-flow.ensures.accepted c.in_err-flat.ensures.refused) c.from_residual-in_err-flat.ensures.1

pub returns-in_err-flat-clause-slot : goal.returns-in_err-flat-clause-slot
returns-in_err-flat-clause-slot c = passed_on c.from_residual-in_err-flat.result _ _ (λ e is. slot_of e c.in_err-flat.field-0.0.slot (ap (λ (f : Refusal). f.slot) is) c.in_err-flat.ensures.slot) c.from_residual-in_err-flat.ensures.1
