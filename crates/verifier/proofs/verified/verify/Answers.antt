use Rattle.std.proofs.Common.{ℕ, inl, List, sym, ap, subst}
use Rattle.bpf_profile.specs.declared.layout.Layout.{Layout}
use Rattle.bpf_profile.specs.declared.slot.Slot.{Slot}
use Rattle.bpf_profile.specs.Layouts.{context_size}
use Rattle.bpf_profile.specs.Flow.{IsBudget}
use Rattle.bpf_profile.specs.Safety.{IsSafe}
use Rattle.bpf_profile.specs.Spelling.{Spells}
use Rattle.verifier.specs.declared.refusal.Refusal.{Refusal}
use Rattle.verifier.specs.Verifying.{IsAccepted}
use Rattle.verifier.proofs.Refused.{no_value, passed_on, refused_undecoded, refused_program, slot_of, slot_without_memory}
use Rattle.verifier.proofs.verified.verify.Goals as goal

-- ---- where decoding fails

pub returns-in_err-program-clause-spelled : goal.returns-in_err-program-clause-spelled
returns-in_err-program-clause-spelled c = no_value c.from_residual.result _ _ c.from_residual.ensures.1

pub returns-in_err-program-clause-accepted : goal.returns-in_err-program-clause-accepted
returns-in_err-program-clause-accepted c = no_value c.from_residual.result _ _ c.from_residual.ensures.1

pub returns-in_err-program-clause-safe : goal.returns-in_err-program-clause-safe
returns-in_err-program-clause-safe c = no_value c.from_residual.result _ _ c.from_residual.ensures.1

pub returns-in_err-program-clause-verified : goal.returns-in_err-program-clause-verified
returns-in_err-program-clause-verified c = no_value c.from_residual.result _ _ c.from_residual.ensures.1

pub returns-in_err-program-clause-layout : goal.returns-in_err-program-clause-layout
returns-in_err-program-clause-layout c = no_value c.from_residual.result _ _ c.from_residual.ensures.1

pub returns-in_err-program-clause-refused : goal.returns-in_err-program-clause-refused
returns-in_err-program-clause-refused c = passed_on c.from_residual.result _ _ (λ e is. refused_undecoded c.args.layout c.args.bytes.now c.in_err-program.field-0.0 e is c.in_err-program.ensures.fault) c.from_residual.ensures.1

pub returns-in_err-program-clause-slot : goal.returns-in_err-program-clause-slot
returns-in_err-program-clause-slot c = passed_on c.from_residual.result _ _ (λ e is. slot_of e c.in_err-program.field-0.0.slot (ap (λ (f : Refusal). f.slot) is) c.in_err-program.ensures.slot) c.from_residual.ensures.1

-- ---- where flow or analysis refuse the program

pub returns-in_err-budget-clause-spelled : goal.returns-in_err-budget-clause-spelled
returns-in_err-budget-clause-spelled c = no_value c.from_residual-in_err-budget.result _ _ c.from_residual-in_err-budget.ensures.1

pub returns-in_err-budget-clause-accepted : goal.returns-in_err-budget-clause-accepted
returns-in_err-budget-clause-accepted c = no_value c.from_residual-in_err-budget.result _ _ c.from_residual-in_err-budget.ensures.1

pub returns-in_err-budget-clause-safe : goal.returns-in_err-budget-clause-safe
returns-in_err-budget-clause-safe c = no_value c.from_residual-in_err-budget.result _ _ c.from_residual-in_err-budget.ensures.1

pub returns-in_err-budget-clause-verified : goal.returns-in_err-budget-clause-verified
returns-in_err-budget-clause-verified c = no_value c.from_residual-in_err-budget.result _ _ c.from_residual-in_err-budget.ensures.1

pub returns-in_err-budget-clause-layout : goal.returns-in_err-budget-clause-layout
returns-in_err-budget-clause-layout c = no_value c.from_residual-in_err-budget.result _ _ c.from_residual-in_err-budget.ensures.1

pub returns-in_err-budget-clause-refused : goal.returns-in_err-budget-clause-refused
returns-in_err-budget-clause-refused c = passed_on c.from_residual-in_err-budget.result _ _ (λ e is. refused_program c.args.layout c.args.bytes.now c.in_ok-program.program c.in_err-budget.field-0.0 e is c.in_ok-program.ensures.program c.in_err-budget.ensures.refused) c.from_residual-in_err-budget.ensures.1

pub returns-in_err-budget-clause-slot : goal.returns-in_err-budget-clause-slot
returns-in_err-budget-clause-slot c = passed_on c.from_residual-in_err-budget.result _ _ (λ e is. slot_of e c.in_err-budget.field-0.0.slot (ap (λ (f : Refusal). f.slot) is) c.in_err-budget.ensures.slot) c.from_residual-in_err-budget.ensures.1

-- ---- where no memory is left for what is kept

pub kept-requires-clause-verified : goal.kept-requires-clause-verified
kept-requires-clause-verified c = record { spelled = c.in_ok-program.ensures.program; accepted = c.in_ok-budget.ensures.accepted; budget = c.in_ok-budget.ensures.budget }

pub kept-requires-clause-some : goal.kept-requires-clause-some
kept-requires-clause-some c = c.in_ok-budget.ensures.some

pub kept-requires-clause-runnable : goal.kept-requires-clause-runnable
kept-requires-clause-runnable c = c.in_ok-budget.ensures.runnable

pub returns-in_err-kept-clause-spelled : goal.returns-in_err-kept-clause-spelled
returns-in_err-kept-clause-spelled c = no_value c.from_residual-in_err-kept.result _ _ c.from_residual-in_err-kept.ensures.1

pub returns-in_err-kept-clause-accepted : goal.returns-in_err-kept-clause-accepted
returns-in_err-kept-clause-accepted c = no_value c.from_residual-in_err-kept.result _ _ c.from_residual-in_err-kept.ensures.1

pub returns-in_err-kept-clause-safe : goal.returns-in_err-kept-clause-safe
returns-in_err-kept-clause-safe c = no_value c.from_residual-in_err-kept.result _ _ c.from_residual-in_err-kept.ensures.1

pub returns-in_err-kept-clause-verified : goal.returns-in_err-kept-clause-verified
returns-in_err-kept-clause-verified c = no_value c.from_residual-in_err-kept.result _ _ c.from_residual-in_err-kept.ensures.1

pub returns-in_err-kept-clause-layout : goal.returns-in_err-kept-clause-layout
returns-in_err-kept-clause-layout c = no_value c.from_residual-in_err-kept.result _ _ c.from_residual-in_err-kept.ensures.1

pub returns-in_err-kept-clause-refused : goal.returns-in_err-kept-clause-refused
returns-in_err-kept-clause-refused c = passed_on c.from_residual-in_err-kept.result _ _ (λ e is. inl is) c.from_residual-in_err-kept.ensures.1

pub returns-in_err-kept-clause-slot : goal.returns-in_err-kept-clause-slot
returns-in_err-kept-clause-slot c = passed_on c.from_residual-in_err-kept.result _ _ (λ e is. slot_without_memory e is) c.from_residual-in_err-kept.ensures.1

-- ---- the verified program

pub returns-clause-spelled : goal.returns-clause-spelled
returns-clause-spelled c = subst (λ (slots : List Slot). Spells c.args.bytes.now slots) (sym c.in_ok-kept.ensures.program) c.in_ok-program.ensures.program

pub returns-clause-accepted : goal.returns-clause-accepted
returns-clause-accepted c = subst (IsAccepted c.args.layout) (sym c.in_ok-kept.ensures.program) c.in_ok-budget.ensures.accepted

pub returns-clause-safe : goal.returns-clause-safe
returns-clause-safe c =
    subst (λ (slots : List Slot). IsSafe (context_size c.args.layout) slots c.in_ok-kept.field-0.budget) (sym c.in_ok-kept.ensures.program)
    (subst (λ (budget : ℕ). IsSafe (context_size c.args.layout) c.in_ok-program.program budget) (sym c.in_ok-kept.ensures.budget) c.in_ok-budget.ensures.runnable.safe)

pub returns-clause-verified : goal.returns-clause-verified
returns-clause-verified c = record {
  spelled = subst (λ (slots : List Slot). Spells c.args.bytes.now slots) (sym c.in_ok-kept.ensures.program) c.in_ok-program.ensures.program;
  accepted =
      subst (λ (layout : Layout). IsAccepted layout c.in_ok-kept.field-0.slots) (sym c.in_ok-kept.ensures.layout)
      (subst (IsAccepted c.args.layout) (sym c.in_ok-kept.ensures.program) c.in_ok-budget.ensures.accepted);
  budget =
      subst (λ (slots : List Slot). IsBudget slots c.in_ok-kept.field-0.budget) (sym c.in_ok-kept.ensures.program)
      (subst (λ (budget : ℕ). IsBudget c.in_ok-program.program budget) (sym c.in_ok-kept.ensures.budget) c.in_ok-budget.ensures.budget);
}

pub returns-clause-layout : goal.returns-clause-layout
returns-clause-layout c = c.in_ok-kept.ensures.layout
