use Rattle.std.proofs.Common.{◌≡◌, ◌+◌, ◌∙◌, ℕ, suc, List, Result, Ok, sym, ap, subst, arith}
use Rattle.bpf_profile.specs.declared.machine.TrapReason.{TrapReason}
use Rattle.bpf_profile.specs.declared.slot.Slot.{Slot}
use Rattle.bpf_profile.specs.Layouts.{context_size}
use Rattle.bpf_profile.specs.Machine.{goes}
use Rattle.bpf_profile.specs.Meaning.{step, entry, Reaches}
use Rattle.bpf_slow.specs.declared.progress.Progress.{Progress}
use Rattle.bpf_slow.specs.Progress.{effect_of_step}
use Rattle.bpf_slow.proofs.Traces.{reaches_none, reaches_more}
use Rattle.bpf_slow.proofs.tracing.trace.Goals as goal

pub loop-done-init : goal.loop-done-init
loop-done-init c = reaches_none (context_size c.args.layout) c.args.program.now c.args.outcome.now entry c.in_ok-machine.machine (sym c.in_ok-machine.ensures)

pub loop-done-preserved : goal.loop-done-preserved
loop-done-preserved c =
    let slots = ap (λ (slots : List Slot). step (context_size c.args.layout) slots c.args.outcome.now c.loop-done.machine) (sym c.slots-slots.ensures.all) in
    let answer = ap (λ (r : Result Progress TrapReason). effect_of_step r c.step.new.self) (c.in-Ok-Goes.is ∙ ap Ok c.in-Ok-Goes.field-0-is) in
    let went : step (context_size c.args.layout) c.args.program.now c.args.outcome.now c.loop-done.machine ≡ Ok (goes c.step.new.self) = slots ∙ sym c.step.ensures ∙ answer in
    let plus : suc c.loop-done.done ≡ c.loop-done.done + 1 = omega arith in
    subst (λ (k : ℕ). Reaches (context_size c.args.layout) c.args.program.now c.args.outcome.now entry k c.step.new.self) plus
    (reaches_more (context_size c.args.layout) c.args.program.now c.args.outcome.now entry c.loop-done.machine c.step.new.self c.loop-done.done c.loop-done.invariant went)
