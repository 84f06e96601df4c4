use Rattle.std.proofs.Common.{◌≡◌, true, false, ◌∙◌, ap, sym, refl}
use Rattle.bpf_profile.specs.Programs.{VerifiedProgram}
use Rattle.service_profile.specs.Machine.{same_program}
use Rattle.refusals.specs.declared.RefusalNumber.TheVariants as refusal
use Rattle.service_profile.specs.declared.standings.Standing.{Standing}
use Rattle.book.specs.Effects.{refused_plan}
use Rattle.book.proofs.Planned.{of_stranger}
use Rattle.book.proofs.Judging.{judgement_by_slots}
use Rattle.book.proofs.machine.finished_by.Goals as goal

pub returns-then-not-same_program : goal.returns-then-not-same_program
returns-then-not-same_program c = λ held s stands before.
    let shown : c.deref.result.now ≡ c.args.judged.now.program = c.deref.ensures ∙ c.program.ensures.program in
    let other : same_program c.args.judged.now.program c.args.program.now ≡ false = ap (λ (p : VerifiedProgram). same_program p c.args.program.now) (sym shown) ∙ sym c.if-not-same_program.ensures.same in
    of_stranger s c.args.moment c.args.judged.now c.args.ticket c.args.program.now _ other (c.refused.ensures ∙ ap (λ (n : Standing). refused_plan n refusal.Stranger) (c.standing.ensures.stands held s stands))

pub returns : goal.returns
returns c = λ held s stands before.
    let shown : c.deref.result.now ≡ c.args.judged.now.program = c.deref.ensures ∙ c.program.ensures.program in
    let slots : c.args.judged.now.program.slots ≡ c.args.program.now.slots = ap (λ (p : VerifiedProgram). p.slots) (sym shown) ∙ c.if-not-same_program.ensures.slots refl in
    let layout : c.args.judged.now.program.layout ≡ c.args.program.now.layout = ap (λ (p : VerifiedProgram). p.layout) (sym shown) ∙ c.if-not-same_program.ensures.layout refl in
    let judged = judgement_by_slots c.args.program.now c.args.judged.now.program.slots c.args.judged.now.program.layout c.args.judged.now.outcome c.args.judged.now.verdict c.args.judged.now.steps slots layout c.know_program.ensures.safe c.know_work.ensures.outcome c.know_work.ensures.tied in
    let same : same_program c.args.judged.now.program c.args.program.now ≡ true = ap (λ (p : VerifiedProgram). same_program p c.args.program.now) (sym shown) ∙ sym c.if-not-same_program.ensures.same in
    rw (same, judged) (c.concluded.ensures held s stands before)
