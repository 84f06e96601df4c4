use Rattle.std.proofs.Common.{ap, sym, ◌∙◌}
use Rattle.std.specs.Arc.{arc_value}
use Rattle.std.specs.Option.{option_map}
use Rattle.refusals.specs.declared.RefusalNumber.TheVariants as refusal
use Rattle.service_profile.specs.declared.standings.Standing.{Standing}
use Rattle.book.specs.Effects.{refused_plan}
use Rattle.book.proofs.Planned.{no_program}
use Rattle.book.proofs.machine.finished_under.Goals as goal

pub returns-in-Some : goal.returns-in-Some
returns-in-Some c = λ held s stands before le. rw (← c.program.ensures held s stands le, c.in-Some.is, ← c.deref.ensures) (c.finished_by.ensures held s stands before)

pub returns-in-None : goal.returns-in-None
returns-in-None c = λ held s stands before le.
    no_program s c.args.moment c.args.judged.now c.args.ticket _ (sym (c.program.ensures held s stands le) ∙ ap (option_map (λ p. arc_value p.now)) c.in-None.is) (c.refused.ensures ∙ ap (λ (n : Standing). refused_plan n refusal.Stranger) (c.standing.ensures.stands held s stands))
