use Rattle.std.proofs.Common.{sym, ap, ◌∙◌}
use Rattle.refusals.specs.declared.RefusalNumber.TheVariants as refusal
use Rattle.service_profile.specs.declared.configuration.ConfigParts.{ConfigParts}
use Rattle.service_profile.specs.declared.standings.Standing.{Standing}
use Rattle.service_profile.specs.Machine.{at_moment, decided, meant}
use Rattle.book.specs.Effects.{refused_plan, planned}
use Rattle.book.specs.Accepted.{seen}
use Rattle.book.proofs.Finds.{same_config, notes_before}
use Rattle.book.proofs.Planned.{full_plan, decided_plan}
use Rattle.book.proofs.machine.decide.Goals as goal

pub returns-then-is_full : goal.returns-then-is_full
returns-then-is_full c = λ s stands before.
    full_plan s c.args.moment (seen c.args.event.now) c.refused.result (sym (c.if-is_full.ensures s stands)) (c.refused.ensures ∙ ap (λ (n : Standing). refused_plan n refusal.JournalFull) (c.standing.ensures c.args.held s stands))

pub returns : goal.returns
returns c = λ s stands before.
    let here = at_moment s c.args.moment in
    decided_plan s c.args.moment (seen c.args.event.now) c.decided.result (sym (c.if-is_full.ensures s stands))
    (c.decided.ensures c.args.held here (c.at_moment.ensures.found c.args.held s stands) (notes_before s c.args.moment before) ∙ ap (λ (p : ConfigParts). planned p c.args.moment (seen c.args.event.now) (decided meant here c.args.moment (seen c.args.event.now))) (same_config s c.args.moment))
