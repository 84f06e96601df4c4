use Rattle.std.proofs.Common.{ap, ◌∙◌}
use Rattle.refusals.specs.declared.RefusalNumber.TheVariants as refusal
use Rattle.service_profile.specs.declared.standings.Standing.{Standing}
use Rattle.book.specs.Effects.{refused_plan}
use Rattle.book.proofs.Planned.{no_version_left, version_given}
use Rattle.book.proofs.machine.installed.Goals as goal

pub returns-then-version_count-ge-MOST_VERSIONS : goal.returns-then-version_count-ge-MOST_VERSIONS
returns-then-version_count-ge-MOST_VERSIONS c = λ moment held s stands.
    no_version_left s moment c.args.program.now c.version_count.result _ (c.version_count.ensures held s stands) c.if-version_count-ge-MOST_VERSIONS.true
    (c.refused.ensures ∙ ap (λ (n : Standing). refused_plan n refusal.VersionsFull) (c.standing-standing.ensures.stands held s stands))

pub returns : goal.returns
returns c = λ moment held s stands.
    version_given s moment c.args.program.now c.version_count.result c.next_version.result c.budget.result c.layout.result c.standing-standing.result (c.version_count.ensures held s stands) c.if-version_count-ge-MOST_VERSIONS.false (c.next_version.ensures held s stands) c.budget.ensures.budget c.layout.ensures (c.standing-standing.ensures.stands held s stands)
