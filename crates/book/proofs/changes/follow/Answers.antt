use Rattle.std.proofs.Common.{◌+◌, Option, sym, subst}
use Rattle.bpf_profile.specs.Programs.{VerifiedProgram}
use Rattle.book.specs.Following.{followed}
use Rattle.book.specs.Situations.{CanFollow, StandsFor}
use Rattle.book.proofs.changes.follow.Goals as goal

pub follow-requires-clause-situation : goal.follow-requires-clause-situation
follow-requires-clause-situation c =
    subst (λ (o : Option VerifiedProgram). CanFollow c.args.service.now c.args.plan.decision.next c.args.plan.effects o) (sym (c.in_ok-installed.ensures c.args.plan.decision.reply c.requires.installs)) c.requires.situation

pub returns-clause-stands : goal.returns-clause-stands
returns-clause-stands c = λ held s stands orderly changes.
    subst (λ (o : Option VerifiedProgram). StandsFor c.follow.new.self (held + 1) (followed s c.args.plan.decision.next c.args.plan.effects o)) (c.in_ok-installed.ensures c.args.plan.decision.reply c.requires.installs)
    (c.in_ok-follow.ensures.stands held s stands orderly changes)
