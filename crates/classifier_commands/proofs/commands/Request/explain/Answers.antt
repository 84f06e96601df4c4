use Rattle.classifier_commands.proofs.Requests.{fault_as}
use Rattle.classifier_commands.proofs.commands.Request.explain.Goals as goal

pub returns-in-Judge-clause-quiet : goal.returns-in-Judge-clause-quiet
returns-in-Judge-clause-quiet g c =
    λ none. c.notify_reason.ensures.quiet (λ fault. none (fault_as c.args.self.now c.in-Judge.program c.in-Judge.layout c.in-Judge.is fault))
