use Rattle.std.proofs.Common.{refl, rules}
use Rattle.std.proofs.lemmas.Result.{IfOk-weaker}
use Rattle.classifier_commands.specs.declared.commands.Request.TheVariants as request
use Rattle.classifier_commands.proofs.Cuts.{cut_weaker, done_in_part}
use Rattle.classifier_commands.proofs.Requests.{done_as}
use Rattle.classifier_commands.proofs.commands.Request.fulfil.Goals as goal

pub returns-in-Judge-clause-done : goal.returns-in-Judge-clause-done
returns-in-Judge-clause-done g c =
    IfOk-weaker c.judge_outcome.result _ _
    (λ status judged. done_as c.args.self.now (request.Judge c.in-Judge.program c.in-Judge.layout) _ status _ _ c.in-Judge.is judged)
    c.judge_outcome.ensures.judged

pub returns-in-Judge-clause-part : goal.returns-in-Judge-clause-part
returns-in-Judge-clause-part g c =
    cut_weaker c.judge_outcome.result _ _
    (λ part. done_in_part c.args.self.now (request.Judge c.in-Judge.program c.in-Judge.layout) _ _ _ c.in-Judge.is part)
    c.judge_outcome.ensures.part

pub returns-in-Verify-clause-part : goal.returns-in-Verify-clause-part
returns-in-Verify-clause-part g c =
    cut_weaker c.print.result _ _
    (λ part. done_in_part c.args.self.now (request.Verify c.in-Verify.program c.in-Verify.layout) _ _ _ c.in-Verify.is
    (_, _, (c.verify.result, c.verify.ensures, (refl, refl)), part))
    c.print.ensures.part

pub returns-in-Disassemble-clause-part : goal.returns-in-Disassemble-clause-part
returns-in-Disassemble-clause-part g c =
    cut_weaker c.disassemble_program.result _ _
    (λ part. done_in_part c.args.self.now (request.Disassemble c.in-Disassemble.program) _ _ _ c.in-Disassemble.is part)
    c.disassemble_program.ensures.part

pub returns-in-Verify-clause-cause : goal.returns-in-Verify-clause-cause
returns-in-Verify-clause-cause g c = search rules

pub returns-in-Verify-clause-unread : goal.returns-in-Verify-clause-unread
returns-in-Verify-clause-unread g c = search rules
