use Rattle.std.proofs.Common.{refl}
use Rattle.std.proofs.lemmas.Result.{IfOk-weaker}
use Rattle.classifier_commands.proofs.Cuts.{cut_weaker}
use Rattle.classifier_commands.proofs.commands.judge_outcome.Goals as goal

pub returns-clause-judged : goal.returns-clause-judged
returns-clause-judged g c =
    IfOk-weaker c.print.result _ _ (λ status printed. (c.in_ok-answer.answer, c.in_ok-answer.ensures.judged, printed)) c.print.ensures.printed

pub returns-clause-part : goal.returns-clause-part
returns-clause-part g c =
    cut_weaker c.print.result _ _ (λ part. (_, _, (c.in_ok-answer.answer, c.in_ok-answer.ensures.judged, (refl, refl)), part)) c.print.ensures.part
