-- The text of an answer.
use Rattle.std.specs.Prelude.{ℕ, ◌++◌, List, codes, decimal}
use Rattle.texts.specs.Verdicts.{verdict_name}
use Rattle.refusals.specs.Texts.{refusal_text}
use Rattle.classifier_commands.specs.declared.answer.Answer.{Answer}
use Rattle.classifier_commands.specs.declared.answer.Answer.TheVariants as answer

-- the line of an answer, without its end
abbrev pub answer_text : Answer → List ℕ
answer_text (answer.Judged verdict steps budget) = verdict_name verdict ++ (codes " steps=" ++ (decimal steps ++ (codes " budget=" ++ decimal budget)))
answer_text (answer.Accepted budget slots) = codes "accepted budget=" ++ (decimal budget ++ (codes " slots=" ++ decimal slots))
answer_text (answer.Refused fault) = refusal_text fault.number fault.place
