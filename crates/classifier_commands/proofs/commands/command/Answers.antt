use Rattle.std.proofs.Common.{◌≡◌, Ok, subst}
use Rattle.classifier_commands.specs.declared.commands.Status.{Status}
use Rattle.classifier_commands.specs.declared.commands.Status.TheVariants as status
use Rattle.classifier_commands.specs.Commands.{HasAnswered}
use Rattle.classifier_commands.proofs.Cuts.{cut_at_write, answered_in_part}
use Rattle.classifier_commands.proofs.Requests.{answered, names_faulty}
use Rattle.classifier_commands.proofs.commands.command.Goals as goal

pub returns-in-Ok-clause-done : goal.returns-in-Ok-clause-done
returns-in-Ok-clause-done g c =
    λ same. subst (λ (ended : Status). HasAnswered c.args.words.now (g.R.Read.remaining c.args.reader.now.inner) ended (g.O.Write.contents c.args.out.now.inner) (g.O.Write.contents c.fulfil_aloud.new.out.inner)) same
    (answered c.args.words.now c.in-Some.request _ c.in-Ok.status _ _ c.in-Some.ensures.some c.in-Ok.ensures.done)

pub returns-in-Ok-clause-refused : goal.returns-in-Ok-clause-refused
returns-in-Ok-clause-refused g c =
    λ same. subst (λ (ended : Status). HasAnswered c.args.words.now (g.R.Read.remaining c.args.reader.now.inner) ended (g.O.Write.contents c.args.out.now.inner) (g.O.Write.contents c.fulfil_aloud.new.out.inner)) same
    (answered c.args.words.now c.in-Some.request _ c.in-Ok.status _ _ c.in-Some.ensures.some c.in-Ok.ensures.done)

pub returns-in-Err-clause-part : goal.returns-in-Err-clause-part
returns-in-Err-clause-part g c =
    λ is. answered_in_part c.args.words.now c.in-Some.request _ _ _ c.in-Some.ensures.some
    (cut_at_write c.in-Err.error _ _ c.in-Err.ensures.part (rw c.of_error.ensures at is))

pub returns-in-Ok-clause-quiet : goal.returns-in-Ok-clause-quiet
returns-in-Ok-clause-quiet g c =
    λ named faulty. c.in-Ok.ensures.quiet (λ fault. faulty
    (names_faulty c.args.words.now c.in-Some.request c.in-Some.ensures.some fault.0, (let is : Ok c.in-Ok.status ≡ Ok status.Refused = fault.1 in cc)))
