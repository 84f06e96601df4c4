use Rattle.std.proofs.Common.{refl, inl, inr}
use Rattle.classifier_commands.specs.declared.commands.Status.TheVariants as status
use Rattle.classifier_commands.specs.Assembling.{IsDisassembled}
use Rattle.classifier_commands.proofs.Cuts.{cut_weaker}
use Rattle.classifier_commands.proofs.commands.disassemble_program.Goals as goal

pub returns-in-Ok-clause-part : goal.returns-in-Ok-clause-part
returns-in-Ok-clause-part g c =
    let whole : IsDisassembled c.args.program.now c.deref.result.now = rw c.deref.ensures c.in-Ok.ensures in
    cut_weaker c.print_lines.result _ _ (λ part. (status.Done, c.deref.result.now, inl (c.deref.result.now, whole, refl, refl), part)) c.print_lines.ensures.part

pub returns-in-Err-clause-part : goal.returns-in-Err-clause-part
returns-in-Err-clause-part g c =
    cut_weaker c.print.result _ _ (λ part. (status.Refused, _, inr (c.in-Err.fault, c.in-Err.ensures, (refl, refl)), part)) c.print.ensures.part
