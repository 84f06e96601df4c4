use Rattle.std.proofs.Common.{List, ℕ, inl, inr, refl, subst, string_bytes}
use Rattle.std.proofs.lemmas.Result.{IfOk-weaker}
use Rattle.classifier_commands.specs.Assembling.{IsAssembled, IsAssemblyRefused}
use Rattle.classifier_commands.specs.declared.commands.Status.TheVariants as status
use Rattle.classifier_commands.proofs.Cuts.{cut_weaker}
use Rattle.classifier_commands.proofs.commands.assemble_text.Goals as goal

pub returns-clause-assembled : goal.returns-clause-assembled
returns-clause-assembled g c =
    let refused : IsAssemblyRefused c.in_ok-text.text.items c.in-Err.fault = subst (λ (text : List ℕ). IsAssemblyRefused text c.in-Err.fault) c.deref.ensures.value c.in-Err.ensures in
    IfOk-weaker c.print.result _ _ (λ status printed. (c.in_ok-text.text.items, c.in_ok-text.ensures.all, inr (c.in-Err.fault, refused, printed))) c.print.ensures.printed

pub returns-in-Ok-clause-part : goal.returns-in-Ok-clause-part
returns-in-Ok-clause-part g c =
    let hex : IsAssembled c.in_ok-text.text.items (string_bytes c.in-Ok.hex) = subst (λ (text : List ℕ). IsAssembled text (string_bytes c.in-Ok.hex)) c.deref.ensures.value c.in-Ok.ensures in
    let whole : IsAssembled c.in_ok-text.text.items c.deref-in-Ok.result.now = rw c.deref-in-Ok.ensures hex in
    cut_weaker c.print_line.result _ _ (λ part. (status.Done, _, (c.in_ok-text.text.items, c.in_ok-text.ensures.all, inl (c.deref-in-Ok.result.now, whole, refl, refl)), part)) c.print_line.ensures.part

pub returns-clause-part : goal.returns-clause-part
returns-clause-part g c =
    let refused : IsAssemblyRefused c.in_ok-text.text.items c.in-Err.fault = subst (λ (text : List ℕ). IsAssemblyRefused text c.in-Err.fault) c.deref.ensures.value c.in-Err.ensures in
    cut_weaker c.print.result _ _ (λ part. (status.Refused, _, (c.in_ok-text.text.items, c.in_ok-text.ensures.all, inr (c.in-Err.fault, refused, (refl, refl))), part)) c.print.ensures.part
