use Rattle.std.proofs.Common.{Some, None, inl, inr, refl}
use Rattle.service_file.specs.Settled.{IsRead}
use Rattle.file_check.specs.Checks.{accepted_line, IsLineOf}
use Rattle.file_check.proofs.Cutting.{accepted, printed_cut, refused_cut}
use Rattle.file_check.proofs.checking.check_text.Goals as goal

pub returns-in-Ok-Ok-clause-done : goal.returns-in-Ok-Ok-clause-done
returns-in-Ok-Ok-clause-done g c =
    let found : IsRead c.args.text.now (Some c.in-Ok-Ok.settings) = rw c.in-Ok-Ok.field-0-is at c.in-Ok-Ok.ensures.read in
    accepted c.args.text.now c.in-Ok-Ok.settings c.accept.result _ _ found c.accept.ensures.printed

pub returns-in-Ok-Ok-clause-part : goal.returns-in-Ok-Ok-clause-part
returns-in-Ok-Ok-clause-part g c =
    let found : IsRead c.args.text.now (Some c.in-Ok-Ok.settings) = rw c.in-Ok-Ok.field-0-is at c.in-Ok-Ok.ensures.read in
    printed_cut (IsLineOf c.args.text.now) c.accept.result (accepted_line c.in-Ok-Ok.settings) _ _ (inl (c.in-Ok-Ok.settings, found, refl)) c.accept.ensures.printed

pub returns-in-Ok-Err-clause-part : goal.returns-in-Ok-Err-clause-part
returns-in-Ok-Err-clause-part g c =
    let none : IsRead c.args.text.now None = rw c.in-Ok-Err.field-0-is at c.in-Ok-Err.ensures.read in
    refused_cut (IsLineOf c.args.text.now) c.refuse_text.result _ _ (inr (none, refl)) c.refuse_text.ensures.refused
