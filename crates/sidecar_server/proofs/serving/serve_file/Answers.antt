use Rattle.std.proofs.Common.{◌∙◌, Some, None, sym, subst}
use Rattle.service_file.specs.Settled.{IsRead}
use Rattle.refusals.specs.declared.RefusalNumber.TheVariants.{BadConfig}
use Rattle.server_output.specs.Lines.{IsCutShort}
use Rattle.sidecar_server.specs.Server.{IsAddressOf, IsFileRefused}
use Rattle.sidecar_server.proofs.Cutting.{ended_short, refused_file, refused_short}
use Rattle.sidecar_server.proofs.Endings.{served_listens}
use Rattle.sidecar_server.proofs.serving.serve_file.Goals as goal

pub returns-in-Ok-clause-done : goal.returns-in-Ok-clause-done
returns-in-Ok-clause-done g c =
    let found : IsRead c.args.text.now (Some c.in-Ok-Ok.settings) = rw c.in-Ok-Ok.field-0-is at c.in-Ok-Ok.ensures.read in
    λ finished. (c.in-Ok-Ok.settings, found, c.in-Ok.ensures.served, c.in-Ok.ensures.over, served_listens c.in-Ok-Ok.settings.listen c.in-Ok.end.status _ _ finished c.in-Ok.ensures.ended)

pub returns-in-Ok-clause-refused : goal.returns-in-Ok-clause-refused
returns-in-Ok-clause-refused g c =
    let found : IsRead c.args.text.now (Some c.in-Ok-Ok.settings) = rw c.in-Ok-Ok.field-0-is at c.in-Ok-Ok.ensures.read in
    refused_file c.args.text.now c.in-Ok-Ok.settings found c.in-Ok.end.status _ _ c.in-Ok.ensures.ended

pub returns-in-Ok-clause-part : goal.returns-in-Ok-clause-part
returns-in-Ok-clause-part g c =
    let found : IsRead c.args.text.now (Some c.in-Ok-Ok.settings) = rw c.in-Ok-Ok.field-0-is at c.in-Ok-Ok.ensures.read in
    ended_short c.args.text.now c.in-Ok-Ok.settings found c.in-Ok.end.status _ _ c.in-Ok.ensures.ended

pub returns-in-Err-serve_settings-clause-refused : goal.returns-in-Err-serve_settings-clause-refused
returns-in-Err-serve_settings-clause-refused g c =
    let found : IsRead c.args.text.now (Some c.in-Ok-Ok.settings) = rw c.in-Ok-Ok.field-0-is at c.in-Ok-Ok.ensures.read in
    λ number refused. refused_file c.args.text.now c.in-Ok-Ok.settings found c.in-Err-serve_settings.status _ _ c.in-Err-serve_settings.ensures.ended number (sym c.without.ensures ∙ refused)

pub returns-in-Err-serve_settings-clause-part : goal.returns-in-Err-serve_settings-clause-part
returns-in-Err-serve_settings-clause-part g c =
    let found : IsRead c.args.text.now (Some c.in-Ok-Ok.settings) = rw c.in-Ok-Ok.field-0-is at c.in-Ok-Ok.ensures.read in
    rw (sym c.without.ensures) at (ended_short c.args.text.now c.in-Ok-Ok.settings found c.in-Err-serve_settings.status _ _ c.in-Err-serve_settings.ensures.ended)

pub returns-in-Ok-Err-clause-part : goal.returns-in-Ok-Err-clause-part
returns-in-Ok-Err-clause-part g c =
    let none : IsRead c.args.text.now None = rw c.in-Ok-Err.field-0-is at c.in-Ok-Err.ensures.read in
    subst (λ s. IsCutShort (IsAddressOf c.args.text.now) (IsFileRefused c.args.text.now) s (g.O.Write.contents c.args.out.now.inner) (g.O.Write.contents c.refuse_text.new.out.inner)) (sym c.without-in-Ok-Err.ensures)
    (refused_short (IsAddressOf c.args.text.now) (IsFileRefused c.args.text.now) c.refuse_text.result BadConfig _ _ none c.refuse_text.ensures.refused)
