use Rattle.std.proofs.Common.{sym, subst}
use Rattle.std.specs.Bool.{⊤}
use Rattle.refusals.specs.declared.RefusalNumber.TheVariants.{BadConfig}
use Rattle.server_output.specs.Lines.{IsCutShort}
use Rattle.sidecar_server.specs.Server.{IsServerRefusal}
use Rattle.sidecar_server.proofs.Cutting.{is_server_refusal, path_short, refused_short}
use Rattle.sidecar_server.proofs.serving.serve_path.Goals as goal

pub returns-in-Ok-clause-refused : goal.returns-in-Ok-clause-refused
returns-in-Ok-clause-refused g c =
    λ number refused. (let told = c.serve_file.ensures.refused number refused in (is_server_refusal c.deref.result.now number told.0, told.1))

pub returns-in-Ok-clause-part : goal.returns-in-Ok-clause-part
returns-in-Ok-clause-part g c = path_short c.serve_file.result.status c.deref.result.now _ _ c.serve_file.ensures.part

pub returns-in-Err-2-clause-part : goal.returns-in-Err-2-clause-part
returns-in-Err-2-clause-part g c =
    subst (λ s. IsCutShort (λ _. ⊤) IsServerRefusal s (g.O.Write.contents c.args.out.now.inner) (g.O.Write.contents c.refuse_for.new.out.inner)) (sym c.without-in-Err-2.ensures)
    (refused_short (λ _. ⊤) IsServerRefusal c.refuse_for.result BadConfig _ _ tt c.refuse_for.ensures.refused)
