use denote.Exit.{yes}
use denote.Param.Send.{param_sync, arg_sync}
use Rattle.std.proofs.Common.{◌≡◌, ◌∙◌, ap, map}
use Rattle.std.proofs.lemmas.Result.{IfOk-weaker}
use Rattle.desk.proofs.Showing.{desk_sync}
use Rattle.desk.specs.Desks.{DeskData}
use Rattle.desk.specs.Services.{service_from}
use Rattle.sidecar_server.specs.Served.{services_of}
use Rattle.sidecar_server.proofs.LockSeating.{served_at_desk}
use Rattle.service_log.proofs.Showing.{log_sync}
use Rattle.sidecar_server.proofs.at_seats.serve_at_desk.Goals as goal

pub serve_at-requires-sync-G : goal.serve_at-requires-sync-G
serve_at-requires-sync-G g c κs within = param_sync 2 _ (arg_sync _ yes _ (log_sync _ _ _ c.type_bounds.sync-R c.type_bounds.sync-R))

pub serve_at-requires-sync-D : goal.serve_at-requires-sync-D
serve_at-requires-sync-D g c κs within = param_sync 0 _ (arg_sync _ yes _ (desk_sync _ _ g.L.Ledger g.M.Ledger g.M.Offered c.type_bounds.send-L c.type_bounds.sync-L c.type_bounds.send-M c.type_bounds.sync-M))

pub returns-clause-served : goal.returns-clause-served
returns-clause-served g c =
    let services : c.in_ok-desk.desk.services ≡ services_of c.args.first_ticket c.args.settings.services.items = ap (λ (d : DeskData). d.services) c.in_ok-desk.ensures.opened ∙ ap (map (service_from c.args.first_ticket)) c.in_ok-opened.ensures in
    IfOk-weaker c.serve_at.result _ _ (λ end served. served_at_desk g.C.Clock.ticks c.args.settings c.args.first_ticket c.args.clock c.in_ok-desk.desk c.deref.result.now end.books.items end.counts.items services (c.deref.ensures.value ∙ c.in_ok-upkeeps.ensures) served) c.serve_at.ensures.served
