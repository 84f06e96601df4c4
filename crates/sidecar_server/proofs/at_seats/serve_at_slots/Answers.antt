use denote.Exit.{yes}
use denote.Param.Send.{param_send, param_sync, arg_send, arg_sync}
use Rattle.std.proofs.Common.{◌∙◌}
use Rattle.std.proofs.lemmas.Result.{IfOk-weaker}
use Rattle.slot_desk.proofs.Showing.{desk_sync, seat_send}
use Rattle.sidecar_server.proofs.SlotSeating.{served_at_slots, named_as, opened_as}
use Rattle.service_log.proofs.Showing.{log_sync}
use Rattle.sidecar_server.proofs.at_seats.serve_at_slots.Goals as goal

pub serve_at-requires-sync-G : goal.serve_at-requires-sync-G
serve_at-requires-sync-G g c κs within = param_sync 2 _ (arg_sync _ yes _ (log_sync _ _ _ c.type_bounds.sync-R c.type_bounds.sync-R))

pub serve_at-requires-sync-D : goal.serve_at-requires-sync-D
serve_at-requires-sync-D g c κs within = param_sync 0 _ (arg_sync _ yes _ desk_sync)

pub serve_at-requires-send-S : goal.serve_at-requires-send-S
serve_at-requires-send-S g c κs within = param_send 1 _ (arg_send _ yes _ seat_send)

pub returns-clause-served : goal.returns-clause-served
returns-clause-served g c =
    let names = c.in_ok-desk.ensures.names ∙ named_as c.args.settings.services.items c.in_ok-opened.opened.items c.in_ok-opened.ensures in
    let origins = c.in_ok-desk.ensures.opened ∙ opened_as c.args.first_ticket c.args.settings.services.items c.in_ok-opened.opened.items c.in_ok-opened.ensures in
    IfOk-weaker c.serve_at.result _ _ (λ end served. served_at_slots g.C.Clock.ticks c.args.settings c.args.first_ticket c.args.clock c.in_ok-desk.desk c.deref.result.now end.books.items end.counts.items names origins (c.deref.ensures.value ∙ c.in_ok-upkeeps.ensures) served) c.serve_at.ensures.served
