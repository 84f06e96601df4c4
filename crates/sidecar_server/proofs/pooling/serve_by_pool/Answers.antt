use Rattle.std.proofs.Common.{◌≡◌, length, arith}
use Rattle.sidecar_server.proofs.Crews.{as_many_back, over}
use Rattle.server_output.proofs.Silence.{quiet_without_memory}
use Rattle.sidecar_server.proofs.pooling.serve_by_pool.Goals as goal

pub returns-in_err-notify_workers-clause-quiet : goal.returns-in_err-notify_workers-clause-quiet
returns-in_err-notify_workers-clause-quiet g c = quiet_without_memory _ _ _ c.from_residual-in_err-notify_workers.ensures.1 (rw c.in_ok-listener.ensures.heard at c.notify_workers.ensures)

pub returns-in_err-workers-clause-quiet : goal.returns-in_err-workers-clause-quiet
returns-in_err-workers-clause-quiet g c = quiet_without_memory _ _ _ c.from_residual-in_err-workers.ensures.1 (rw c.in_ok-listener.ensures.heard at c.notify_workers.ensures)

pub returns-clause-over : goal.returns-clause-over
returns-clause-over g c =
    let back : length c.in_ok-workers.workers.items ≡ length c.args.workers.items = as_many_back g.A.Answerer.names_of g.A.Answerer.answers g.C.Clock.ticks c.args.workers.items c.in_ok-workers.workers.items c.in_ok-workers.ensures.each in
    let len : c.args.workers.len ≡ length c.args.workers.items = c.args.workers.ok.0 in
    λ none. over c.args.limits.connections c.in_ok-workers.workers.items (omega (arith, back, len, c.requires.some)) c.in_ok-workers.ensures.ended (rw c.deref.ensures.value at c.failure_of-failure.ensures none)

pub returns-clause-quiet : goal.returns-clause-quiet
returns-clause-quiet g c = rw c.in_ok-listener.ensures.heard at c.notify_workers.ensures
