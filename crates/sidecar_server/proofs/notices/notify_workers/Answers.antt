use Rattle.std.proofs.Common.{◌≡◌, inr, rules}
use Rattle.server_output.specs.Lines.{workers_line}
use Rattle.sidecar_server.proofs.notices.notify_workers.Goals as goal

pub returns : goal.returns
returns g c =
    let text : c.as_bytes.result.now ≡ workers_line c.in_ok-running.running c.args.workers = search rules in
    inr (c.in_ok-running.running, c.args.workers, rw text at c.send-sent.ensures.part)
