use Rattle.std.proofs.Common.{rules}
use Rattle.http_connection.proofs.Writing.{sent_more}
use Rattle.http_connection.proofs.output.write_pending.Goals as goal

pub pieces-preserved : goal.pieces-preserved
pieces-preserved g c = record {
  sent = sent_more (g.T.Transport.contents c.args.transport.now) (g.T.Transport.contents c.pieces.transport) (g.T.Transport.contents c.put.new.self) c.args.connection.now.pending c.pieces.connection-inside.text.items c.pieces.connection-inside.sent c.in-Done.taken c.pieces.invariant.sent (search rules);
  within = search rules;
  awaited = c.pieces.invariant.awaited;
  unread = search rules;
  stage = search rules;
  answers = search rules;
  apart = search rules;
  reads = search rules;
  lenders = search rules;
  quiet = search rules;
}

pub invariant_of-connection : goal.invariant_of-connection
invariant_of-connection g c = (c.pieces.invariant.within, c.pieces.invariant.awaited)

pub invariant_of-connection-in-Waits : goal.invariant_of-connection-in-Waits
invariant_of-connection-in-Waits g c = (c.pieces.invariant.within, c.pieces.invariant.awaited)

pub invariant_of-connection-in-Failed : goal.invariant_of-connection-in-Failed
invariant_of-connection-in-Failed g c = (c.pieces.invariant.within, c.pieces.invariant.awaited)
