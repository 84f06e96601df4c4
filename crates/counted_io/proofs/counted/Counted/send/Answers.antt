use Rattle.std.proofs.Common.{◌+◌, ◌∙◌}
use Rattle.counted_io.proofs.Pieces.{appends_kept, appends_next, nothing_more, no_failure, on_err, sent_fits, taken_part, taken_proper_part}
use Rattle.counted_io.proofs.counted.Counted.send.Goals as goal

pub returns-in_err-count-clause-part : goal.returns-in_err-count-clause-part
returns-in_err-count-clause-part g c =
    taken_part (g.W.Write.contents c.args.self.now.inner) (g.W.Write.contents c.write.new.self.inner) c.args.text.now c.pieces.sent
    (appends_kept (g.W.Write.contents c.args.self.now.inner) (g.W.Write.contents c.pieces.self.inner) (g.W.Write.contents c.write.new.self.inner) _ c.pieces.invariant.written c.in_err-count.ensures.bytes)

pub returns-then-count-eq0-clause-part : goal.returns-then-count-eq0-clause-part
returns-then-count-eq0-clause-part g c =
    taken_part (g.W.Write.contents c.args.self.now.inner) (g.W.Write.contents c.write.new.self.inner) c.args.text.now (c.pieces.sent + c.in_ok-count.count)
    (appends_next (g.W.Write.contents c.args.self.now.inner) (g.W.Write.contents c.pieces.self.inner) (g.W.Write.contents c.write.new.self.inner) c.args.text.now c.pieces.sent c.in_ok-count.count c.pieces.invariant.written c.in_ok-count.ensures.bytes)

pub returns-in_err-count-clause-cut : goal.returns-in_err-count-clause-cut
returns-in_err-count-clause-cut g c =
    on_err c.from_residual.result
    (taken_proper_part (g.W.Write.contents c.args.self.now.inner) (g.W.Write.contents c.write.new.self.inner) c.args.text.now c.pieces.sent c.pieces-test.true
    (appends_kept (g.W.Write.contents c.args.self.now.inner) (g.W.Write.contents c.pieces.self.inner) (g.W.Write.contents c.write.new.self.inner) _ c.pieces.invariant.written c.in_err-count.ensures.bytes))

pub returns-then-count-eq0-clause-cut : goal.returns-then-count-eq0-clause-cut
returns-then-count-eq0-clause-cut g c =
    taken_proper_part (g.W.Write.contents c.args.self.now.inner) (g.W.Write.contents c.write.new.self.inner) c.args.text.now c.pieces.sent c.pieces-test.true
    (nothing_more (g.W.Write.contents c.args.self.now.inner) (g.W.Write.contents c.write.new.self.inner) c.args.text.now c.pieces.sent c.in_ok-count.count c.if-count-eq0.true
    (appends_next (g.W.Write.contents c.args.self.now.inner) (g.W.Write.contents c.pieces.self.inner) (g.W.Write.contents c.write.new.self.inner) c.args.text.now c.pieces.sent c.in_ok-count.count c.pieces.invariant.written c.in_ok-count.ensures.bytes))

pub pieces-preserved : goal.pieces-preserved
pieces-preserved g c = record {
  within = sent_fits c.args.text.now c.pieces.sent c.in_ok-count.count c.pieces.invariant.within c.in_ok-count.ensures.bound;
  written = appends_next (g.W.Write.contents c.args.self.now.inner) (g.W.Write.contents c.pieces.self.inner) (g.W.Write.contents c.write.new.self.inner) c.args.text.now c.pieces.sent c.in_ok-count.count c.pieces.invariant.written c.in_ok-count.ensures.bytes;
  quiet = no_failure c.in_ok-count.count _ c.pieces.self.failures c.write.new.self.failures c.if-count-eq0.false c.in_ok-count.ensures.failures ∙ c.pieces.invariant.quiet;
  ends = c.in_ok-count.ensures.ends ∙ c.pieces.invariant.ends;
}
