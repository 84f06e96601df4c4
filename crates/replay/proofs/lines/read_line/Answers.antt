use Rattle.std.proofs.Common.{rules, ◌≡◌, ◌==◌, [], ◌∷◌, ◌++◌, Some, None, refl, ap, ◌∙◌, ne_eqb}
use Rattle.counted_io.specs.Counting.{TakesByte}
use Rattle.replay.specs.Ends.{end_found, has_feed}
use Rattle.replay.proofs.Ending.{end_takes, feed_of}
use Rattle.replay.proofs.Taking.{begun_none, begun_more, line_ends}
use Rattle.replay.proofs.lines.read_line.Goals as goal

pub bytes-init : goal.bytes-init
bytes-init g c = record {
  begun = begun_none (g.R.Read.remaining c.args.reader.now.inner) c.clear.new.self.items c.clear.ensures.items;
  quiet = refl;
  ends = refl;
  plain = ap has_feed c.clear.ensures.items;
}

pub returns-in_default-next-clause-taken : goal.returns-in_default-next-clause-taken
returns-in_default-next-clause-taken g c =
    let taken : TakesByte (g.R.Read.remaining c.bytes.reader.inner) (g.R.Read.remaining c.next_byte.new.self.inner) None = rw c.in_default-next.is at c.in-Ok.ensures.byte in
    let is : c.end_found.result ≡ end_found c.bytes.line.items = search rules in
    rw is
    (end_takes (g.R.Read.remaining c.args.reader.now.inner) (g.R.Read.remaining c.bytes.reader.inner) (g.R.Read.remaining c.next_byte.new.self.inner)
    c.bytes.line.items c.bytes.invariant.begun taken)

pub returns-then-byte-eq10-clause-taken : goal.returns-then-byte-eq10-clause-taken
returns-then-byte-eq10-clause-taken g c =
    let taken : TakesByte (g.R.Read.remaining c.bytes.reader.inner) (g.R.Read.remaining c.next_byte.new.self.inner) (Some c.in-Some.byte) = rw c.in-Some.is at c.in-Ok.ensures.byte in
    let pushed : c.push.new.self.items ≡ c.bytes.line.items ++ c.in-Some.byte ∷ [] = search rules in
    line_ends (g.R.Read.remaining c.args.reader.now.inner) (g.R.Read.remaining c.bytes.reader.inner) (g.R.Read.remaining c.next_byte.new.self.inner)
    c.bytes.line.items c.push.new.self.items c.in-Some.byte c.bytes.invariant.begun taken pushed c.if-byte-eq10.true

pub returns-then-byte-eq10-clause-feed : goal.returns-then-byte-eq10-clause-feed
returns-then-byte-eq10-clause-feed g c =
    let pushed : c.push.new.self.items ≡ c.bytes.line.items ++ c.in-Some.byte ∷ [] = search rules in
    ap has_feed pushed ∙ feed_of c.bytes.line.items c.in-Some.byte ∙ ap (λ b. b == 10) c.if-byte-eq10.true

pub bytes-preserved : goal.bytes-preserved
bytes-preserved g c =
    let taken : TakesByte (g.R.Read.remaining c.bytes.reader.inner) (g.R.Read.remaining c.next_byte.new.self.inner) (Some c.in-Some.byte) = rw c.in-Some.is at c.in-Ok.ensures.byte in
    let pushed : c.push.new.self.items ≡ c.bytes.line.items ++ c.in-Some.byte ∷ [] = search rules in
    record {
      begun = begun_more (g.R.Read.remaining c.args.reader.now.inner) (g.R.Read.remaining c.bytes.reader.inner) (g.R.Read.remaining c.next_byte.new.self.inner)
          c.bytes.line.items c.push.new.self.items c.in-Some.byte c.bytes.invariant.begun taken pushed (ne_eqb c.in-Some.byte 10 c.if-byte-eq10.false);
      quiet = search rules;
      ends = search rules;
      plain = ap has_feed pushed ∙ feed_of c.bytes.line.items c.in-Some.byte ∙ ne_eqb c.in-Some.byte 10 c.if-byte-eq10.false;
    }

pub returns-in_default-clause-cause : goal.returns-in_default-clause-cause
returns-in_default-clause-cause g c = search rules

pub returns-in_default-clause-ends : goal.returns-in_default-clause-ends
returns-in_default-clause-ends g c = search rules

pub returns-in_default-clause-last : goal.returns-in_default-clause-last
returns-in_default-clause-last g c = search rules

pub returns-in_default-clause-none : goal.returns-in_default-clause-none
returns-in_default-clause-none g c = search rules

pub returns-in_default-clause-taken : goal.returns-in_default-clause-taken
returns-in_default-clause-taken g c = search rules
