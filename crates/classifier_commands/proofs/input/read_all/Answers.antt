use Rattle.std.proofs.Common.{rules, ◌≡◌, [], ◌∷◌, ◌++◌, Some, None, refl}
use Rattle.counted_io.specs.Counting.{TakesByte}
use Rattle.classifier_commands.proofs.Taken.{taken_none, taken_more, taken_all}
use Rattle.classifier_commands.proofs.input.read_all.Goals as goal

pub bytes-init : goal.bytes-init
bytes-init g c = record {
  taken = taken_none (g.R.Read.remaining c.args.reader.now.inner) _ (search rules);
  quiet = refl;
  ends = refl;
}

pub returns-in_default-next-clause-all : goal.returns-in_default-next-clause-all
returns-in_default-next-clause-all g c =
    let end : TakesByte (g.R.Read.remaining c.bytes.reader.inner) (g.R.Read.remaining c.next_byte.new.self.inner) None = rw c.in_default-next.is at c.in-Ok.ensures.byte in
    taken_all (g.R.Read.remaining c.args.reader.now.inner) (g.R.Read.remaining c.bytes.reader.inner) (g.R.Read.remaining c.next_byte.new.self.inner) c.bytes.text.items c.bytes.invariant.taken end

pub bytes-preserved : goal.bytes-preserved
bytes-preserved g c =
    let next : TakesByte (g.R.Read.remaining c.bytes.reader.inner) (g.R.Read.remaining c.next_byte.new.self.inner) (Some c.in-Some.byte) = rw c.in-Some.is at c.in-Ok.ensures.byte in
    let pushed : c.push.new.self.items ≡ c.bytes.text.items ++ c.in-Some.byte ∷ [] = search rules in
    record {
      taken = taken_more (g.R.Read.remaining c.args.reader.now.inner) (g.R.Read.remaining c.bytes.reader.inner) (g.R.Read.remaining c.next_byte.new.self.inner)
          c.bytes.text.items c.push.new.self.items c.in-Some.byte c.bytes.invariant.taken next pushed;
      quiet = search rules;
      ends = search rules;
    }
