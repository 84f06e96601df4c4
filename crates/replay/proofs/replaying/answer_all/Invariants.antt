use Rattle.std.proofs.Common.{◌≡◌, ◌-◌, ℕ, List, Option}
use Rattle.service_profile.specs.Events.{History}
use Rattle.replay.specs.Lines.{LosesLines}
use Rattle.replay.specs.Parts.{AreEventsPart}
use Rattle.replay.specs.Replaying.{AreEventsAnswered}
use Rattle.replay.proofs.replaying.answer_all.Given as goal

-- what is left of the input ends as the whole does, no call failed, and no end was met
abbrev pub invariant-events : goal.invariant-events
invariant-events g l = record {
  whole : (after : History) (written : Option (List ℕ)) → AreEventsAnswered (g.R.Read.remaining l.reader.inner) l.book after (g.W.Write.contents l.out.inner) written
      → AreEventsAnswered (g.R.Read.remaining l.fn.reader.inner) l.fn.book after (g.W.Write.contents l.fn.out.inner) written;
  part : (written : Option (List ℕ)) → AreEventsPart (g.R.Read.remaining l.reader.inner) l.book (g.W.Write.contents l.out.inner) written
      → AreEventsPart (g.R.Read.remaining l.fn.reader.inner) l.fn.book (g.W.Write.contents l.fn.out.inner) written;
  lost : LosesLines l.answered (g.R.Read.remaining l.fn.reader.inner) (g.R.Read.remaining l.reader.inner);
  reads : l.reader.failures ≡ l.fn.reader.failures;
  ends : l.reader.ends ≡ l.fn.reader.ends;
  writes : l.out.failures ≡ l.fn.out.failures;
}

abbrev pub decreases-events : goal.decreases-events
decreases-events g l = 18446744073709551615 - l.answered
