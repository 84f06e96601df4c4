use Rattle.std.proofs.Common.{rules, true, false}
use Rattle.std.specs.Io.KnownBytes.{IsAtEnd}
use Rattle.replay.specs.Lines.{TakesTold, LosesLines}
use Rattle.replay.specs.Parts.{IsLinePart}
use Rattle.replay.specs.Replaying.{IsLineAnswered}
use Rattle.replay.proofs.Ending.{events_last}
use Rattle.replay.proofs.Parts.{nothing_part, line_part, whole_part, part_on}
use Rattle.replay.proofs.Taking.{loses_more}
use Rattle.replay.proofs.Running.{events_on, events_end}
use Rattle.replay.proofs.replaying.answer_all.Goals as goal

pub returns-in_err-next_line-clause-part : goal.returns-in_err-next_line-clause-part
returns-in_err-next_line-clause-part g c =
    c.events.invariant.part (g.W.Write.contents c.events.out.inner) (nothing_part (g.R.Read.remaining c.events.reader.inner) (g.W.Write.contents c.events.out.inner) c.events.book)

pub returns-in-End-clause-answered : goal.returns-in-End-clause-answered
returns-in-End-clause-answered g c =
    let takes : TakesTold (g.R.Read.remaining c.events.reader.inner) (g.R.Read.remaining c.next_line.new.reader.inner) false c.next_line.new.line.items = search rules in
    c.events.invariant.whole c.events.book (g.W.Write.contents c.events.out.inner)
    (events_end (g.R.Read.remaining c.events.reader.inner) (g.R.Read.remaining c.next_line.new.reader.inner) (g.W.Write.contents c.events.out.inner) c.next_line.new.line.items c.events.book takes)

pub returns-in-End-clause-part : goal.returns-in-End-clause-part
returns-in-End-clause-part g c =
    c.events.invariant.part (g.W.Write.contents c.events.out.inner) (nothing_part (g.R.Read.remaining c.events.reader.inner) (g.W.Write.contents c.events.out.inner) c.events.book)

pub returns-in-Last-clause-answered : goal.returns-in-Last-clause-answered
returns-in-Last-clause-answered g c =
    let takes : TakesTold (g.R.Read.remaining c.events.reader.inner) (g.R.Read.remaining c.next_line.new.reader.inner) true c.next_line.new.line.items = search rules in
    let end : IsAtEnd (g.R.Read.remaining c.next_line.new.reader.inner) = search rules in
    let answered : IsLineAnswered c.events.book c.next_line.new.line.items c.answer_to-in-Last.new.book (g.W.Write.contents c.events.out.inner) (g.W.Write.contents c.answer_to-in-Last.new.out.inner) = search rules in
    c.events.invariant.whole c.answer_to-in-Last.new.book (g.W.Write.contents c.answer_to-in-Last.new.out.inner)
    (events_last (g.R.Read.remaining c.events.reader.inner) (g.R.Read.remaining c.next_line.new.reader.inner) (g.W.Write.contents c.events.out.inner) (g.W.Write.contents c.answer_to-in-Last.new.out.inner) c.next_line.new.line.items
    c.events.book c.answer_to-in-Last.new.book takes end answered)

pub returns-in-Last-clause-part : goal.returns-in-Last-clause-part
returns-in-Last-clause-part g c =
    let takes : TakesTold (g.R.Read.remaining c.events.reader.inner) (g.R.Read.remaining c.next_line.new.reader.inner) true c.next_line.new.line.items = search rules in
    let answered : IsLineAnswered c.events.book c.next_line.new.line.items c.answer_to-in-Last.new.book (g.W.Write.contents c.events.out.inner) (g.W.Write.contents c.answer_to-in-Last.new.out.inner) = search rules in
    c.events.invariant.part (g.W.Write.contents c.answer_to-in-Last.new.out.inner)
    (line_part (g.R.Read.remaining c.events.reader.inner) (g.R.Read.remaining c.next_line.new.reader.inner) (g.W.Write.contents c.events.out.inner) (g.W.Write.contents c.answer_to-in-Last.new.out.inner) c.next_line.new.line.items c.events.book takes
    (whole_part (g.W.Write.contents c.events.out.inner) (g.W.Write.contents c.answer_to-in-Last.new.out.inner) c.next_line.new.line.items c.events.book c.answer_to-in-Last.new.book answered))

pub returns-in_err-answer_to-in-Last-clause-part : goal.returns-in_err-answer_to-in-Last-clause-part
returns-in_err-answer_to-in-Last-clause-part g c =
    let takes : TakesTold (g.R.Read.remaining c.events.reader.inner) (g.R.Read.remaining c.next_line.new.reader.inner) true c.next_line.new.line.items = search rules in
    let part : IsLinePart c.events.book c.next_line.new.line.items (g.W.Write.contents c.events.out.inner) (g.W.Write.contents c.answer_to-in-Last.new.out.inner) = search rules in
    c.events.invariant.part (g.W.Write.contents c.answer_to-in-Last.new.out.inner)
    (line_part (g.R.Read.remaining c.events.reader.inner) (g.R.Read.remaining c.next_line.new.reader.inner) (g.W.Write.contents c.events.out.inner) (g.W.Write.contents c.answer_to-in-Last.new.out.inner) c.next_line.new.line.items c.events.book takes part)

pub returns-in_err-answer_to-in-Line-clause-part : goal.returns-in_err-answer_to-in-Line-clause-part
returns-in_err-answer_to-in-Line-clause-part g c =
    let takes : TakesTold (g.R.Read.remaining c.events.reader.inner) (g.R.Read.remaining c.next_line.new.reader.inner) true c.next_line.new.line.items = search rules in
    let part : IsLinePart c.events.book c.next_line.new.line.items (g.W.Write.contents c.events.out.inner) (g.W.Write.contents c.answer_to.new.out.inner) = search rules in
    c.events.invariant.part (g.W.Write.contents c.answer_to.new.out.inner)
    (line_part (g.R.Read.remaining c.events.reader.inner) (g.R.Read.remaining c.next_line.new.reader.inner) (g.W.Write.contents c.events.out.inner) (g.W.Write.contents c.answer_to.new.out.inner) c.next_line.new.line.items c.events.book takes part)

pub events-preserved : goal.events-preserved
events-preserved g c =
    let takes : TakesTold (g.R.Read.remaining c.events.reader.inner) (g.R.Read.remaining c.next_line.new.reader.inner) true c.next_line.new.line.items = search rules in
    let answered : IsLineAnswered c.events.book c.next_line.new.line.items c.answer_to.new.book (g.W.Write.contents c.events.out.inner) (g.W.Write.contents c.answer_to.new.out.inner) = search rules in
    let taken_line : LosesLines 1 (g.R.Read.remaining c.events.reader.inner) (g.R.Read.remaining c.next_line.new.reader.inner) = search rules in
    record {
      whole = λ after written rest.
          c.events.invariant.whole after written
          (events_on (g.R.Read.remaining c.events.reader.inner) (g.R.Read.remaining c.next_line.new.reader.inner)
          (g.W.Write.contents c.events.out.inner) (g.W.Write.contents c.answer_to.new.out.inner) written c.next_line.new.line.items
          c.events.book c.answer_to.new.book after takes answered rest);
      part = λ written rest.
          c.events.invariant.part written
          (part_on (g.R.Read.remaining c.events.reader.inner) (g.R.Read.remaining c.next_line.new.reader.inner)
          (g.W.Write.contents c.events.out.inner) (g.W.Write.contents c.answer_to.new.out.inner) written c.next_line.new.line.items
          c.events.book c.answer_to.new.book takes answered rest);
      lost = loses_more (g.R.Read.remaining c.args.reader.now.inner) (g.R.Read.remaining c.events.reader.inner) (g.R.Read.remaining c.next_line.new.reader.inner) c.events.answered 1 c.events.invariant.lost taken_line;
      reads = search rules;
      ends = search rules;
      writes = search rules;
    }

pub returns-clause-part : goal.returns-clause-part
returns-clause-part g c =
    c.events.invariant.part (g.W.Write.contents c.events.out.inner) (nothing_part (g.R.Read.remaining c.events.reader.inner) (g.W.Write.contents c.events.out.inner) c.events.book)
