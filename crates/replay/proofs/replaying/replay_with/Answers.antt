use Rattle.std.proofs.Common.{Some, rules}
use Rattle.std.specs.Io.KnownBytes.{IsAtEnd}
use Rattle.replay.specs.Causes.{IsCauseOf}
use Rattle.replay.specs.Lines.{LosesLines}
use Rattle.replay.specs.Replaying.{IsBegun, IsOpened}
use Rattle.replay.proofs.Causing.{cause_on}
use Rattle.replay.proofs.Ending.{none_left}
use Rattle.replay.proofs.Parts.{nothing_part, nothing_replayed, replayed_part}
use Rattle.replay.proofs.Running.{replayed_bad, replayed_done}
use Rattle.replay.proofs.replaying.replay_with.Goals as goal

pub returns-in_err-config-clause-part : goal.returns-in_err-config-clause-part
returns-in_err-config-clause-part g c = nothing_replayed (g.R.Read.remaining c.args.reader.now.inner) (g.W.Write.contents c.args.out.now.inner)

pub returns-in_default-clause-replayed : goal.returns-in_default-clause-replayed
returns-in_default-clause-replayed g c =
    replayed_bad (g.R.Read.remaining c.args.reader.now.inner) (g.R.Read.remaining c.first_config.new.reader.inner) (g.W.Write.contents c.args.out.now.inner) (search rules)

pub returns-in_default-clause-part : goal.returns-in_default-clause-part
returns-in_default-clause-part g c = nothing_replayed (g.R.Read.remaining c.args.reader.now.inner) (g.W.Write.contents c.args.out.now.inner)

pub returns-in_err-book-clause-part : goal.returns-in_err-book-clause-part
returns-in_err-book-clause-part g c = nothing_replayed (g.R.Read.remaining c.args.reader.now.inner) (g.W.Write.contents c.args.out.now.inner)

pub returns-in_err-answer_all-clause-part : goal.returns-in_err-answer_all-clause-part
returns-in_err-answer_all-clause-part g c =
    let begun : IsBegun (g.R.Read.remaining c.args.reader.now.inner) (g.R.Read.remaining c.first_config.new.reader.inner) (Some c.in-Some.config) = rw c.in-Some.is at c.in_ok-config.ensures.begun in
    let is : IsOpened c.in-Some.config c.in_ok-book.book = search rules in
    replayed_part (g.R.Read.remaining c.args.reader.now.inner) (g.R.Read.remaining c.first_config.new.reader.inner) (g.W.Write.contents c.args.out.now.inner) (g.W.Write.contents c.answer_all.new.out.inner)
    c.in-Some.config c.in_ok-book.book begun is c.answer_all.ensures.part

pub returns-then-not-goes_on-clause-part : goal.returns-then-not-goes_on-clause-part
returns-then-not-goes_on-clause-part g c =
    let begun : IsBegun (g.R.Read.remaining c.args.reader.now.inner) (g.R.Read.remaining c.first_config.new.reader.inner) (Some c.in-Some.config) = rw c.in-Some.is at c.in_ok-config.ensures.begun in
    let is : IsOpened c.in-Some.config c.in_ok-book.book = search rules in
    replayed_part (g.R.Read.remaining c.args.reader.now.inner) (g.R.Read.remaining c.first_config.new.reader.inner) (g.W.Write.contents c.args.out.now.inner) (g.W.Write.contents c.args.out.now.inner)
    c.in-Some.config c.in_ok-book.book begun is (nothing_part (g.R.Read.remaining c.first_config.new.reader.inner) (g.W.Write.contents c.args.out.now.inner) c.in_ok-book.book)

pub returns-then-not-goes_on-clause-replayed : goal.returns-then-not-goes_on-clause-replayed
returns-then-not-goes_on-clause-replayed g c =
    let begun : IsBegun (g.R.Read.remaining c.args.reader.now.inner) (g.R.Read.remaining c.first_config.new.reader.inner) (Some c.in-Some.config) = rw c.in-Some.is at c.in_ok-config.ensures.begun in
    let is : IsOpened c.in-Some.config c.in_ok-book.book = search rules in
    let end : IsAtEnd (g.R.Read.remaining c.first_config.new.reader.inner) = search rules in
    replayed_done (g.R.Read.remaining c.args.reader.now.inner) (g.R.Read.remaining c.first_config.new.reader.inner) (g.W.Write.contents c.args.out.now.inner) (g.W.Write.contents c.args.out.now.inner)
    c.in-Some.config c.in_ok-book.book c.in_ok-book.book begun is (none_left (g.R.Read.remaining c.first_config.new.reader.inner) (g.W.Write.contents c.args.out.now.inner) c.in_ok-book.book end)

pub returns-clause-part : goal.returns-clause-part
returns-clause-part g c =
    let begun : IsBegun (g.R.Read.remaining c.args.reader.now.inner) (g.R.Read.remaining c.first_config.new.reader.inner) (Some c.in-Some.config) = rw c.in-Some.is at c.in_ok-config.ensures.begun in
    let is : IsOpened c.in-Some.config c.in_ok-book.book = search rules in
    replayed_part (g.R.Read.remaining c.args.reader.now.inner) (g.R.Read.remaining c.first_config.new.reader.inner) (g.W.Write.contents c.args.out.now.inner) (g.W.Write.contents c.answer_all.new.out.inner)
    c.in-Some.config c.in_ok-book.book begun is c.answer_all.ensures.part

pub returns-in_err-answer_all-clause-cause : goal.returns-in_err-answer_all-clause-cause
returns-in_err-answer_all-clause-cause g c =
    let lost : LosesLines 0 (g.R.Read.remaining c.args.reader.now.inner) (g.R.Read.remaining c.first_config.new.reader.inner) = rw c.in-Some.is at c.in_ok-config.ensures.fewer in
    let cause : IsCauseOf c.in_err-answer_all.field-0.0 c.args.reader.now.failures c.answer_all.new.reader.failures c.args.out.now.failures c.answer_all.new.out.failures (g.R.Read.remaining c.args.reader.now.inner) =
    cause_on c.in_err-answer_all.field-0.0 _ _ _ _ _ 0 _ _ c.in_ok-config.ensures.cause lost c.in_err-answer_all.ensures.cause in
    search rules

pub returns-clause-replayed : goal.returns-clause-replayed
returns-clause-replayed g c =
    let begun : IsBegun (g.R.Read.remaining c.args.reader.now.inner) (g.R.Read.remaining c.first_config.new.reader.inner) (Some c.in-Some.config) = rw c.in-Some.is at c.in_ok-config.ensures.begun in
    let is : IsOpened c.in-Some.config c.in_ok-book.book = search rules in
    replayed_done (g.R.Read.remaining c.args.reader.now.inner) (g.R.Read.remaining c.first_config.new.reader.inner) (g.W.Write.contents c.args.out.now.inner) (g.W.Write.contents c.answer_all.new.out.inner)
    c.in-Some.config c.in_ok-book.book c.answer_all.new.book begun is c.in_ok-answer_all.ensures.answered
