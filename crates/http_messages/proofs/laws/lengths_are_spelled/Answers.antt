use Rattle.std.proofs.Common.{None}
use Rattle.http_messages.specs.Lengths.{length_texts, length_from}
use Rattle.http_messages.proofs.LengthTexts.{reads_length, one_length}
use Rattle.http_messages.proofs.laws.lengths_are_spelled.Goals as goal

pub returns-clause-read : goal.returns-clause-read
returns-clause-read c = reads_length

pub returns-clause-only : goal.returns-clause-only
returns-clause-only c fields length is = one_length (length_texts fields) (length_from None fields) length (reads_length fields) is
