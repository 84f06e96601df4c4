use Rattle.std.proofs.Common.{refl, inl}
use Rattle.http_messages.proofs.OneReading.{undecided_either}
use Rattle.http_messages.proofs.laws.undecided_inputs_have_two_endings.Goals as goal

pub returns-clause-bad_head : goal.returns-clause-bad_head
returns-clause-bad_head c rest undecided = inl (refl, undecided.0)

pub returns-clause-other : goal.returns-clause-other
returns-clause-other c = undecided_either
