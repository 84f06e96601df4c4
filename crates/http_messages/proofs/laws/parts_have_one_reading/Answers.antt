use Rattle.http_messages.proofs.Longer.{parts_agree}
use Rattle.http_messages.proofs.laws.parts_have_one_reading.Goals as goal

pub returns : goal.returns
returns c = parts_agree
