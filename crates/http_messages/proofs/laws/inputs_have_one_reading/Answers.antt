use Rattle.http_messages.proofs.OneReading.{inputs_agree}
use Rattle.http_messages.proofs.laws.inputs_have_one_reading.Goals as goal

pub returns : goal.returns
returns c = inputs_agree
