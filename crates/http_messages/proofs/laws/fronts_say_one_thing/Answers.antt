use Rattle.http_messages.proofs.OneReading.{fronts_agree}
use Rattle.http_messages.proofs.laws.fronts_say_one_thing.Goals as goal

pub returns : goal.returns
returns c = fronts_agree
