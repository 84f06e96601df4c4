use Rattle.bpf_profile.proofs.Runs.{ends_agree}
use Rattle.bpf_profile.proofs.laws.answer_is_determined.Goals as goal

pub returns-clause-answer : goal.returns-clause-answer
returns-clause-answer c size slots outcome m n j k a b = (ends_agree size slots outcome m n j k a b).0

pub returns-clause-steps : goal.returns-clause-steps
returns-clause-steps c size slots outcome m n j k a b = (ends_agree size slots outcome m n j k a b).1
