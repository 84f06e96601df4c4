use Rattle.answers.proofs.values.permitted.Goals as goal

pub returns : goal.returns
returns c = rw c.state_name.ensures at c.put_object.ensures
