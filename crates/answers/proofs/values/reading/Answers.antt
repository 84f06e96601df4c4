use Rattle.answers.proofs.values.reading.Goals as goal

pub returns : goal.returns
returns c = rw (c.from.ensures, c.state_name.ensures) at c.put_object.ensures
