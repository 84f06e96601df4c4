use Rattle.answers.proofs.values.finished.Goals as goal

pub returns : goal.returns
returns c = rw (c.fate_name.ensures, c.state_name.ensures, c.from.ensures, c.verdict_name.ensures) at c.put_object.ensures
