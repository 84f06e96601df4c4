use Rattle.answers.proofs.values.program_refusal.Goals as goal

pub returns : goal.returns
returns c = rw (c.from.ensures, c.number.ensures, c.name.ensures, c.from-2.ensures) at c.put_object.ensures
