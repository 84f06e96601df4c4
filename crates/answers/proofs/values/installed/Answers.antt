use Rattle.answers.proofs.values.installed.Goals as goal

pub returns-in-One : goal.returns-in-One
returns-in-One c = rw c.in-One.is (rw c.from-budget.ensures at c.put_object.ensures)

pub returns-in-Two : goal.returns-in-Two
returns-in-Two c = rw c.in-Two.is (rw c.from-budget.ensures at c.put_object-in-Two.ensures)
