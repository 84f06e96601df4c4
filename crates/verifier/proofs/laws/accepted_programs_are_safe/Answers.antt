use Rattle.verifier.proofs.laws.accepted_programs_are_safe.Goals as goal

pub returns : goal.returns
returns c = λ bytes program verification.
    c.faultless_programs_are_safe.ensures program.layout program.slots program.budget verification.spelled.program verification.accepted.0 verification.accepted.1 verification.budget
