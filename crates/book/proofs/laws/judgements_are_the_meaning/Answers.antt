use Rattle.book.proofs.Judging.{judgement_judges}
use Rattle.book.proofs.laws.judgements_are_the_meaning.Goals as goal

pub returns : goal.returns
returns g c = λ program outcome verified fits. judgement_judges program outcome (c.accepted_are_safe.ensures program verified) fits
