use Rattle.std.proofs.Common.{inr, refl}
use Rattle.file_check.specs.Checks.{IsLineOfSome}
use Rattle.file_check.proofs.Cutting.{refused_cut, some_cut}
use Rattle.file_check.proofs.checking.check_path.Goals as goal

pub returns-in-Ok-clause-refused : goal.returns-in-Ok-clause-refused
returns-in-Ok-clause-refused g c = λ number refused. (let told = c.check_text.ensures.refused number refused in (told.1, told.2))

pub returns-in-Ok-clause-part : goal.returns-in-Ok-clause-part
returns-in-Ok-clause-part g c = some_cut c.check_text.result c.deref.result.now _ _ c.check_text.ensures.part

pub returns-in-Err-2-clause-part : goal.returns-in-Err-2-clause-part
returns-in-Err-2-clause-part g c = refused_cut IsLineOfSome c.refuse_for.result _ _ (inr refl) c.refuse_for.ensures.refused
