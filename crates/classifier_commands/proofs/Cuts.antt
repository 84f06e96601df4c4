-- Answers of which a beginning was written.
use Rattle.std.proofs.Common.{◌≡◌, ℕ, List, [], Option, Some, Result, Ok, Err, IfErr, sym, subst}
use Rattle.classifier_commands.specs.declared.commands.Request.{Request}
use Rattle.classifier_commands.specs.declared.commands.Status.TheVariants as status
use Rattle.classifier_commands.specs.declared.error.CommandError.{CommandError}
use Rattle.classifier_commands.specs.declared.error.CommandError.TheVariants as error
use Rattle.classifier_commands.specs.Commands.{Words, IsRequest, IsDone, status_of_error}
use Rattle.classifier_commands.specs.Endings.{IsCut, IsInPart, IsAnsweredInPart}
use Rattle.classifier_commands.proofs.Requests.{answered}

-- where a write failed, what was written is a part of something larger
pub cut_weaker : {X W P Q : Type 0} (r : Result X CommandError) (before after : W) → (P → Q) → IfErr r (λ e. IsCut e before after P) → IfErr r (λ e. IsCut e before after Q)
cut_weaker (Ok x) before after larger cut = tt
cut_weaker (Err error.ReadFailed) before after larger cut = cut
cut_weaker (Err error.WriteFailed) before after larger cut = larger cut
cut_weaker (Err error.OutOfMemory) before after larger cut = cut

pub cut_at_write : {W P : Type 0} (e : CommandError) (before after : W) → IsCut e before after P → status_of_error e ≡ status.WriteFailed → P
cut_at_write error.ReadFailed before after cut is = absurd (let e : status.ReadFailed ≡ status.WriteFailed = is in cc)
cut_at_write error.WriteFailed before after cut is = cut
cut_at_write error.OutOfMemory before after cut is = absurd (let e : status.OutOfMemory ≡ status.WriteFailed = is in cc)

pub answered_in_part : (words : Words) (r : Request) (known before after : Option (List ℕ)) → IsRequest words r → IsInPart (IsDone r known) before after → IsAnsweredInPart words known before after
answered_in_part words r known before after asked done = (done.0, done.1, answered words r known done.0 (Some []) (Some done.1) asked done.2, done.3)

pub done_in_part : (r asked : Request) (known before after : Option (List ℕ)) → r ≡ asked → IsInPart (IsDone asked known) before after → IsInPart (IsDone r known) before after
done_in_part r asked known before after is part = subst (λ (q : Request). IsInPart (IsDone q known) before after) (sym is) part
