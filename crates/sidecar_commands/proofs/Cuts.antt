-- Answers of which a beginning was written.
use Rattle.std.proofs.Common.{◌≡◌, ℕ, List, [], ◌∷◌, ◌++◌, Option, Some, Result, Ok, Err, IfErr, inl, inr, refl, ap, sym, subst, ◌∙◌, append_assoc}
use Rattle.counted_io.specs.Counting.{AppendsPart}
use Rattle.counted_io.proofs.Pieces.{appends_more}
use Rattle.classifier_commands.specs.Commands.{Words}
use Rattle.classifier_commands.specs.declared.commands.Status.TheVariants as status
use Rattle.classifier_commands.specs.Endings.{IsInPart, IsAnsweredInPart as is_answered_in_part_of_classifier}
use Rattle.classifier_commands.specs.Text.{answer_text}
use Rattle.replay.specs.declared.ReplayEnded.TheVariants as ended
use Rattle.replay.specs.declared.ReplayError.{ReplayError}
use Rattle.replay.specs.declared.ReplayError.TheVariants as error
use Rattle.replay.specs.Parts.{IsReplayedPart}
use Rattle.replay.specs.Replaying.{IsReplayed}
use Rattle.sidecar_commands.specs.Commands.{NamesReplay, HasReplayed, bad_config, status_of_error}
use Rattle.sidecar_commands.specs.Endings.{IsAnsweredInPart, IsCut, IsReplayCut}

-- the line that refuses a configuration
abbrev pub refusal : List ℕ
refusal = answer_text bad_config ++ 10 ∷ []

pub refusal_in_part : (known before refused after : Option (List ℕ)) → IsReplayed known ended.BadConfig before refused → AppendsPart refused after refusal → IsInPart (HasReplayed known) before after
refusal_in_part known before refused after replayed part =
    let text : List ℕ = replayed.1 in
    let whole : HasReplayed known status.Refused (Some []) (Some (text ++ refusal)) = (ended.BadConfig, Some text, (replayed.0, text, replayed.2, replayed.3, refl), (refl, refl)) in
    let split : text ++ refusal ≡ (text ++ part.0) ++ part.1.0 = ap (λ (t : List ℕ). text ++ t) part.1.1 ∙ sym (append_assoc text part.0 part.1.0) in
    (status.Refused, text ++ refusal, whole, (text ++ part.0, (part.1.0, split), appends_more before refused after text part.0 replayed.4 part.2))

part_is_cut : (e : ReplayError) (known before after : Option (List ℕ)) → IsReplayedPart known before after → IsReplayCut e known before after
part_is_cut error.ReadFailed known before after part = part
part_is_cut error.WriteFailed known before after part = inr part
part_is_cut error.OutOfMemory known before after part = part
part_is_cut error.TooLong known before after part = part

pub replayed_is_cut : {X : Type 0} (r : Result X ReplayError) (known before after : Option (List ℕ)) → IsReplayedPart known before after → IfErr r (λ e. IsReplayCut e known before after)
replayed_is_cut (Ok x) known before after part = tt
replayed_is_cut (Err e) known before after part = part_is_cut e known before after part

refusal_is_cut : {W : Type 0} (contents : W → Option (List ℕ)) (e : ReplayError) (known before : Option (List ℕ)) (refused after : W)
    → IsReplayed known ended.BadConfig before (contents refused) → IsReplayedPart known before (contents refused)
    → IsCut e refused after (AppendsPart (contents refused) (contents after) refusal) → IsReplayCut e known before (contents after)
refusal_is_cut contents error.ReadFailed known before refused after replayed part cut = subst (λ w. IsReplayedPart known before (contents w)) (sym cut) part
refusal_is_cut contents error.WriteFailed known before refused after replayed part cut = inl (refusal_in_part known before (contents refused) (contents after) replayed cut)
refusal_is_cut contents error.OutOfMemory known before refused after replayed part cut = subst (λ w. IsReplayedPart known before (contents w)) (sym cut) part
refusal_is_cut contents error.TooLong known before refused after replayed part cut = subst (λ w. IsReplayedPart known before (contents w)) (sym cut) part

pub refused_is_cut : {X W : Type 0} (r : Result X ReplayError) (contents : W → Option (List ℕ)) (known before : Option (List ℕ)) (refused after : W)
    → IsReplayed known ended.BadConfig before (contents refused) → IsReplayedPart known before (contents refused)
    → IfErr r (λ e. IsCut e refused after (AppendsPart (contents refused) (contents after) refusal)) → IfErr r (λ e. IsReplayCut e known before (contents after))
refused_is_cut (Ok x) contents known before refused after replayed part cut = tt
refused_is_cut (Err e) contents known before refused after replayed part cut = refusal_is_cut contents e known before refused after replayed part cut

pub cut_at_write : (words : Words) (e : ReplayError) (known before after : Option (List ℕ)) → NamesReplay words → IsReplayCut e known before after → status_of_error e ≡ status.WriteFailed → IsAnsweredInPart words known before after
cut_at_write words error.ReadFailed known before after named cut is = absurd (let e : status.ReadFailed ≡ status.WriteFailed = is in cc)
cut_at_write words error.WriteFailed known before after named (inl part) is = inl (part.0, part.1, inr (named, part.2), part.3)
cut_at_write words error.WriteFailed known before after named (inr part) is = inr (named, part)
cut_at_write words error.OutOfMemory known before after named cut is = absurd (let e : status.OutOfMemory ≡ status.WriteFailed = is in cc)
cut_at_write words error.TooLong known before after named cut is = absurd (let e : status.TooLong ≡ status.WriteFailed = is in cc)

pub classifier_in_part : (words : Words) (known before after : Option (List ℕ)) → is_answered_in_part_of_classifier words known before after → IsAnsweredInPart words known before after
classifier_in_part words known before after part = inl (part.0, part.1, inl part.2, part.3)
