use Rattle.std.proofs.Common.{◌≡◌, Some, None, ap, sym, ◌∙◌, subst}
use Rattle.windows.specs.Notes.{AreNotAfter}
use Rattle.service_profile.specs.declared.notes.Note.{Note}
use Rattle.service_profile.specs.declared.replies.Fate.{Fate}
use Rattle.service_profile.specs.declared.standings.Standing.{Standing}
use Rattle.service_profile.specs.Machine.{fate_of, note_of}
use Rattle.book.specs.Effects.{reported_plan}
use Rattle.book.proofs.Planned.{verdict_recorded, verdict_unrecorded}
use Rattle.book.proofs.machine.concluded.Goals as goal

pub returns-in-Recorded : goal.returns-in-Recorded
returns-in-Recorded c = λ held s stands before.
    let same : c.fate_of-fate.result ≡ fate_of s.standing c.args.ticket.period c.args.judged.now.verdict = rw (← c.standing-standing.ensures.stands held s stands, ← c.verdict-verdict.ensures.verdict) c.fate_of-fate.ensures in
    let made : c.note_of-note.result ≡ note_of s.config c.args.moment c.args.judged.now.verdict c.args.judged.now.outcome =
    rw (← c.parts-parts.ensures held s stands, ← c.verdict-verdict.ensures.verdict, ← c.outcome.ensures.outcome) c.note_of-note.ensures in
    verdict_recorded s c.args.moment c.args.ticket c.args.judged.now c.note_of-note.result c.after_note-next.result _ (sym same ∙ c.in-Recorded.is) made (c.after_note-next.ensures held s stands (subst (λ (n : Note). AreNotAfter n.moment s.notes) (sym made) before))
    (c.reported.ensures ∙ ap (λ (f : Fate). reported_plan c.args.ticket c.args.judged.now.verdict c.args.judged.now.steps f (Some c.note_of-note.result) c.after_note-next.result) c.in-Recorded.is)

pub returns-in_default : goal.returns-in_default
returns-in_default c = λ held s stands before.
    let same : c.fate_of-fate.result ≡ fate_of s.standing c.args.ticket.period c.args.judged.now.verdict = rw (← c.standing-standing.ensures.stands held s stands, ← c.verdict-verdict.ensures.verdict) c.fate_of-fate.ensures in
    verdict_unrecorded s c.args.moment c.args.ticket c.args.judged.now c.fate_of-fate.result _ same c.in_default.not-Recorded
    (c.reported-in_default.ensures ∙ ap (λ (n : Standing). reported_plan c.args.ticket c.args.judged.now.verdict c.args.judged.now.steps c.fate_of-fate.result None n) (c.standing-standing.ensures.stands held s stands))
