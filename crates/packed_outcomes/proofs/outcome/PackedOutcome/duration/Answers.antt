use Rattle.std.proofs.Common.{get_or, drop, List, ℕ, ap, sym, ◌∙◌, arith}
use Rattle.bpf_profile.specs.Outcomes.{duration_of}
use Rattle.packed_outcomes.proofs.Outcomes.{duration_zero, duration_some, duration_split}
use Rattle.packed_outcomes.proofs.outcome.PackedOutcome.duration.Goals as goal

pub returns-then-marks-eq0-clause-duration : goal.returns-then-marks-eq0-clause-duration
returns-then-marks-eq0-clause-duration c =
    sym (duration_zero c.split-marks.result.0 c.split-marks.result.1.now c.if-marks-eq0.true) ∙ duration_split c.self.inside.words.items c.split-marks.result.0 c.split-marks.result.1.now (c.split-marks.ensures.marks ∙ ap (λ (xs : List ℕ). get_or xs 0 0) c.deref.ensures.value) (c.split-marks.ensures.kept ∙ ap (drop 1) c.deref.ensures.value) ∙ ap duration_of c.self.view_is

pub returns-else-marks-eq0-clause-duration : goal.returns-else-marks-eq0-clause-duration
returns-else-marks-eq0-clause-duration c =
    sym (duration_some c.split-marks.result.0 c.kept_at.result c.split-marks.result.1.now (omega (arith, c.if-marks-eq0.false)) c.kept_at.ensures c.kept_at.type_inv) ∙ duration_split c.self.inside.words.items c.split-marks.result.0 c.split-marks.result.1.now (c.split-marks.ensures.marks ∙ ap (λ (xs : List ℕ). get_or xs 0 0) c.deref.ensures.value) (c.split-marks.ensures.kept ∙ ap (drop 1) c.deref.ensures.value) ∙ ap duration_of c.self.view_is
