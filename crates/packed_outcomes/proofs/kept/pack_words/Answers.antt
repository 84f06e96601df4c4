use Rattle.std.proofs.Common.{◌≡◌, List, ◌∷◌, ◌∙◌, sym, ap, ℕ, arith}
use Rattle.std.proofs.lemmas.List.{drop_all}
use Rattle.packed_outcomes.specs.Marks.{marks_of, kept_of}
use Rattle.packed_outcomes.proofs.Spreading.{with_no_marks, with_some_marks, room_before}
use Rattle.packed_outcomes.proofs.kept.pack_words.Goals as goal

pub returns-then-kept-eq0-clause-words : goal.returns-then-kept-eq0-clause-words
returns-then-kept-eq0-clause-words c =
    let none : marks_of c.args.words.now ≡ 0 = sym c.keep-kept.ensures.marks ∙ c.if-kept-eq0.true in
    drop_all _ c.keep-kept.new.room (omega arith) ∙ sym (with_no_marks (marks_of c.args.words.now) (kept_of c.args.words.now) none)

pub returns-clause-words : goal.returns-clause-words
returns-clause-words c =
    let words = c.args.words.now in
    let kept = c.keep-kept.result in
    room_before c.keep-kept.new.room kept.start kept.marks c.keep-kept.ensures.before c.keep-kept.ensures.inside
    ∙ ap (λ (ws : List ℕ). kept.marks ∷ ws) c.keep-kept.ensures.kept ∙ ap (λ (m : ℕ). m ∷ kept_of words) c.keep-kept.ensures.marks ∙ sym (with_some_marks (marks_of words) (kept_of words) (omega (arith, c.keep-kept.ensures.marks, c.if-kept-eq0.false)))
