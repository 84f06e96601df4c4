use Rattle.std.proofs.Common.{rules, ◌≡◌, ◌<◌, ◌+◌, ◌-◌, length, drop, get_or, List, ◌∷◌, ℕ, refl, sym, ap, ◌∙◌, arith}
use Rattle.std.proofs.lemmas.List.{length-drop, length-set, drop_all}
use Rattle.packed_outcomes.specs.Marks.{marks_of, kept_of}
use Rattle.packed_outcomes.proofs.Spreading.{marks_small, word_before, marks_with_zero, marks_with_some, kept_with_zero, kept_with_some, nothing_kept, room_before}
use Rattle.packed_outcomes.proofs.kept.keep.Goals.{then-word-ne0, else-word-ne0}
use Rattle.packed_outcomes.proofs.kept.keep.Goals as goal

pub loop-i-init : goal.loop-i-init
loop-i-init c =
    let words = c.args.words.now in
    let room = c.args.room.now in
    let none = nothing_kept words (length words) refl in
    let all : drop (length words - 0) words ≡ drop (length words) words = ap (λ (n : ℕ). drop n words) (omega arith) in
    record {
      marks = sym (ap marks_of all ∙ none.0);
      full = refl;
      kept = drop_all (length room) room (omega arith) ∙ sym (ap kept_of all ∙ none.1);
      room = omega arith;
      inside = omega arith;
    }

pub overflow_mul-marks : goal.overflow_mul-marks
overflow_mul-marks c =
    let small = marks_small (drop (length c.args.words.now - c.loop-i.i) c.args.words.now) (omega (arith, c.requires.few, length-drop (length c.args.words.now - c.loop-i.i) c.args.words.now)) in
    omega (arith, small, c.loop-i.invariant.marks)

pub overflow_add-marks : goal.overflow_add-marks
overflow_add-marks c =
    let small = marks_small (drop (length c.args.words.now - c.loop-i.i) c.args.words.now) (omega (arith, c.requires.few, length-drop (length c.args.words.now - c.loop-i.i) c.args.words.now)) in
    omega (arith, small, c.loop-i.invariant.marks)

pub loop-i-preserved : goal.loop-i-preserved
loop-i-preserved c = elim c.if-word-ne0.branch [
  | then-word-ne0 w ↦
      let i = c.loop-i.i in
      let words = c.args.words.now in
      let inv = c.loop-i.invariant in
      let word = get_or words (length words - 1 - i) 0 in
      let some : 0 < word = omega (arith, w.if-word-ne0.true) in
      let before = word_before words (length words) i word refl c.loop-i-test.true refl in
      let size = length-set c.loop-i.room (c.loop-i.start - 1) word in
      rw (w.room-is, w.marks-is, w.start-is) record {
        marks = omega (arith, inv.marks, marks_with_some (drop (length words - (i + 1)) words) (drop (length words - i) words) word before some);
        full = size ∙ inv.full;
        kept = room_before c.loop-i.room c.loop-i.start word (omega (arith, inv.room, inv.full, c.requires.room)) inv.inside ∙ ap (λ (ws : List ℕ). word ∷ ws) inv.kept ∙ sym (kept_with_some (drop (length words - (i + 1)) words) (drop (length words - i) words) word before some);
        room = omega (arith, size, inv.room);
        inside = omega (arith, size, inv.inside);
      }
  | else-word-ne0 w ↦
      let i = c.loop-i.i in
      let words = c.args.words.now in
      let inv = c.loop-i.invariant in
      let word = get_or words (length words - 1 - i) 0 in
      let none : word ≡ 0 = search rules in
      let before = word_before words (length words) i word refl c.loop-i-test.true refl in
      rw (w.room-is, w.marks-is, w.start-is) record {
        marks = omega (arith, inv.marks, marks_with_zero (drop (length words - (i + 1)) words) (drop (length words - i) words) word before none);
        full = inv.full;
        kept = inv.kept ∙ sym (kept_with_zero (drop (length words - (i + 1)) words) (drop (length words - i) words) word before none);
        room = omega (arith, inv.room);
        inside = inv.inside;
      }
]
