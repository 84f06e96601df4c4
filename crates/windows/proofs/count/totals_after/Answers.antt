use Rattle.std.proofs.Common.{◌≡◌, ◌∷◌, [], ◌++◌, sym, ◌∙◌}
use Rattle.circular_buffer.specs.Buffer.{keep_last}
use Rattle.windows.specs.Rings.{totals_of_outcome}
use Rattle.windows.specs.Sums.{plus, sum_of}
use Rattle.windows.proofs.LastOutcomes.{first_is_part, after_full, after_roomy, ring_counted}
use Rattle.windows.proofs.count.totals_after.Goals as goal
use Rattle.windows.proofs.count.totals_after.Goals.{After-one_note-2, in-Some, in-None}

after : (c : After-one_note-2) → plus c.match-leaving.staying c.one_note-2.result ≡ sum_of totals_of_outcome (keep_last c.args.ring.now.capacity (c.args.ring.now.items ++ c.args.outcome ∷ []))
after c = rw c.one_note-2.ensures (elim c.match-leaving.branch [
  | in-Some w ↦ rw (w.staying-is, w.minus-staying.ensures, w.one_note.ensures) (after_full c.args.ring.now.capacity c.args.ring.now.items w.in-Some.oldest c.args.outcome c.args.totals c.requires.some c.requires.summed (sym c.leaving.ensures ∙ w.in-Some.is))
  | in-None w ↦ rw w.staying-is (after_roomy c.args.ring.now.capacity c.args.ring.now.items c.args.outcome c.args.totals c.requires.some c.requires.fits c.requires.summed (sym c.leaving.ensures ∙ w.in-None.is))
])

pub minus-staying-requires : goal.minus-staying-requires
minus-staying-requires c = rw c.one_note.ensures (first_is_part c.args.ring.now.capacity c.args.ring.now.items c.in-Some.oldest c.args.totals c.requires.summed (sym c.leaving.ensures ∙ c.in-Some.is))

pub plus-requires : goal.plus-requires
plus-requires c = rw (after c) (ring_counted c.args.ring.now.capacity (c.args.ring.now.items ++ c.args.outcome ∷ []) c.requires.few)

pub returns : goal.returns
returns c = c.plus.ensures ∙ after (goal.at.returns c).After-one_note-2
