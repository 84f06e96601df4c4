use Rattle.std.proofs.Common.{sym, ◌∙◌}
use Rattle.flow_check.proofs.Marks.{marked_edges, marked_none}
use Rattle.flow_check.proofs.entered.mark_successors.Goals as goal

pub returns-in-Some : goal.returns-in-Some
returns-in-Some c = marked_edges _ _ c.in-Some.instruction _ _ _ _ _ (sym c.in-Some.ensures) c.next_of.ensures c.jump_of.ensures c.mark.ensures c.mark-in-Some.ensures

pub returns-in_default : goal.returns-in_default
returns-in_default c = marked_none _ _ _ (sym c.at.ensures ∙ c.in_default.is)
