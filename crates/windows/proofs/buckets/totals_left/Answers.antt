use Rattle.std.proofs.Common.{add-one, ap, sym, ◌∙◌}
use Rattle.windows.specs.Rings.{totals_of_bucket}
use Rattle.windows.specs.Sums.{sum_of}
use Rattle.windows.proofs.Fallen.{FallsAt, falls_at, stays_at}
use Rattle.windows.proofs.buckets.totals_left.Goals as goal
use Rattle.windows.proofs.buckets.totals_left.Goals.{In-Some}

falling : (c : In-Some) → FallsAt c.args.size c.args.second c.in-Some.bucket c.fallen.staying c.args.ring.now.items c.fallen.index
falling c = falls_at c.args.size c.args.second c.args.ring.now.items c.fallen.index c.in-Some.bucket c.fallen.staying (sym c.fallen_at.ensures ∙ c.in-Some.is) c.fallen.invariant.0

pub minus-staying-requires : goal.minus-staying-requires
minus-staying-requires c = (falling (goal.at.minus-staying-requires c).In-Some).part

pub fallen-preserved : goal.fallen-preserved
fallen-preserved c =
    let f = falling (goal.at.fallen-preserved c).In-Some in
    rw add-one (c.minus-staying.ensures ∙ f.summed, f.same ∙ c.fallen.invariant.1)

pub returns-in_default : goal.returns-in_default
returns-in_default c =
    c.fallen.invariant.0
    ∙ ap (sum_of totals_of_bucket) (sym (stays_at c.args.size c.args.second c.args.ring.now.items c.fallen.index (sym c.fallen_at.ensures ∙ c.in_default.is)) ∙ c.fallen.invariant.1)
