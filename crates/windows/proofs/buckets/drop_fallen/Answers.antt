use Rattle.std.proofs.Common.{sym, ◌∙◌}
use Rattle.circular_buffer.specs.Buffer.{buffer}
use Rattle.windows.proofs.Fallen.{FallsAt, falls_at, stays_at}
use Rattle.windows.proofs.buckets.drop_fallen.Goals as goal
use Rattle.windows.proofs.buckets.drop_fallen.Goals.{In-Some}

falling : (c : In-Some) → FallsAt c.args.size c.args.second c.in-Some.bucket c.fallen.staying c.fallen.ring.items 0
falling c = falls_at c.args.size c.args.second c.fallen.ring.items 0 c.in-Some.bucket c.fallen.staying (sym c.fallen_at.ensures ∙ c.in-Some.is) c.fallen.invariant.0

pub minus-staying-requires : goal.minus-staying-requires
minus-staying-requires c = (falling (goal.at.minus-staying-requires c).In-Some).part

pub returns-clause-ring : goal.returns-clause-ring
returns-clause-ring c =
    λ i. buffer
    ((sym (stays_at c.args.size c.args.second c.fallen.ring.items 0 (sym c.fallen_at.ensures ∙ c.in_default.is)) ∙ c.fallen.invariant.1) i)
    (c.fallen.invariant.2 i)
