use Rattle.std.proofs.Common.{◌≡◌, ◌≤◌, map, take}
use Rattle.http_front.proofs.listing.names.Given as goal

-- the first names stand there
abbrev pub invariant-loop-place : goal.invariant-loop-place
invariant-loop-place g l = (l.place ≤ l.count) × (map (λ name. name.now) l.names.items ≡ take l.place (g.A.Answerer.names_of l.answerer))
