use Rattle.std.proofs.Common.{◌≤◌, ◌∷◌, length, map}
use Rattle.json.specs.Token.{begin_array}
use Rattle.service.specs.Asked.{response_data}
use Rattle.answers.specs.Writing.{Adds}
use Rattle.answers.proofs.Listed.{first_services}
use Rattle.answers.proofs.listing.put_services.Given as goal

-- the first services are written
abbrev pub invariant-loop-place : goal.invariant-loop-place
invariant-loop-place l = (l.place ≤ length l.names) × Adds (begin_array ∷ first_services l.place (map (λ name. name.now) l.names) (map response_data l.responses)) l.fn.out l.out
