use Rattle.std.proofs.Common.{◌≡◌, ◌≤◌, ◌-◌, map, length}
use Rattle.std.specs.Prelude.{vec_capacity}
use Rattle.service.specs.Asked.{response_data}
use Rattle.http_front.specs.Answered.{AreRead}
use Rattle.http_front.proofs.listing.read_services.Given as goal

-- the first services were read
abbrev pub invariant-loop-responses : goal.invariant-loop-responses
invariant-loop-responses g l = record {
  read : AreRead g.A.Answerer.answers l.initial.answerer 0 l.moment (map response_data l.responses.items) l.answerer;
  names : g.A.Answerer.names_of l.answerer ≡ g.A.Answerer.names_of l.initial.answerer;
  within : length l.responses.items ≤ length (g.A.Answerer.names_of l.initial.answerer);
  room : length (g.A.Answerer.names_of l.initial.answerer) ≤ vec_capacity l.responses;
}

abbrev pub decreases-loop-responses : goal.decreases-loop-responses
decreases-loop-responses g l = length (g.A.Answerer.names_of l.initial.answerer) - length l.responses.items
