use Rattle.verifier.proofs.JoinedStates.{state_symmetric, state_associative}
use Rattle.verifier.proofs.laws.states_join_in_any_order.Goals as goal

pub returns : goal.returns
returns g c = record {
  symmetric = state_symmetric g.D.Domain (record { symmetric = g.met.D.Domain.joins_are_symmetric; associative = g.met.D.Domain.joins_are_associative });
  associative = state_associative g.D.Domain (record { symmetric = g.met.D.Domain.joins_are_symmetric; associative = g.met.D.Domain.joins_are_associative });
}
