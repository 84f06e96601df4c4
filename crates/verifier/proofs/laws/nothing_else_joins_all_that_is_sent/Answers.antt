use Rattle.verifier.proofs.Edges.{forward}
use Rattle.verifier.proofs.JoinedStates.{states_unordered}
use Rattle.verifier.proofs.KnownJoin.{only_known}
use Rattle.verifier.proofs.laws.nothing_else_joins_all_that_is_sent.Goals as goal
use Rattle.bpf_profile.specs.Layouts.{context_size}

pub returns : goal.returns
returns g c = λ layout slots place known program accepted joins.
    only_known g.D.Domain (context_size layout) slots
    (states_unordered g.D.Domain (record { symmetric = g.met.D.Domain.joins_are_symmetric; associative = g.met.D.Domain.joins_are_associative })) (forward slots program accepted) known joins place
