use Rattle.std.proofs.Common.{◌≡◌, map}
use Rattle.std.specs.List.{range_with_len}
use Rattle.bpf_profile.specs.Flow.{successors}
use Rattle.flow_check.specs.Routes.{successor_list, successors_at}
use Rattle.flow_check.proofs.Walks.{IsTraced}
use Rattle.flow_check.proofs.flow.follow_all.Given as goal

abbrev pub invariant-loop-place : goal.invariant-loop-place
invariant-loop-place l =
    IsTraced l.slots l.place l.longest l.budget
    × (map successor_list l.edges.items ≡ map (successors l.slots) (range_with_len 0 l.place))
    × (l.edges.items ≡ map (successors_at l.slots) (range_with_len 0 l.place))
