use Rattle.std.proofs.Common.{◌≡◌, length, rules}
use Rattle.http_pool.proofs.EachWorker.{each_worked, each_ended, each_failed, if_ok_both}
use Rattle.http_pool.proofs.workers.pool_within.Goals as goal

pub returns : goal.returns
returns g c = record {
  each = if_ok_both c.map_vec.result _ _ _ (λ v len each. (let same : length v.items ≡ length c.args.workers.items = search rules in
      each_worked g.A.Answerer.names_of g.A.Answerer.answers g.C.Clock.ticks c.args.workers.items v.items same (λ i d within. (let k = (each i d within).1 in rw (k.job_is d) k.call.met.0)))) c.map_vec.ensures.len c.map_vec.ensures.each;
  ended = if_ok_both c.map_vec.result _ _ _ (λ v len each. (let same : length v.items ≡ length c.args.workers.items = search rules in
      each_ended c.args.limits.connections c.args.workers.items v.items same (λ i d within. (let k = (each i d within).1 in k.call.met.1)))) c.map_vec.ensures.len c.map_vec.ensures.each;
  failed = if_ok_both c.map_vec.result _ _ _ (λ v len each. (let same : length v.items ≡ length c.args.workers.items = search rules in
      each_failed c.args.workers.items v.items same (λ i d within. (let k = (each i d within).1 in k.call.met.2)))) c.map_vec.ensures.len c.map_vec.ensures.each;
}
