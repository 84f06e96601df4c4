use Rattle.std.proofs.Common.{refl, rules}
use Rattle.std.proofs.lemmas.Result.{IfOk-weaker}
use Rattle.replay.specs.declared.ReplayEnded.TheVariants as ended
use Rattle.replay.specs.Replaying.{IsReplayed}
use Rattle.sidecar_commands.proofs.Cuts.{replayed_is_cut, refused_is_cut}
use Rattle.sidecar_commands.proofs.commands.replay_events.Goals as goal

pub returns-in-Done-clause-replayed : goal.returns-in-Done-clause-replayed
returns-in-Done-clause-replayed g c =
    let replayed : IsReplayed (g.R.Read.remaining c.args.reader.now.inner) ended.Done (g.O.Write.contents c.args.out.now.inner) (g.O.Write.contents c.replay_with.new.out.inner) = rw c.in-Done.is at c.in_ok-replay_with.ensures.replayed in
    (ended.Done, g.O.Write.contents c.replay_with.new.out.inner, replayed, (refl, refl))

pub returns-clause-replayed : goal.returns-clause-replayed
returns-clause-replayed g c =
    let replayed : IsReplayed (g.R.Read.remaining c.args.reader.now.inner) ended.BadConfig (g.O.Write.contents c.args.out.now.inner) (g.O.Write.contents c.replay_with.new.out.inner) = rw c.in-BadConfig.is at c.in_ok-replay_with.ensures.replayed in
    IfOk-weaker c.refuse_line.result _ _ (λ status printed. (ended.BadConfig, g.O.Write.contents c.replay_with.new.out.inner, replayed, printed)) c.refuse_line.ensures.printed

pub returns-in_err-replay_with-clause-part : goal.returns-in_err-replay_with-clause-part
returns-in_err-replay_with-clause-part g c = replayed_is_cut c.from_residual.result _ _ _ c.replay_with.ensures.part

pub returns-clause-part : goal.returns-clause-part
returns-clause-part g c =
    let replayed : IsReplayed (g.R.Read.remaining c.args.reader.now.inner) ended.BadConfig (g.O.Write.contents c.args.out.now.inner) (g.O.Write.contents c.replay_with.new.out.inner) = rw c.in-BadConfig.is at c.in_ok-replay_with.ensures.replayed in
    refused_is_cut c.refuse_line.result (λ w. g.O.Write.contents w.inner) _ _ c.replay_with.new.out _ replayed c.in_ok-replay_with.ensures.part c.refuse_line.ensures.part

pub returns-in-Done-clause-explained : goal.returns-in-Done-clause-explained
returns-in-Done-clause-explained g c = search rules

pub returns-in-Done-clause-quiet : goal.returns-in-Done-clause-quiet
returns-in-Done-clause-quiet g c = search rules
