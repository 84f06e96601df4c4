use Rattle.std.proofs.Common.{rules, ◌≡◌}
use Rattle.replay.specs.Ends.{is_there}
use Rattle.replay.specs.Replaying.{config_told}
use Rattle.replay.specs.Lines.{TakesTold}
use Rattle.replay.proofs.Ending.{begun_found}
use Rattle.replay.proofs.replaying.first_config.Goals as goal

pub returns-clause-begun : goal.returns-clause-begun
returns-clause-begun g c =
    let takes : TakesTold (g.R.Read.remaining c.args.reader.now.inner) (g.R.Read.remaining c.next_line.new.reader.inner) (is_there c.in_ok-found.found) c.next_line.new.line.items = search rules in
    let is : c.in_ok-config.config ≡ config_told (is_there c.in_ok-found.found) c.next_line.new.line.items = search rules in
    begun_found (g.R.Read.remaining c.args.reader.now.inner) (g.R.Read.remaining c.next_line.new.reader.inner) (is_there c.in_ok-found.found) c.next_line.new.line.items c.in_ok-config.config takes is
