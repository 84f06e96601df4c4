use Rattle.std.proofs.Common.{◌≡◌, Some, rules}
use Rattle.std.proofs.lemmas.Result.{IfOk-weaker}
use Rattle.service_file.specs.Files.{file_in}
use Rattle.service_file.specs.Parts.{file_data}
use Rattle.service_file.proofs.Counts.{has_counts}
use Rattle.service_file.proofs.settings.read_settings.Goals as goal

pub returns-in-Ok-clause-counts : goal.returns-in-Ok-clause-counts
returns-in-Ok-clause-counts c =
    let is : file_in c.args.text.now ≡ Some (file_data c.in-Ok.part) = search rules in
    IfOk-weaker c.settled.result _ _ (λ found settled. IfOk-weaker found _ _ (λ s are. has_counts c.args.text.now s (file_data c.in-Ok.part, is, are)) settled) c.settled.ensures.settled
