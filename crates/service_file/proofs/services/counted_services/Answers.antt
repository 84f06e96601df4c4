use Rattle.std.proofs.Common.{rules, ◌≡◌, sym, true, false, length}
use Rattle.service_file.specs.Files.{is_count}
use Rattle.service_file.proofs.Named.{too_many, as_many}
use Rattle.service_file.proofs.services.counted_services.Goals as goal

pub returns-then-not-is_count : goal.returns-then-not-is_count
returns-then-not-is_count c =
    let beyond : is_count (length c.args.values.now) ≡ false = search rules in
    sym (too_many c.args.values.now beyond)

pub returns : goal.returns
returns c =
    let within : is_count (length c.args.values.now) ≡ true = search rules in
    rw (as_many c.args.values.now within) c.services.ensures
