use Rattle.std.proofs.Common.{sym, refl}
use Rattle.std.specs.Arc.{arc_value}
use Rattle.registry.specs.Registries.{no_owner}
use Rattle.registry.proofs.holdings.Registry.program_of.Goals as goal

pub returns-in-Err : goal.returns-in-Err
returns-in-Err c = no_owner (arc_value c.in_ok-program.program.now) (sym (c.in_ok-program.ensures.program)) refl
