use Rattle.std.specs.Arc.{arc_value}
use Rattle.registry.proofs.Keeping.{last_is_current}
use Rattle.registry.proofs.holdings.Registry.current_program.Goals as goal

pub returns : goal.returns
returns c =
    let r = c.self.inside in
    rw (← c.self.view_is) (last_is_current arc_value r.first_version r.programs.items c.last.result.now (rw c.as_slice.ensures.value at c.last.ensures))
