use Rattle.std.proofs.Common.{length, sym}
use Rattle.std.proofs.lemmas.Bool.{ltb-false}
use Rattle.verifier.proofs.Taken.{seen_lent, seen_past}
use Rattle.verifier.proofs.analysis.States.at.Goals as goal

pub returns-in-Some : goal.returns-in-Some
returns-in-Some g c =
    seen_lent c.self.inside.states.items c.deref.result.now c.args.self.now c.args.slot c.in-Some.state.now c.as_deref.result
    c.deref.ensures.value c.self.view_is c.in-Some.ensures.lookup.3.0 c.in-Some.ensures.lookup.1 c.as_deref.ensures.cases

pub returns-in-None : goal.returns-in-None
returns-in-None g c =
    seen_past c.self.inside.states.items c.deref.result.now c.args.self.now c.args.slot
    c.deref.ensures.value c.self.view_is (ltb-false c.args.slot (length c.deref.result.now) (sym c.in-None.ensures.lookup.0))
