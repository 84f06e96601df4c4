use Rattle.book.proofs.Versions.{registered_dropped}
use Rattle.book.proofs.parts.Parts.drop_unneeded.Goals as goal

pub returns-clause-stands : goal.returns-clause-stands
returns-clause-stands c = λ held s stands. record {
  configured = stands.configured;
  stands = stands.stands;
  places = stands.places;
  registered = registered_dropped c.args.self.now.registry c.drop_unneeded.new.self s c.drop_unneeded.ensures.programs c.drop_unneeded.ensures.held stands.registered;
  entered = stands.entered;
}
