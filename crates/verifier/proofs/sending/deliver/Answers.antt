use Rattle.std.proofs.Common.{◌<◌, ℕ, length, Option, subst, rules}
use Rattle.std.specs.Prelude.{IfSome, box_value}
use Rattle.verifier.specs.Passes.{seen}
use Rattle.verifier.proofs.Taken.{one_delivered, none_delivered}
use Rattle.verifier.proofs.sending.deliver.Goals as goal

pub returns-in-Some : goal.returns-in-Some
returns-in-Some g c = one_delivered g.D.Domain (seen c.args.states.now) (seen c.join_at.new.states) c.args.to c.in-Some.to (box_value c.args.state) c.in-Some.is c.join_at.ensures

pub returns-in_default : goal.returns-in_default
returns-in_default g c = none_delivered g.D.Domain (seen c.args.states.now) c.args.to (box_value c.args.state) c.in_default.is

pub join_at-requires : goal.join_at-requires
join_at-requires g c = (search rules, subst (λ (o : Option ℕ). IfSome o (λ slot. slot < length c.args.states.now)) c.in-Some.is c.requires)
