use Rattle.std.proofs.Common.{◌≡◌, ◌<◌, ◌++◌, ℕ, length, Option, true, false, inr, sym, subst}
use Rattle.std.specs.Prelude.{IfSome, OnOk, box_value}
use Rattle.abs_states.specs.Transfers.{transfer_in}
use Rattle.bpf_profile.specs.Layouts.{context_size}
use Rattle.verifier.specs.Analysis.{message_to}
use Rattle.verifier.specs.Passes.{seen, delivered_all}
use Rattle.verifier.proofs.Known.{if_err_map}
use Rattle.verifier.proofs.sending.send.Goals as goal

pub send_two-requires : goal.send_two-requires
send_two-requires g c = (c.requires.fits, (c.requires.fits, (c.requires.next, subst (λ (o : Option ℕ). IfSome o (λ to. to < length c.args.states.now)) c.in-Some.is c.requires.target)))

pub send_one-requires : goal.send_one-requires
send_one-requires g c = (c.requires.fits, c.requires.next)

pub returns-in-Some-clause-passed : goal.returns-in-Some-clause-passed
returns-in-Some-clause-passed g c = c.send_two.ensures.passed

pub returns-in-Some-clause-sent : goal.returns-in-Some-clause-sent
returns-in-Some-clause-sent g c =
    subst (λ (o : Option ℕ). OnOk c.send_two.result (seen c.send_two.new.states ≡ delivered_all g.D.Domain (seen c.args.states.now) (message_to c.args.edges.next (transfer_in g.D.Domain (context_size c.args.layout) (box_value c.args.state) false c.args.instruction.now) ++ message_to o (transfer_in g.D.Domain (context_size c.args.layout) (box_value c.args.state) true c.args.instruction.now)))) (sym c.in-Some.is)
    c.send_two.ensures.sent

pub returns-in-Some-clause-fault : goal.returns-in-Some-clause-fault
returns-in-Some-clause-fault g c = c.send_two.ensures.fault

pub returns-in-None-clause-passed : goal.returns-in-None-clause-passed
returns-in-None-clause-passed g c = c.send_one.ensures.passed

pub returns-in-None-clause-fault : goal.returns-in-None-clause-fault
returns-in-None-clause-fault g c = if_err_map c.send_one.result _ _ (λ e fault. inr fault) c.send_one.ensures.fault
