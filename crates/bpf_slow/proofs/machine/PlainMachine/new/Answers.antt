use Rattle.std.proofs.Common.{ap, List}
use Rattle.bpf_profile.specs.declared.machine.Cell.{Cell}
use Rattle.bpf_profile.specs.Machine.{State}
use Rattle.bpf_profile.specs.Meaning.{entry}
use Rattle.bpf_slow.proofs.machine.PlainMachine.new.Goals as goal

abbrev begun : List Cell → State
begun stack = record { slot = 0; registers = entry.registers; stack = stack }

pub returns : goal.returns
returns c = ap begun (c.in_ok-stack.ensures.items_if_clones_equal (λ y e. e))
