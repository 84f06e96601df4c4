use Rattle.std.proofs.Common.{rules, inl}
use Rattle.sidecar_commands.specs.Commands.{NamesReplay}
use Rattle.sidecar_commands.proofs.Cuts.{cut_at_write, classifier_in_part}
use Rattle.sidecar_commands.proofs.commands.command.Goals as goal

pub returns-then-not-is_replay-clause-quiet : goal.returns-then-not-is_replay-clause-quiet
returns-then-not-is_replay-clause-quiet g c =
    let other : NamesReplay c.args.words.now → ⊥ = search rules in
    λ named refused. c.command.ensures.quiet (λ none. named (none, other)) (λ verifying. refused (inl verifying.0, verifying.1))

pub returns-then-not-is_replay-clause-explained : goal.returns-then-not-is_replay-clause-explained
returns-then-not-is_replay-clause-explained g c =
    let other : NamesReplay c.args.words.now → ⊥ = search rules in
    λ named. c.command.ensures.explained (λ none. named (none, other))

pub returns-then-not-is_replay-clause-part : goal.returns-then-not-is_replay-clause-part
returns-then-not-is_replay-clause-part g c =
    λ is. classifier_in_part c.args.words.now _ _ _ (c.command.ensures.part is)

pub returns-in-Err-clause-part : goal.returns-in-Err-clause-part
returns-in-Err-clause-part g c =
    let named : NamesReplay c.args.words.now = search rules in
    λ is. cut_at_write c.args.words.now c.in-Err.error _ _ _ named c.in-Err.ensures.part (rw c.status_of.ensures at is)

pub returns-then-not-is_replay-clause-unread : goal.returns-then-not-is_replay-clause-unread
returns-then-not-is_replay-clause-unread g c = λ unasked. c.command.ensures.unread (λ asked. unasked (inl asked))
