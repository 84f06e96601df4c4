use mir.Syntax.{static}
use denote.Exit.{yes}
use denote.Ref.{NamedLft}
use denote.Param.Send.{IsSend, sendable, param_send, arg_send}
use Rattle.std.proofs.Common.{◌≡◌, ◌∙◌, [], length, sym, rules}
use Rattle.std.proofs.Crossing.{crosses}
use Rattle.std.proofs.lemmas.List.{ext_get_or}
use Rattle.book.proofs.Sending.{verified_send, verified_sync}
use Rattle.book.specs.contracts.events.Entry as entry
use Rattle.book.specs.contracts.events.Event as event
use Rattle.bpf_run.specs.contracts.work.Judged as judged
use Rattle.service_profile.specs.contracts.replies.Reply as reply
use Rattle.slot_desk.proofs.Showing.{seat_field_send, desk_field_sync}
use Rattle.tests_slots.specs.contracts.callers.Caller as caller
use Rattle.worked_histories.specs.contracts.wishes.Wish as wish
use Rattle.tests_slots.specs.contracts.workers.Log as log
use Rattle.worked_histories.specs.contracts.entries.Made as made
use Rattle.tests_slots.specs.contracts.workers.Worker as worker
use Rattle.tests_slots.proofs.workers.at_once.Goals as goal

-- ---- a worker may go to a thread of its own

caller_field_send : (κ : NamedLft) → IsSend (caller.the_field κ).row
caller_field_send κ = search (sendable, crosses, seat_field_send, desk_field_sync) depth 40 fits 20000

-- what was called and answered, and the entries that a cut handed out

judged_send : IsSend (judged.the_field).row
judged_send = search (sendable, crosses, verified_send, verified_sync) depth 40 fits 20000

event_send : IsSend (event.the_field).row
event_send = search (sendable, crosses, verified_send, verified_sync, judged_send) depth 40 fits 20000

reply_send : IsSend (reply.the_field).row
reply_send = search sendable depth 200 fits 20000

entry_send : IsSend entry.the_row
entry_send = search (sendable, event_send, reply_send) depth 40 fits 20000

wish_send : IsSend (wish.the_field).row
wish_send = search sendable depth 60 fits 20000

made_send : IsSend made.the_row
made_send = search (sendable, wish_send, reply_send) depth 40 fits 20000

log_send : IsSend (log.the_field).row
log_send = search (sendable, crosses, made_send, entry_send) depth 40 fits 20000

worker_send : (κ : NamedLft) → IsSend (worker.the_row κ)
worker_send κ = search (sendable, caller_field_send, log_send) depth 40 fits 20000

pub for_each_mut-requires-send-T : goal.for_each_mut-requires-send-T
for_each_mut-requires-send-T g c κs within = param_send 1 _ (arg_send _ yes _ (worker_send (record { mir = static; lft = _ })))

-- each of them is as it was
pub returns : goal.returns
returns g c =
    let long : length c.args.workers.now ≡ length c.for_each_mut.new.s = search rules in
    sym (ext_get_or [] c.args.workers.now c.for_each_mut.new.s long (λ k less. let call = (c.for_each_mut.ensures k [] less).1 in sym call.argument_is ∙ (sym call.call ∙ call.left)))
