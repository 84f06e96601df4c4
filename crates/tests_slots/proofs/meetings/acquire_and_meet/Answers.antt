use denote.Ref.{NamedLft}
use denote.Param.Send.{IsSend, sendable}
use Rattle.std.proofs.Crossing.{crosses}
use Rattle.service_profile.specs.contracts.replies.Reply as reply
use Rattle.slot_desk.proofs.Showing.{seat_field_send, desk_field_sync}
use Rattle.tests_slots.specs.contracts.callers.Caller as caller
use Rattle.tests_slots.specs.contracts.meetings.Acquirer as acquirer
use Rattle.tests_slots.proofs.meetings.acquire_and_meet.Goals as goal

caller_field_send : (κ : NamedLft) → IsSend (caller.the_field κ).row
caller_field_send κ = search (sendable, crosses, seat_field_send, desk_field_sync) depth 40 fits 20000

reply_send : IsSend (reply.the_field).row
reply_send = search sendable depth 200 fits 20000

acquirer_send : (κ : NamedLft) → IsSend (acquirer.the_row κ)
acquirer_send κ = search (sendable, caller_field_send, reply_send) depth 40 fits 20000

pub join_mut-requires-send-F : goal.join_mut-requires-send-F
join_mut-requires-send-F g c κs within = search (sendable, crosses, acquirer_send, c.type_bounds.sync-R) depth 40
