-- Replies that HTTP answers with a status of their own.
use Rattle.std.specs.Prelude.{Bool, true}
use Rattle.refusals.specs.Table.{is_answered}
use Rattle.service_profile.specs.declared.replies.Reply.{Reply}
use Rattle.service_profile.specs.declared.replies.Reply.TheVariants as reply

abbrev pub has_status : Reply → Bool
has_status (reply.Refused number) = is_answered number
has_status other = true
