-- Which steps were refused for want of memory.
use Rattle.std.specs.Prelude.{◌≡◌, Bool, true, false, List, Err}
use Rattle.std.specs.List.{AllByRecursion}
use Rattle.refusals.specs.declared.RefusalNumber.TheVariants as refusal
use Rattle.service_profile.specs.declared.replies.Reply.TheVariants as reply
use Rattle.service_profile.specs.Calls as call
use Rattle.book.specs.Interleavings.{Given, answered}

-- whether a step was refused for want of memory
abbrev pub lacks_memory : Given → Bool
lacks_memory (answered (call.replies (reply.Refused refusal.ServiceOutOfMemory))) = true
lacks_memory (answered (call.finds (Err refusal.ServiceOutOfMemory))) = true
lacks_memory (answered (call.hands (Err refusal.ServiceOutOfMemory))) = true
lacks_memory other = false

-- no step was refused for want of memory, so that each gave what the machine answers
abbrev pub HaveMemory : List Given → Type 0
HaveMemory given = AllByRecursion (λ one. lacks_memory one ≡ false) given
