-- Which answers say that the journal is full, and which calls are made again once there is room.
use Rattle.std.specs.Prelude.{ℕ, Bool, true, false, ⊤}
use Rattle.refusals.specs.declared.RefusalNumber.TheVariants as refusal
use Rattle.service_profile.specs.declared.replies.Reply.TheVariants as reply
use Rattle.service_profile.specs.Calls.{CallData, CallAnswer, applies, replies}
use Rattle.service_profile.specs.Events.{acquires, releases, moves, resets}

-- the answer says that the journal is full
abbrev pub says_full : CallAnswer → Bool
says_full (replies (reply.Refused refusal.JournalFull)) = true
says_full other = false

-- what isn't made again: a finish, which no full journal refuses while its ticket is open; an install, where its program can have no more owners; and what is no event
abbrev pub IsMadeOnce : CallData → Type 0
IsMadeOnce (applies moment acquires) = ⊥
IsMadeOnce (applies moment (releases ticket)) = ⊥
IsMadeOnce (applies moment (moves state)) = ⊥
IsMadeOnce (applies moment resets) = ⊥
IsMadeOnce other = ⊤

-- half as many entries as a journal holds at most
abbrev pub half_a_journal : ℕ
half_a_journal = 32768
