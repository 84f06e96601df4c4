-- How many entries and cuts a call makes, and when a seat can count no more.
use Rattle.std.specs.Prelude.{ℕ, suc, ◌+◌, ◌-◌, ◌^◌, ◌<◌, ◌≤◌, ◌≡◌, if◌then◌else◌, Ok, ⊤}
use Rattle.refusals.specs.declared.RefusalNumber.TheVariants as refusal
use Rattle.service_profile.specs.declared.replies.Reply.{Reply}
use Rattle.service_profile.specs.declared.replies.Reply.TheVariants as reply
use Rattle.service_profile.specs.Calls.{CallData, CallAnswer, applies, cuts, replies, hands}
use Rattle.service_profile.specs.Machine.{is_entered}

-- one entry, where the reply stands in the journal
abbrev pub entries_made : Reply → ℕ
entries_made r = if is_entered r then 1 else 0

-- how many entries a call makes: only an event makes any
abbrev pub made_by : CallData → CallAnswer → ℕ
made_by (applies moment event) (replies r) = entries_made r
made_by call other = 0

-- how many cuts a call makes: one, where a cut hands out entries
abbrev pub cuts_by : CallData → CallAnswer → ℕ
cuts_by cuts (hands (Ok lines)) = 1
cuts_by call other = 0

-- the count of a seat before and after a report: a success counts once, an entered refusal at most once, and another refusal not at all
abbrev pub IsCounted : ℕ → Reply → ℕ → Type 0
IsCounted before (reply.Refused number) after = (before ≤ after) × (after ≤ before + entries_made (reply.Refused number))
IsCounted before success after = after ≡ suc before

-- so many entries of a seat leave no room for its count to go on
abbrev pub IsFull : ℕ → Type 0
IsFull count = 2 ^ 64 - 8 ≤ count

-- where the call is an event, which may make an entry, the count has room for it
abbrev pub HasRoomFor : ℕ → CallData → Type 0
HasRoomFor count (applies moment event) = count < 2 ^ 64 - 8
HasRoomFor count other = ⊤

-- an event is answered that the journal is full; no other call is
abbrev pub IsTurnedAway : CallData → CallAnswer → Type 0
IsTurnedAway (applies moment event) (replies r) = r ≡ reply.Refused refusal.JournalFull
IsTurnedAway call other = ⊥
