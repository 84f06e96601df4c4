-- What a service does for its own upkeep: steps of the documented machine, made by who calls the book, before a call that it is asked for.
use Rattle.std.specs.Prelude.{◌≡◌, ◌⊎◌, ℕ, zero, suc, ◌-◌, ◌<◌, nat_le, Bool, false, true, if◌then◌else◌, List, [], ◌∷◌, length, slice_get, Option, Some, None, Result}
use Rattle.std.specs.List.{filter}
use Rattle.refusals.specs.declared.RefusalNumber.{RefusalNumber}
use Rattle.service_profile.specs.declared.readings.Reading.{Reading}
use Rattle.service_profile.specs.declared.replies.Reply.{Reply}
use Rattle.service_profile.specs.declared.tickets.OpenTicket.{OpenTicket}
use Rattle.service_profile.specs.Calls.{CallData, CallAnswer, applies, reads, rolls, replies, shows, hands}
use Rattle.service_profile.specs.Events.{acquires, releases, EntryData, History}
use Rattle.service_profile.specs.Histories.{past_of, open_of}
use Rattle.book.specs.Full.{says_full, IsMadeOnce, half_a_journal}
use Rattle.service.specs.declared.upkeep.Journal.{Journal}
use Rattle.service.specs.declared.upkeep.Journal.TheVariants as journal
use Rattle.service.specs.declared.log.Log.{Log}
use Rattle.service.specs.declared.log.Log.TheVariants as log
use Rattle.service.specs.declared.upkeep.Upkeep.{Upkeep}

-- calls relates what calls the book, the call, its answer, and what calls the book after it
module _ {S : Type 0} (calls : S → CallData → CallAnswer → S → Type 0) where
  -- a reading told the number of the last entry, and a roll was made that leaves the last 32,768 entries, and was answered so
  abbrev pub IsRolledOut : Result (List EntryData) RefusalNumber → S → S → Type 0
  IsRolledOut found caller after =
      (shown : Reading) × (between : S)
      × calls caller (reads 0) (shows shown) between × calls between (rolls (shown.entries - half_a_journal)) (hands found) after

  -- that was done, whether the roll handed out entries or was refused
  abbrev pub HasMadeRoom : S → S → Type 0
  HasMadeRoom caller after = (found : Result (List EntryData) RefusalNumber) × IsRolledOut found caller after

  -- the call was made, and its answer isn't that the journal is full, or the call is made once
  abbrev pub IsMadePlainly : S → CallData → CallAnswer → S → Type 0
  IsMadePlainly caller call given after = calls caller call given after × ((says_full given ≡ false) ⊎ IsMadeOnce call)

  -- the journal was full, room was made, and the call was made again
  abbrev pub IsMadeAgain : S → CallData → CallAnswer → S → Type 0
  IsMadeAgain caller call given after =
      (answer : CallAnswer) × (full : S) × (roomy : S)
      × calls caller call answer full × (says_full answer ≡ true) × HasMadeRoom full roomy × calls roomy call given after

  -- either of them
  abbrev pub IsMadeWithRoom : S → CallData → CallAnswer → S → Type 0
  IsMadeWithRoom caller call given after = IsMadePlainly caller call given after ⊎ IsMadeAgain caller call given after

-- a call where this becomes of a full journal
abbrev pub IsKeptBy : {S : Type 0} → Journal → (S → CallData → CallAnswer → S → Type 0) → (S → CallData → CallAnswer → S → Type 0)
IsKeptBy journal.Keep calls = calls
IsKeptBy journal.Last calls = IsMadeWithRoom calls

-- ---- tickets that are too old

-- at a moment, the ticket was issued this long ago, or longer
abbrev pub is_old : ℕ → ℕ → OpenTicket → Bool
is_old age moment ticket = nat_le age (moment - ticket.moment)

abbrev pub number_where_old : ℕ → ℕ → Option OpenTicket → Option ℕ
number_where_old age moment None = None
number_where_old age moment (Some ticket) = if is_old age moment ticket then Some ticket.number else None

-- the number of the open ticket that was issued first, where it is that old
abbrev pub overdue : ℕ → ℕ → Reading → Option ℕ
overdue age moment shown = number_where_old age moment shown.oldest_ticket

-- how many tickets are released at most before an acquire
abbrev pub most_releases : ℕ
most_releases = 100

-- by tickets of this age at a moment
module _ {S : Type 0} (calls : S → CallData → CallAnswer → S → Type 0) (age moment : ℕ) where
  -- a reading showed that the oldest ticket is too old, and its release was answered so
  abbrev pub IsReleased : S → Reply → S → Type 0
  IsReleased caller r after =
      (shown : Reading) × (seen : S) × (ticket : ℕ)
      × calls caller (reads moment) (shows shown) seen × (overdue age moment shown ≡ Some ticket) × calls seen (applies moment (releases ticket)) (replies r) after

  -- one after another, with an answer each
  abbrev pub AreReleased : S → List Reply → S → Type 0
  AreReleased caller [] after = after ≡ caller
  AreReleased caller (r ∷ later) after = (between : S) × IsReleased caller r between × AreReleased between later after

  -- a reading showed no ticket that is too old
  abbrev pub IsNoneOld : S → S → Type 0
  IsNoneOld caller after = (shown : Reading) × calls caller (reads moment) (shows shown) after × (overdue age moment shown ≡ None)

  -- as many as it takes, and at most 100
  abbrev pub HasReleased : S → List Reply → S → Type 0
  HasReleased caller answers after =
      (between : S) × AreReleased caller answers between
      × (((length answers ≡ most_releases) × (after ≡ between)) ⊎ ((length answers < most_releases) × IsNoneOld between after))

-- an acquire by which tickets of an age are released first; 0 is any age, and none is
abbrev pub IsAcquired : {S : Type 0} → ℕ → (S → CallData → CallAnswer → S → Type 0) → (S → CallData → CallAnswer → S → Type 0) → S → ℕ → CallAnswer → S → Type 0
IsAcquired zero calls kept caller moment given after = kept caller (applies moment acquires) given after
IsAcquired {S} (suc age) calls kept caller moment given after =
    (answers : List Reply) × (between : S) × HasReleased calls (suc age) moment caller answers between × kept between (applies moment acquires) given after

-- ---- a log

-- a reading showed how the service stands, at some moment, or none was made
abbrev pub HasShown : {S : Type 0} → (S → CallData → CallAnswer → S → Type 0) → S → S → Type 0
HasShown calls caller after = (after ≡ caller) ⊎ ((moment : ℕ) × (shown : Reading) × calls caller (reads moment) (shows shown) after)

-- where there is no log, nothing was shown to one
abbrev pub IsShownTo : {S : Type 0} → Log → (S → CallData → CallAnswer → S → Type 0) → S → S → Type 0
IsShownTo log.Silent calls caller after = after ≡ caller
IsShownTo (log.Changes service) calls caller after = HasShown calls caller after

-- a call, and what a log is shown behind it
abbrev pub IsLogged : {S : Type 0} → Log → (S → CallData → CallAnswer → S → Type 0) → (S → CallData → CallAnswer → S → Type 0) → S → CallData → CallAnswer → S → Type 0
IsLogged log.Silent calls made caller call given after = made caller call given after
IsLogged {S} (log.Changes service) calls made caller call given after = (between : S) × made caller call given between × HasShown calls between after

-- ---- all of it

-- a call where the service does this for its upkeep
abbrev pub IsUpkept : {S : Type 0} → Upkeep → (S → CallData → CallAnswer → S → Type 0) → (S → CallData → CallAnswer → S → Type 0)
IsUpkept upkeep calls caller (applies moment acquires) given after =
    IsAcquired upkeep.max_ticket_age calls (IsLogged upkeep.log calls (IsKeptBy upkeep.journal calls)) caller moment given after
IsUpkept upkeep calls caller call given after = IsLogged upkeep.log calls (IsKeptBy upkeep.journal calls) caller call given after

-- a service that does nothing of its own
abbrev pub no_upkeep : Upkeep
no_upkeep = record { journal = journal.Keep; max_ticket_age = 0; log = log.Silent }

abbrev pub or_none : Option Upkeep → Upkeep
or_none (Some upkeep) = upkeep
or_none None = no_upkeep

-- what the service at a place does, by what all of them do, in their order; none behind the last
abbrev pub upkeep_at : List Upkeep → ℕ → Upkeep
upkeep_at upkeeps place = or_none (slice_get upkeeps place)

-- ---- of a book

-- the open tickets of a history that are this old at a moment
abbrev pub old_tickets : ℕ → ℕ → History → List OpenTicket
old_tickets age moment history = filter (is_old age moment) (open_of (past_of history).stages)
