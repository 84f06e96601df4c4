-- What services answer, as JSON values with their keys in ascending byte order, and the HTTP status of a reply (RFC 9110, section 15).
use Rattle.std.specs.Prelude.{ℕ, List, [], ◌∷◌, Option, Some, None, negsuc, codes}
use Rattle.bpf_profile.specs.declared.layout.Layout.TheVariants as layout
use Rattle.serde_json.specs.Data.{Num, Data, number, unsigned, negative, string, object, Members, no_members, member}
use Rattle.refusals.specs.declared.RefusalNumber.{RefusalNumber}
use Rattle.refusals.specs.Table.{number_of, name_of, status_of}
use Rattle.verifier.specs.declared.refusal.Refusal.{Refusal}
use Rattle.service_profile.specs.declared.readings.Reading.{Reading}
use Rattle.service_profile.specs.declared.replies.Fate.{Fate}
use Rattle.service_profile.specs.declared.replies.Fate.TheVariants as fate
use Rattle.service_profile.specs.declared.replies.Reply.{Reply}
use Rattle.service_profile.specs.declared.replies.Reply.TheVariants as reply
use Rattle.service_profile.specs.declared.states.State.{State}
use Rattle.service_profile.specs.declared.states.State.TheVariants as state
use Rattle.texts.specs.Verdicts.{verdict_name}

-- ---- names

abbrev pub state_name : State → List ℕ
state_name state.Closed = codes "CLOSED"
state_name state.Open = codes "OPEN"
state_name state.HalfOpen = codes "HALF_OPEN"
state_name state.Disabled = codes "DISABLED"
state_name state.MetricsOnly = codes "METRICS_ONLY"
state_name state.ForcedOpen = codes "FORCED_OPEN"

abbrev pub fate_name : Fate → List ℕ
fate_name fate.Recorded = codes "recorded"
fate_name fate.Ignored = codes "ignored"
fate_name fate.Off = codes "off"
fate_name fate.Stale = codes "stale"

-- ---- values

abbrev pub count : ℕ → Data
count n = number (unsigned n)

-- whole percent, or -1 where there is no rate
abbrev pub rate_number : Option ℕ → Num
rate_number None = negative (negsuc 0)
rate_number (Some percent) = unsigned percent

abbrev pub rate : Option ℕ → Data
rate percent = number (rate_number percent)

-- a key with its value
abbrev pub Field : Type 0
Field = List ℕ × Data

abbrev pub members_of : List Field → Members
members_of [] = no_members
members_of (f ∷ fs) = member f.0 f.1 (members_of fs)

-- the object with these keys, in this order
abbrev pub object_of : List Field → Data
object_of fields = object (members_of fields)

-- ---- bodies

abbrev pub refusal_data : RefusalNumber → Data
refusal_data refused = object_of ((codes "error", count (number_of refused)) ∷ (codes "name", string (name_of refused)) ∷ [])

-- a program's refusal names the slot of its fault
abbrev pub program_refusal_data : Refusal → Data
program_refusal_data refused = object_of (
    (codes "error", count (number_of refused.number))
    ∷ (codes "name", string (name_of refused.number))
    ∷ (codes "slot", count refused.slot)
    ∷ []
    )

abbrev pub handed_out_data : ℕ → Data
handed_out_data entries = object_of ((codes "entries", count entries) ∷ [])

abbrev pub reply_data : Reply → Data
reply_data (reply.Refused refused) = refusal_data refused
reply_data (reply.Permitted ticket version state) =
    object_of ((codes "state", string (state_name state)) ∷ (codes "ticket", count ticket) ∷ (codes "version", count version) ∷ [])
reply_data (reply.Finished fate verdict steps version state) = object_of (
    (codes "fate", string (fate_name fate))
    ∷ (codes "state", string (state_name state))
    ∷ (codes "steps", count steps)
    ∷ (codes "verdict", string (verdict_name verdict))
    ∷ (codes "version", count version)
    ∷ []
    )
reply_data (reply.Released state) = object_of ((codes "fate", string (codes "released")) ∷ (codes "state", string (state_name state)) ∷ [])
reply_data (reply.Installed version budget layout.One) = object_of ((codes "budget", count budget) ∷ (codes "version", count version) ∷ [])
reply_data (reply.Installed version budget layout.Two) = object_of ((codes "budget", count budget) ∷ (codes "layout", count 2) ∷ (codes "version", count version) ∷ [])
reply_data (reply.Moved state period) = object_of ((codes "period", count period) ∷ (codes "state", string (state_name state)) ∷ [])

abbrev pub reading_data : Reading → Data
reading_data reading = object_of (
    (codes "budget", count reading.budget)
    ∷ (codes "entries", count reading.entries)
    ∷ (codes "failed", count reading.failed)
    ∷ (codes "failureRate", rate reading.failure_rate)
    ∷ (codes "free", count reading.free)
    ∷ (codes "notPermitted", count reading.not_permitted)
    ∷ (codes "open", count reading.open_tickets)
    ∷ (codes "period", count reading.period)
    ∷ (codes "slow", count reading.slow)
    ∷ (codes "slowRate", rate reading.slow_rate)
    ∷ (codes "state", string (state_name reading.state))
    ∷ (codes "total", count reading.total)
    ∷ (codes "version", count reading.version)
    ∷ []
    )

-- ---- statuses

abbrev pub reply_status : Reply → ℕ
reply_status (reply.Refused refused) = status_of refused
reply_status other = 200
