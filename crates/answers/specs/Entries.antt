-- The entries of a service's journal as JSON.
use Rattle.std.specs.Prelude.{ℕ, List, [], ◌∷◌, codes}
use Rattle.serde_json.specs.Data.{Data, string}
use Rattle.service_profile.specs.Events.{EventData, acquires, finishes, releases, installs, moves, resets, EntryData}
use Rattle.answers.specs.Texts.{Field, count, object_of, reply_data, state_name}

abbrev pub event_name : EventData → List ℕ
event_name acquires = codes "acquire"
event_name (finishes work ticket) = codes "report"
event_name (releases ticket) = codes "release"
event_name (installs program) = codes "install"
event_name (moves state) = codes "transition"
event_name resets = codes "reset"

-- what an event names
abbrev pub named : EventData → List Field
named (finishes work ticket) = (codes "ticket", count ticket) ∷ []
named (releases ticket) = (codes "ticket", count ticket) ∷ []
named (moves state) = (codes "to", string (state_name state)) ∷ []
named other = []

-- an entry of an event with this name, which names this beside it
abbrev pub entry_object : List ℕ → List Field → EntryData → Data
entry_object name more line = object_of (
    (codes "event", string name)
    ∷ (codes "moment", count line.moment)
    ∷ (codes "number", count line.number)
    ∷ (codes "reply", reply_data line.reply)
    ∷ (codes "seat", count line.seat)
    ∷ more
    )

abbrev pub entry_data : EntryData → Data
entry_data line = entry_object (event_name line.event) (named line.event) line
