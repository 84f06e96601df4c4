-- What the file of `sidecar serve` says, as JSON.
use Rattle.std.specs.Prelude.{ℕ, suc, List, [], ◌∷◌, ◌++◌, length, Bool, ◌&&◌, ◌||◌, nat_le, nat_eq, Option, Some, None, option_and_then, option_map, if◌then◌else◌, codes}
use Rattle.std.specs.List.{list_all, list_any}
use Rattle.std.specs.Str.{bytes_eq}
use Rattle.serde_json.specs.Data.{Data, Items, no_items, item}
use Rattle.serde_json.specs.Find.{get, as_array, as_str}
use Rattle.bpf_profile.specs.declared.layout.Layout.{Layout}
use Rattle.texts.specs.Outcomes.{◌>>=◌, if_there}
use Rattle.service_profile.specs.declared.configuration.ConfigParts.{ConfigParts}
use Rattle.service_profile.specs.Configured.{default_parts}
use Rattle.requests.specs.Configurations.{config_of}
use Rattle.requests.specs.Keys.{is_one_of, has_known_keys}
use Rattle.requests.specs.Layouts.{layout_of}
use Rattle.requests.specs.Programs.{program_of}
use Rattle.texts.specs.JsonText.{json_of}
use Rattle.requests.specs.Values.{number_at, text_at}
use Rattle.service.specs.declared.upkeep.Journal.{Journal}
use Rattle.service.specs.declared.upkeep.Journal.TheVariants.{Keep, Last}
use Rattle.service_file.specs.declared.keepers.Keeper.{Keeper}
use Rattle.service_file.specs.declared.keepers.Keeper.TheVariants.{Lock, Slot}
use Rattle.service_file.specs.declared.logging.Logging.{Logging}
use Rattle.service_file.specs.declared.logging.Logging.TheVariants.{Silent, Changes}
use Rattle.service_file.specs.declared.numbering.Tickets.{Tickets}
use Rattle.service_file.specs.declared.numbering.Tickets.TheVariants.{FromOne, ByTheClock}

-- a service: its name, its configuration, its program's bytes, where the file has a program, the layout that the program is for, what becomes of its journal where it is full, and how old its tickets may get
pub record ServiceData : Type 0 where
  pub name : List ℕ
  pub config : ConfigParts
  pub program : Option (List ℕ)
  pub layout : Layout
  pub journal : Journal
  pub max_ticket_age : ℕ

-- the whole file: the text of the address, how many workers, how the books are kept between their calls, after how many connections serving ends, how many are open at once at most, from which number on tickets are numbered, what is told of the services on standard error, and the services
pub record FileData : Type 0 where
  pub listen : List ℕ
  pub workers : ℕ
  pub keeper : Keeper
  pub connections : ℕ
  pub most_open : ℕ
  pub tickets : Tickets
  pub logging : Logging
  pub services : List ServiceData

-- ---- keys

abbrev pub is_file_key : List ℕ → Bool
is_file_key = is_one_of (codes "listen" ∷ codes "workers" ∷ codes "keeper" ∷ codes "connections" ∷ codes "open" ∷ codes "tickets" ∷ codes "log" ∷ codes "services" ∷ [])

abbrev pub is_service_key : List ℕ → Bool
is_service_key = is_one_of (codes "name" ∷ codes "config" ∷ codes "program" ∷ codes "layout" ∷ codes "journal" ∷ codes "maxTicketAge" ∷ [])

-- ---- names

-- from 1 to 64
abbrev pub is_count : ℕ → Bool
is_count n = nat_le 1 n && nat_le n 64

-- a small letter, a digit, a hyphen or an underscore
abbrev pub is_name_byte : ℕ → Bool
is_name_byte c = (nat_le 97 c && nat_le c 122) || ((nat_le 48 c && nat_le c 57) || (nat_eq c 45 || nat_eq c 95))

-- 1 to 64 of these
abbrev pub is_name : List ℕ → Bool
is_name name = is_count (length name) && list_all is_name_byte name

-- ---- a service

-- the text where the test holds
abbrev pub kept_if : {A : Type 0} → (A → Bool) → A → Option A
kept_if test a = if test a then Some a else None

abbrev pub name_at : Data → Option (List ℕ)
name_at d = option_and_then (kept_if is_name) (text_at (codes "name") d)

-- the defaults where the key is missing
abbrev pub config_at : Data → Option ConfigParts
config_at d = if_there default_parts config_of (get (codes "config") d)

-- no program where the key is missing
abbrev pub program_at : Data → Option (Option (List ℕ))
program_at d = if_there None (λ v. option_map Some (program_of d)) (get (codes "program") d)

-- the two words for it
unfoldable pub journal_named : List ℕ → Option Journal
journal_named name =
    if bytes_eq name (codes "keep") then Some Keep
    else (if bytes_eq name (codes "last") then Some Last
    else None)

-- the journal is kept where the key is missing; None where another value stands there than one of these words
abbrev pub journal_at : Data → Option Journal
journal_at d = if_there Keep (λ v. option_and_then journal_named (as_str v)) (get (codes "journal") d)

-- in milliseconds; 0, for any age, where the key is missing; None where another value than such a number stands there
abbrev pub max_ticket_age_at : Data → Option ℕ
max_ticket_age_at d = if_there 0 (λ v. number_at (codes "maxTicketAge") d) (get (codes "maxTicketAge") d)

-- None where the value is no object, has a key of another name, or a value that can't be used
unfoldable pub service_of : Data → Option ServiceData
service_of d =
    if has_known_keys is_service_key d then (do
      name ← name_at d
      config ← config_at d
      layout ← layout_of d
      journal ← journal_at d
      max_ticket_age ← max_ticket_age_at d
      program ← program_at d
      Some (record { name = name; config = config; program = program; layout = layout; journal = journal; max_ticket_age = max_ticket_age }))
    else None

-- ---- services

abbrev pub is_named : List ℕ → ServiceData → Bool
is_named name service = bytes_eq service.name name

-- one more service, whose name is new
abbrev pub added : List ServiceData → ServiceData → Option (List ServiceData)
added services service = if list_any (is_named service.name) services then None else Some (services ++ service ∷ [])

unfoldable pub with_service : List ServiceData → Data → Option (List ServiceData)
with_service services d = option_and_then (added services) (service_of d)

-- the services after these ones
abbrev pub services_after : List ServiceData → Items → Option (List ServiceData)
services_after services no_items = Some services
services_after services (item d ds) = option_and_then (λ more. services_after more ds) (with_service services d)

abbrev pub items_length : Items → ℕ
items_length no_items = 0
items_length (item d ds) = suc (items_length ds)

-- 1 to 64 services, no two of one name
abbrev pub services_of : Items → Option (List ServiceData)
services_of items = option_and_then (services_after []) (kept_if (λ ds. is_count (items_length ds)) items)

abbrev pub services_at : Data → Option (List ServiceData)
services_at d = option_and_then services_of (option_and_then as_array (get (codes "services") d))

-- ---- the whole

abbrev pub workers_at : Data → Option ℕ
workers_at d = option_and_then (kept_if is_count) (number_at (codes "workers") d)

-- the keepers by their names
unfoldable pub keeper_named : List ℕ → Option Keeper
keeper_named name =
    if bytes_eq name (codes "lock") then Some Lock
    else (if bytes_eq name (codes "slot") then Some Slot
    else None)

-- the lock where the key is missing; None where another value than the name of a keeper stands there
abbrev pub keeper_at : Data → Option Keeper
keeper_at d = if_there Lock (λ v. option_and_then keeper_named (as_str v)) (get (codes "keeper") d)

-- from 1 to 65,536
abbrev pub is_open_limit : ℕ → Bool
is_open_limit n = nat_le 1 n && nat_le n 65536

-- how many connections are open at once at most: 1,024 where the key is missing; None where another value than such a number stands there
abbrev pub open_at : Data → Option ℕ
open_at d = if_there 1024 (λ v. option_and_then (kept_if is_open_limit) (number_at (codes "open") d)) (get (codes "open") d)

-- the two texts for it
unfoldable pub tickets_named : List ℕ → Option Tickets
tickets_named name =
    if bytes_eq name (codes "from 1") then Some FromOne
    else (if bytes_eq name (codes "by the clock") then Some ByTheClock
    else None)

-- from 1 where the key is missing; None where another value than one of these texts stands there
abbrev pub tickets_at : Data → Option Tickets
tickets_at d = if_there FromOne (λ v. option_and_then tickets_named (as_str v)) (get (codes "tickets") d)

-- the two texts for it
unfoldable pub logging_named : List ℕ → Option Logging
logging_named name =
    if bytes_eq name (codes "silent") then Some Silent
    else (if bytes_eq name (codes "changes") then Some Changes
    else None)

-- silent where the key is missing; None where another value than one of these texts stands there
abbrev pub logging_at : Data → Option Logging
logging_at d = if_there Silent (λ v. option_and_then logging_named (as_str v)) (get (codes "log") d)

-- None where the value is no object, lacks a key other than the keeper, the limit of open connections and those of the tickets and the log, has one of another name, or a value that can't be used
unfoldable pub file_of : Data → Option FileData
file_of d =
    if has_known_keys is_file_key d then (do
      listen ← text_at (codes "listen") d
      workers ← workers_at d
      keeper ← keeper_at d
      connections ← number_at (codes "connections") d
      most_open ← open_at d
      tickets ← tickets_at d
      logging ← logging_at d
      services ← services_at d
      Some (record { listen = listen; workers = workers; keeper = keeper; connections = connections; most_open = most_open; tickets = tickets; logging = logging; services = services }))
    else None

-- the same of JSON text
abbrev pub file_in : List ℕ → Option FileData
file_in text = option_and_then file_of (json_of text)
