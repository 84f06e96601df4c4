-- Services that are ready to open, and when there are none.
use Rattle.std.specs.Prelude.{◌≡◌, ◌⊎◌, ℕ, List, [], ◌∷◌, length, Option, Some, None, string_bytes, true, ⊤}
use Rattle.std.specs.Net.Grammar.{IsSocketText}
use Rattle.std.specs.declared.net.socket_addr.SocketAddr.{SocketAddr}
use Rattle.bpf_profile.specs.SpellingFaults.{Fault}
use Rattle.verifier.specs.DefaultClassifier.{default_classifier_bytes}
use Rattle.verifier.specs.Verifying.{IsVerification, IsRefused}
use Rattle.service.specs.declared.log.Log.TheVariants as log
use Rattle.service_file.specs.declared.settings.ServiceSettings.{ServiceSettings}
use Rattle.service_file.specs.declared.settings.Settings.{Settings}
use Rattle.service_file.specs.Files.{ServiceData, FileData, file_in, is_count}

-- the default classifier where the file has no program
abbrev pub bytes_of : Option (List ℕ) → List ℕ
bytes_of None = default_classifier_bytes
bytes_of (Some bytes) = bytes

-- the service has the name and the configuration that the file gives, its program is accepted on records of the layout that the file gives, and what becomes of its journal and how old its tickets may get is what the file says; no log is told of it yet
pub record IsService (service : ServiceSettings) (given : ServiceData) : Type 0 where
  pub named : string_bytes service.name ≡ given.name
  pub configured : service.config ≡ given.config
  pub verified : IsVerification (bytes_of given.program) service.program
  pub seen : service.program.layout ≡ given.layout
  pub tended : service.upkeep ≡ record { journal = given.journal; max_ticket_age = given.max_ticket_age; log = log.Silent }

-- service by service
abbrev pub AreServices : List ServiceSettings → List ServiceData → Type 0
AreServices [] [] = ⊤
AreServices (service ∷ services) (given ∷ later) = IsService service given × AreServices services later
AreServices services other = ⊥

-- some program is refused on records of its layout
abbrev pub HasRefusal : List ServiceData → Type 0
HasRefusal [] = ⊥
HasRefusal (given ∷ later) = ((fault : Fault) × IsRefused given.layout (bytes_of given.program) fault) ⊎ HasRefusal later

-- the settings are those of the file
pub record AreSettings (settings : Settings) (file : FileData) : Type 0 where
  pub address : IsSocketText file.listen settings.listen
  pub threads : settings.workers ≡ file.workers
  pub kept : settings.keeper ≡ file.keeper
  pub ends : settings.connections ≡ file.connections
  pub limited : settings.most_open ≡ file.most_open
  pub numbered : settings.tickets ≡ file.tickets
  pub told : settings.logging ≡ file.logging
  pub served : AreServices settings.services.items file.services

-- the text is no address, or some program is refused
abbrev pub CannotSettle : FileData → Type 0
CannotSettle file = ((address : SocketAddr) → IsSocketText file.listen address → ⊥) ⊎ HasRefusal file.services

-- what is read of a text: the settings of the file that it is, or nothing where it is none or can't be used
abbrev pub IsRead : List ℕ → Option Settings → Type 0
IsRead text None = (file : FileData) → file_in text ≡ Some file → CannotSettle file
IsRead text (Some settings) = (file : FileData) × (file_in text ≡ Some file) × AreSettings settings file

-- 1 to 64 workers, and 1 to 64 services
abbrev pub HasCounts : Settings → Type 0
HasCounts settings = (is_count settings.workers ≡ true) × (is_count (length settings.services.items) ≡ true)
