-- Services as they open.
use Rattle.std.specs.Prelude.{◌≡◌, ℕ, suc, List, [], ◌∷◌, ⊤}
use Rattle.service.specs.declared.log.Log.TheVariants as log
use Rattle.service.specs.declared.upkeep.Upkeep.{Upkeep}
use Rattle.service_profile.specs.FirstOpening.{first_opening_from}
use Rattle.service_profile.specs.Events.{history_of}
use Rattle.service_file.specs.declared.logging.Logging.{Logging}
use Rattle.service_file.specs.declared.logging.Logging.TheVariants as logging
use Rattle.service_file.specs.declared.settings.ServiceSettings.{ServiceSettings}
use Rattle.http_front.specs.declared.books.NamedBook.{NamedBook}

-- a service under its name, with its configuration and its program, the number of its first ticket, no entry, and what it does for its upkeep
pub record IsOpened (first : ℕ) (service : ServiceSettings) (opened : NamedBook) : Type 0 where
  pub named : opened.name ≡ service.name
  pub fresh : opened.book ≡ history_of (first_opening_from first service.config service.program) []
  pub tended : opened.upkeep ≡ service.upkeep

-- service by service
abbrev pub AreOpened : ℕ → List ServiceSettings → List NamedBook → Type 0
AreOpened first [] [] = ⊤
AreOpened first (service ∷ services) (opened ∷ later) = IsOpened first service opened × AreOpened first services later
AreOpened first services other = ⊥

-- what a service does for its upkeep, of which a log is told by this number where the settings say so
abbrev pub logged_by : Logging → ℕ → Upkeep → Upkeep
logged_by logging.Silent place upkeep = upkeep
logged_by logging.Changes place upkeep = record { journal = upkeep.journal; max_ticket_age = upkeep.max_ticket_age; log = log.Changes place }

-- what services do for their upkeep, in their order, by their numbers from this one on
abbrev pub upkeeps_from : Logging → ℕ → List ServiceSettings → List Upkeep
upkeeps_from logging place [] = []
upkeeps_from logging place (service ∷ services) = logged_by logging place service.upkeep ∷ upkeeps_from logging (suc place) services

-- of all services, by their numbers from 0 on
abbrev pub upkeeps_of : Logging → List ServiceSettings → List Upkeep
upkeeps_of logging services = upkeeps_from logging 0 services
