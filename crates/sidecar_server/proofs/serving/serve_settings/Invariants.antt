use Rattle.sidecar_server.specs.Served.{services_of}
use Rattle.sidecar_server.proofs.serving.serve_settings.Given as goal

abbrev pub ghosts-serve_at_desk-L-Ledger : goal.ghosts-serve_at_desk-L-Ledger
ghosts-serve_at_desk-L-Ledger g a = record { name = a.entry_parts.name; parts = a.entry_parts.parts }

abbrev pub ghosts-serve_at_desk-M-Ledger : goal.ghosts-serve_at_desk-M-Ledger
ghosts-serve_at_desk-M-Ledger g a = record { name = a.cut_parts.name; parts = a.cut_parts.parts }

-- the desk opens the services of the file
abbrev pub ghosts-serve_at_desk-M-Offered : goal.ghosts-serve_at_desk-M-Offered
ghosts-serve_at_desk-M-Offered g a = record { services = services_of a.first_ticket a.settings.services.items }
