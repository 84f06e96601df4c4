-- The parts of the file that the code holds, as the definitions see them.
use Rattle.std.specs.Prelude.{map, option_map, string_bytes}
use Rattle.service_file.specs.declared.services.ServicePart.{ServicePart}
use Rattle.service_file.specs.declared.file.FilePart.{FilePart}
use Rattle.service_file.specs.Files.{ServiceData, FileData}

abbrev pub service_data : ServicePart → ServiceData
service_data part = record { name = string_bytes part.name; config = part.config; program = option_map (λ b. b.items) part.program; layout = part.layout; journal = part.journal; max_ticket_age = part.max_ticket_age }

abbrev pub file_data : FilePart → FileData
file_data part = record {
  listen = string_bytes part.listen;
  workers = part.workers;
  keeper = part.keeper;
  connections = part.connections;
  most_open = part.most_open;
  tickets = part.tickets;
  logging = part.logging;
  services = map service_data part.services.items;
}
