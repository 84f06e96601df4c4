-- What is heard, by computing it.
use Rattle.std.proofs.Common.{◌≡◌, ℕ, List, ap, ◌∙◌}
use Rattle.std.specs.List.{filter_map}
use Rattle.service_profile.specs.declared.configuration.ConfigParts.{ConfigParts}
use Rattle.service_profile.specs.Configured.{default_parts}
use Rattle.service_profile.specs.Events.{Opening}
use Rattle.service_profile.specs.Machine.{meant}
use Rattle.service_profile.specs.FirstOpening.{first_opening}
use Rattle.book.specs.Interleavings.{Act, begun}
use Rattle.book.proofs.Courses.{course, course_only}
use Rattle.worked_examples.specs.Services.{default_classifier, Heard, heard_of, IsHeard, IsHeardOn, IsHeardFromTicket}

heard_from : (opening : Opening) (acts : List Act) (heard : List Heard) → filter_map heard_of (course meant (begun opening) acts).given ≡ heard → IsHeard opening acts heard
heard_from opening acts heard is given after taken enough = ap (filter_map heard_of) (course_only meant (begun opening) acts given after taken enough).0 ∙ is

pub heard_on : (config : ConfigParts) (acts : List Act) (heard : List Heard) → filter_map heard_of (course meant (begun (first_opening config default_classifier)) acts).given ≡ heard → IsHeardOn config acts heard
heard_on config acts heard is = heard_from (first_opening config default_classifier) acts heard is

pub heard_from_ticket : (number : ℕ) (acts : List Act) (heard : List Heard) → filter_map heard_of (course meant (begun (record (first_opening default_parts default_classifier) { ticket = number })) acts).given ≡ heard → IsHeardFromTicket number acts heard
heard_from_ticket number acts heard is = heard_from (record (first_opening default_parts default_classifier) { ticket = number }) acts heard is
