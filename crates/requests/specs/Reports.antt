-- The report that a JSON object describes: a ticket, and the outcome of its call.
use Rattle.std.specs.Prelude.{ℕ, List, Option, Some, option_and_then, codes}
use Rattle.serde_json.specs.Data.{Data}
use Rattle.serde_json.specs.Find.{get}
use Rattle.bpf_profile.specs.Outcomes.{Outcome}
use Rattle.texts.specs.Outcomes.{◌>>=◌, outcome_of}
use Rattle.service.specs.declared.request.Report.{Report}
use Rattle.requests.specs.Values.{number_at}

abbrev pub outcome_at : List ℕ → Data → Option Outcome
outcome_at key d = option_and_then outcome_of (get key d)

-- None where the ticket or the outcome is missing or can't be used
unfoldable pub report_of : Data → Option Report
report_of d = do
  ticket ← number_at (codes "ticket") d
  outcome ← outcome_at (codes "outcome") d
  Some (record { ticket = ticket; outcome = outcome })
