-- Totals as a window keeps them: with one note more, and within which bounds.
use Rattle.std.specs.Prelude.{ℕ, ◌+◌, ◌≤◌, Bool, if◌then◌else◌}
use Rattle.service_profile.specs.declared.notes.Note.{Note}
use Rattle.service_profile.specs.declared.notes.Totals.{Totals}

abbrev pub one_where : Bool → ℕ
one_where test = if test then 1 else 0

abbrev pub with_note : Totals → Note → Totals
with_note totals note = record {
  total = totals.total + 1;
  failed = totals.failed + one_where note.failed;
  slow = totals.slow + one_where note.slow;
}

-- totals over at most so many notes
pub record AreTotals (most : ℕ) (totals : Totals) : Type 0 where
  pub total : totals.total ≤ most
  pub failed : totals.failed ≤ most
  pub slow : totals.slow ≤ most
