-- Sums of totals.
use Rattle.std.specs.Prelude.{◌+◌, ◌-◌, ◌≤◌, Bool, List}
use Rattle.std.specs.List.{sum_by}
use Rattle.service_profile.specs.declared.notes.Totals.{Totals}
use Rattle.service_profile.specs.RunningTotals.{one_where}

abbrev pub plus : Totals → Totals → Totals
plus a b = record { total = a.total + b.total; failed = a.failed + b.failed; slow = a.slow + b.slow }

abbrev pub minus : Totals → Totals → Totals
minus whole part = record { total = whole.total - part.total; failed = whole.failed - part.failed; slow = whole.slow - part.slow }

-- the totals of no note
abbrev pub no_totals : Totals
no_totals = record { total = 0; failed = 0; slow = 0 }

-- the totals of one note
abbrev pub one_note : Bool → Bool → Totals
one_note failed slow = record { total = 1; failed = one_where failed; slow = one_where slow }

-- the sum of the totals of each element
abbrev pub sum_of : {X : Type 0} → (X → Totals) → List X → Totals
sum_of totals xs = record {
  total = sum_by (λ x. (totals x).total) xs;
  failed = sum_by (λ x. (totals x).failed) xs;
  slow = sum_by (λ x. (totals x).slow) xs;
}

-- no count of the part is greater than that of the whole
pub record IsPart (part whole : Totals) : Type 0 where
  pub total : part.total ≤ whole.total
  pub failed : part.failed ≤ whole.failed
  pub slow : part.slow ≤ whole.slow
