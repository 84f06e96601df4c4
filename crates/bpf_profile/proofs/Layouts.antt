-- A record is long enough for the programs of each layout.
use Rattle.std.proofs.Common.{ℕ, ◌≤◌, ◌≡◌, refl, arith}
use Rattle.bpf_profile.specs.declared.layout.Layout.{Layout}
use Rattle.bpf_profile.specs.declared.layout.Layout.TheVariants as layout
use Rattle.bpf_profile.specs.Layouts.{context_size, number_of}
use Rattle.bpf_profile.specs.Limits.{record_size}
use Rattle.bpf_profile.specs.Outcomes.{Outcome, IsOutcome}

pub within_record : (l : Layout) → context_size l ≤ record_size
within_record layout.One = omega arith
within_record layout.Two = omega arith

-- a record has a context of each smaller size
pub longer : (size least : ℕ) (outcome : Outcome) → least ≤ size → IsOutcome size outcome → IsOutcome least outcome
longer size least outcome h is = record {
  context = is.context;
  long = omega (arith, h, is.long);
  facts = is.facts;
  sixteen = is.sixteen;
  tag = is.tag;
  short = is.short;
}

pub fits_layout : (l : Layout) (outcome : Outcome) → IsOutcome record_size outcome → IsOutcome (context_size l) outcome
fits_layout l outcome is = longer record_size (context_size l) outcome (within_record l) is

-- layouts with one number are one
pub same_layout : (l m : Layout) → number_of l ≡ number_of m → l ≡ m
same_layout layout.One layout.One e = refl
same_layout layout.One layout.Two e = absurd (omega (arith, e))
same_layout layout.Two layout.One e = absurd (omega (arith, e))
same_layout layout.Two layout.Two e = refl
