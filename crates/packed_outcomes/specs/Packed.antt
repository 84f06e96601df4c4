-- What contracts see of a packed outcome.
use Rattle.std.specs.Prelude.{ℕ, List}
use Rattle.bpf_profile.specs.Outcomes.{Outcome}
use Rattle.packed_outcomes.specs.Words.{word_count, outcome_of}
use Rattle.packed_outcomes.specs.Marks.{unpacked_words}

-- the outcome of which this is packed
abbrev pub unpacked : List ℕ → Outcome
unpacked packed = outcome_of (unpacked_words word_count packed)
