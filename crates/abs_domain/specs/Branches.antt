-- What a conditional jump tells of the values that it compares (RFC 9669, section 4.3).
use Rattle.std.specs.Prelude.{ℕ, ◌-◌, ◌^◌, ◌&&◌, nat_le, Bool, true, false, if◌then◌else◌}
use Rattle.bpf_profile.specs.declared.instruction.Comparison.{Comparison}
use Rattle.bpf_profile.specs.declared.instruction.Comparison.TheVariants as comparison
use Rattle.bpf_profile.specs.declared.instruction.Width.{Width}
use Rattle.bpf_profile.specs.declared.instruction.Width.TheVariants as width
use Rattle.abs_domain.specs.declared.branches.Lesson.{Lesson}
use Rattle.abs_domain.specs.declared.domain.Domain.{Ghosts}
use Rattle.abs_domain.specs.declared.operations.Relation.{Relation}
use Rattle.abs_domain.specs.declared.operations.Relation.TheVariants as relation

-- the relation of the two words, or of the second with the first
abbrev pub straight : Bool → Relation → Lesson
straight signed relation = record { relation = relation; exchanged = false; signed = signed }

abbrev pub exchanged : Bool → Relation → Lesson
exchanged signed relation = record { relation = relation; exchanged = true; signed = signed }

-- what is learnt where a comparison holds, and where it doesn't
abbrev pub lesson_of : Comparison → Bool → Lesson
lesson_of comparison.Equal true = straight false relation.Equal
lesson_of comparison.Equal false = straight false relation.NotEqual
lesson_of comparison.NotEqual true = straight false relation.NotEqual
lesson_of comparison.NotEqual false = straight false relation.Equal
lesson_of comparison.Greater true = straight false relation.Greater
lesson_of comparison.Greater false = exchanged false relation.GreaterOrEqual
lesson_of comparison.GreaterOrEqual true = straight false relation.GreaterOrEqual
lesson_of comparison.GreaterOrEqual false = exchanged false relation.Greater
lesson_of comparison.Less true = exchanged false relation.Greater
lesson_of comparison.Less false = straight false relation.GreaterOrEqual
lesson_of comparison.LessOrEqual true = exchanged false relation.GreaterOrEqual
lesson_of comparison.LessOrEqual false = straight false relation.Greater
lesson_of comparison.SignedGreater true = straight true relation.Greater
lesson_of comparison.SignedGreater false = exchanged true relation.GreaterOrEqual
lesson_of comparison.SignedGreaterOrEqual true = straight true relation.GreaterOrEqual
lesson_of comparison.SignedGreaterOrEqual false = exchanged true relation.Greater
lesson_of comparison.SignedLess true = exchanged true relation.Greater
lesson_of comparison.SignedLess false = straight true relation.GreaterOrEqual
lesson_of comparison.SignedLessOrEqual true = exchanged true relation.GreaterOrEqual
lesson_of comparison.SignedLessOrEqual false = straight true relation.Greater
lesson_of comparison.BitsSet true = straight false relation.Overlapping
lesson_of comparison.BitsSet false = straight false relation.Disjoint

-- the greatest number that a width reads as it stands, with or without a sign
abbrev pub greatest : Width → Bool → ℕ
greatest width.Bits64 false = 2 ^ 64 - 1
greatest width.Bits64 true = 2 ^ 63 - 1
greatest width.Bits32 false = 2 ^ 32 - 1
greatest width.Bits32 true = 2 ^ 31 - 1

-- whether all words of both values are read as they stand
abbrev pub is_usable : {X : Type 0} → Ghosts X → Width → Bool → X → X → Bool
is_usable domain width signed a b = nat_le (domain.bounds_of a).high (greatest width signed) && nat_le (domain.bounds_of b).high (greatest width signed)

abbrev pub branch_first : {X : Type 0} → Ghosts X → Comparison → Width → Bool → X → X → X
branch_first domain comparison width holds a b =
    if is_usable domain width (lesson_of comparison holds).signed a b
    then (if (lesson_of comparison holds).exchanged then domain.refined_second (lesson_of comparison holds).relation b a else domain.refined_first (lesson_of comparison holds).relation a b)
    else a

abbrev pub branch_second : {X : Type 0} → Ghosts X → Comparison → Width → Bool → X → X → X
branch_second domain comparison width holds a b =
    if is_usable domain width (lesson_of comparison holds).signed a b
    then (if (lesson_of comparison holds).exchanged then domain.refined_first (lesson_of comparison holds).relation b a else domain.refined_second (lesson_of comparison holds).relation a b)
    else b
