-- Abstract values of registers, over any domain.
use Rattle.std.specs.Prelude.{◌≡◌, ℕ, ◌==◌, if◌then◌else◌, List, [], ◌∷◌, ◌++◌, map, replicate, slice_index_or}
use Rattle.std.specs.List.{zip}
use Rattle.abs_domain.specs.declared.domain.Domain.{Ghosts}
use Rattle.abs_regs.specs.declared.value.AbsVal.{AbsVal}
use Rattle.abs_regs.specs.declared.value.AbsVal.TheVariants as known
use Rattle.bpf_profile.specs.declared.machine.Region.TheVariants as region
use Rattle.bpf_profile.specs.declared.machine.Value.{Value}
use Rattle.bpf_profile.specs.declared.machine.Value.TheVariants as value

-- an abstract value describes a value of the machine; Unset describes every value
abbrev pub IsAs : {X : Type 0} → Ghosts X → AbsVal X → Value → Type 0
IsAs domain known.Unset v = Unit {0}
IsAs domain (known.Number a) v = (n : ℕ) × (v ≡ value.Number n) × domain.contains a n
IsAs domain (known.Stack offset) v = v ≡ value.Pointer region.Stack offset
IsAs domain (known.Context a) v = (offset : ℕ) × (v ≡ value.Pointer region.Context offset) × domain.contains a offset

-- the join of two abstract values, which describes all that either describes
abbrev pub joined_value : {X : Type 0} → Ghosts X → AbsVal X → AbsVal X → AbsVal X
joined_value domain (known.Number a) (known.Number b) = known.Number (domain.joined a b)
joined_value domain (known.Context a) (known.Context b) = known.Context (domain.joined a b)
joined_value domain (known.Stack a) (known.Stack b) = if a == b then known.Stack a else known.Unset
joined_value domain a b = known.Unset

-- ---- the registers, from R0 on

abbrev pub value_in : {X : Type 0} → List (AbsVal X) → ℕ → AbsVal X
value_in registers r = slice_index_or registers r known.Unset

abbrev pub joined_values : {X : Type 0} → Ghosts X → List (AbsVal X) → List (AbsVal X) → List (AbsVal X)
joined_values {X} domain a b = map (λ (p : AbsVal X × AbsVal X). joined_value domain p.0 p.1) (zip a b)

-- the entry state: R1 points to the context, and R10 past the end of the stack
abbrev pub entry_values : {X : Type 0} → Ghosts X → List (AbsVal X)
entry_values domain = known.Unset ∷ (known.Context (domain.of_word 0) ∷ (replicate 8 known.Unset ++ (known.Stack 0 ∷ [])))
