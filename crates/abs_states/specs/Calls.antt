-- Calls of helper functions on abstract states: the arguments that they take, or the first check that the call fails.
use Rattle.std.specs.Prelude.{ℕ, ◌+◌, ◌==◌, nat_lt, nat_le, ◌&&◌, if◌then◌else◌, List, slice_set, Option, Some, None, Result, Ok, Err}
use Rattle.refusals.specs.declared.RefusalNumber.{RefusalNumber}
use Rattle.refusals.specs.declared.RefusalNumber.TheVariants as refusal
use Rattle.abs_domain.specs.declared.domain.Domain.{Ghosts}
use Rattle.abs_domain.specs.declared.operations.Conversion.TheVariants as conversion
use Rattle.abs_domain.specs.declared.operations.Relation.TheVariants as relation
use Rattle.abs_regs.specs.declared.value.AbsVal.{AbsVal}
use Rattle.abs_regs.specs.declared.value.AbsVal.TheVariants as known
use Rattle.abs_regs.specs.Transfers.{◌>>=◌}
use Rattle.abs_regs.specs.Values.{value_in}
use Rattle.abs_states.specs.declared.calls.Answered.{Answered}
use Rattle.abs_states.specs.declared.calls.Stretch.{Stretch}
use Rattle.abs_states.specs.declared.state.AbsState.{AbsState}
use Rattle.bpf_profile.specs.declared.helper.Helper.{Helper}
use Rattle.bpf_profile.specs.declared.helper.Helper.TheVariants as helper
use Rattle.bpf_profile.specs.declared.instruction.Size.TheVariants as size
use Rattle.bpf_profile.specs.Helpers.{helper_of}
use Rattle.bpf_profile.specs.declared.machine.Region.TheVariants as region
use Rattle.bpf_profile.specs.Limits.{stack_size, front_offset, fact_count, most_tag_bytes}
use Rattle.bpf_profile.specs.Machine.{place_of}
use Rattle.stack_track.specs.declared.cell.Cell.{Cell}
use Rattle.stack_track.specs.Accesses.{stretch_is_set, stretch_written}

-- an argument that is a number
abbrev pub argument_in : {X : Type 0} → AbsVal X → Result X RefusalNumber
argument_in known.Unset = Err refusal.UnsetRegister
argument_in (known.Number a) = Ok a
argument_in a = Err refusal.HelperArgument

-- an argument that points into the stack
abbrev pub pointer_argument : {X : Type 0} → AbsVal X → Result ℕ RefusalNumber
pointer_argument known.Unset = Err refusal.UnsetRegister
pointer_argument (known.Stack offset) = Ok offset
pointer_argument a = Err refusal.HelperArgument

-- a length in bytes: a known constant from 1 to 32
abbrev pub count_in : {X : Type 0} → Ghosts X → X → Result ℕ RefusalNumber
count_in domain a =
    if ((domain.bounds_of a).low == (domain.bounds_of a).high) && (nat_lt 0 (domain.bounds_of a).low && nat_le (domain.bounds_of a).low most_tag_bytes)
    then Ok (domain.bounds_of a).low else Err refusal.HelperArgument

-- the byte range of a length from an offset on, which has to lie in the stack
abbrev pub placed_in : ℕ → ℕ → Result Stretch RefusalNumber
placed_in offset count =
    if nat_le (place_of region.Stack offset + count) stack_size then Ok (record { place = place_of region.Stack offset; count = count }) else Err refusal.HelperArgument

-- the byte range that the arguments give: R1 points to it, and R2 is its length
abbrev pub stretch_in : {X : Type 0} → Ghosts X → List (AbsVal X) → Result Stretch RefusalNumber
stretch_in domain registers =
    pointer_argument (value_in registers 1) >>= (λ offset. argument_in (value_in registers 2) >>= (λ n. count_in domain n >>= (λ count. placed_in offset count)))

-- ---- answers, and the bytes of the stack that are written

-- any number of at most so much
abbrev pub up_to : {X : Type 0} → Ghosts X → ℕ → X
up_to domain n = domain.refined_second relation.GreaterOrEqual (domain.of_word n) domain.of_any

abbrev pub fact_in : {X : Type 0} → Ghosts X → AbsState X → Result (Answered X) RefusalNumber
fact_in domain s =
    argument_in (value_in s.registers 1) >>= (λ i. if nat_lt (domain.bounds_of i).high fact_count then Ok (record { answer = domain.of_any; written = None }) else Err refusal.HelperArgument)

abbrev pub front_byte_in : {X : Type 0} → Ghosts X → ℕ → AbsState X → Result (Answered X) RefusalNumber
front_byte_in domain context s =
    argument_in (value_in s.registers 1) >>= (λ i. if nat_lt (front_offset + (domain.bounds_of i).high) context then Ok (record { answer = domain.converted conversion.Low size.Byte domain.of_any; written = None }) else Err refusal.HelperArgument)

abbrev pub copy_tag_in : {X : Type 0} → Ghosts X → AbsState X → Result (Answered X) RefusalNumber
copy_tag_in domain s = stretch_in domain s.registers >>= (λ to. Ok (record { answer = up_to domain most_tag_bytes; written = Some to }))

abbrev pub tag_starts_in : {X : Type 0} → Ghosts X → AbsState X → Result (Answered X) RefusalNumber
tag_starts_in domain s =
    stretch_in domain s.registers >>= (λ from. if stretch_is_set s.stack from.place from.count then Ok (record { answer = up_to domain 1; written = None }) else Err refusal.HelperArgument)

abbrev pub answered_in : {X : Type 0} → Ghosts X → ℕ → AbsState X → Option Helper → Result (Answered X) RefusalNumber
answered_in domain context s (Some helper.Fact) = fact_in domain s
answered_in domain context s (Some helper.FrontByte) = front_byte_in domain context s
answered_in domain context s (Some helper.CopyTag) = copy_tag_in domain s
answered_in domain context s (Some helper.TagStarts) = tag_starts_in domain s
answered_in domain context s None = Err refusal.HelperUnknown

abbrev pub answer_in : {X : Type 0} → Ghosts X → ℕ → AbsState X → ℕ → Result (Answered X) RefusalNumber
answer_in domain context s number = answered_in domain context s (helper_of number)

-- the stack after a call
abbrev pub written_in : {X : Type 0} → List (Cell X) → Option Stretch → List (Cell X)
written_in stack None = stack
written_in stack (Some to) = stretch_written stack to.place to.count

-- the registers after a call: the answer, the arguments unset, the others kept
abbrev pub without_arguments : {X : Type 0} → List (AbsVal X) → List (AbsVal X)
without_arguments registers = slice_set (slice_set (slice_set (slice_set (slice_set registers 1 known.Unset) 2 known.Unset) 3 known.Unset) 4 known.Unset) 5 known.Unset

abbrev pub called_values : {X : Type 0} → List (AbsVal X) → X → List (AbsVal X)
called_values registers answer = slice_set (without_arguments registers) 0 (known.Number answer)
