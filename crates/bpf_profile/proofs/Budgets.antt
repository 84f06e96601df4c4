-- How long the walks of a program with an accepted flow are.
use Rattle.std.proofs.Common.{◌≡◌, ℕ, ◌+◌, ◌<◌, ◌≤◌, List, [], ◌∷◌, length, Option, Some, None, true, false, refl, arith}
use Rattle.std.specs.Prelude.{IsSome}
use Rattle.std.proofs.lemmas.Option.{slice_get_within}
use Rattle.bpf_profile.specs.declared.instruction.Instruction.{Instruction}
use Rattle.bpf_profile.specs.declared.slot.Slot.{Slot}
use Rattle.bpf_profile.specs.Flow.{WalkFrom, IsWalk, IsBudget}
use Rattle.bpf_profile.specs.FlowFaults.{flow_fault}
use Rattle.bpf_profile.specs.Meaning.{instruction_at}
use Rattle.bpf_profile.specs.Spelling.{IsProgram}
use Rattle.bpf_profile.proofs.Edges.{edges_forward, slot_of}

-- the walk of slot 0 alone
pub budget_some : (slots : List Slot) (budget : ℕ) → IsBudget slots budget → 1 ≤ budget
budget_some slots budget b = b.longest (0 ∷ []) (refl, tt)

within : (slots : List Slot) (place : ℕ) → IsSome (instruction_at slots place) → place < length slots
within slots place h = by_option (instruction_at slots place) refl h
  where
    by_option : (o : Option Instruction) → instruction_at slots place ≡ o → IsSome o → place < length slots
    by_option None e h = absurd (let g : false ≡ true = h in cc)
    by_option (Some i) e h = let here = slot_of slots place i e in slice_get_within slots place here.0 here.1

-- each slot of a walk is behind the one before
walk_short : (slots : List Slot) → IsProgram slots → flow_fault slots ≡ None → (from : ℕ) (walk : List ℕ) → from < length slots → WalkFrom slots from walk → from + length walk < length slots
walk_short slots program accepted from [] h on = omega arith
walk_short slots program accepted from (to ∷ walk) h (edge, on) =
    let forward = edges_forward slots program accepted from to edge in
    let rest = walk_short slots program accepted to walk (within slots to forward.1) on in
    omega (arith, rest, forward.0)

whole_short : (slots : List Slot) → IsProgram slots → flow_fault slots ≡ None → (walk : List ℕ) → IsWalk slots walk → length walk ≤ length slots
whole_short slots program accepted [] w = absurd w
whole_short slots program accepted (first ∷ walk) (e, on) =
    let short = walk_short slots program accepted first walk (omega (arith, e, program.some)) on in
    omega (arith, short)

pub budget_few : (slots : List Slot) (budget : ℕ) → IsProgram slots → flow_fault slots ≡ None → IsBudget slots budget → budget ≤ length slots
budget_few slots budget program accepted b = let short = whole_short slots program accepted b.walk b.walked in omega (arith, short, b.reached)
