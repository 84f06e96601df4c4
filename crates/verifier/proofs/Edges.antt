-- Where control goes in a program with an accepted flow.
use Rattle.std.proofs.Common.{◌≡◌, ℕ, zero, suc, ◌+◌, ◌<◌, ◌++◌, true, false, List, [], ◌∷◌, length, Option, Some, None, refl, sym, ap, ◌∙◌, subst, arith}
use Rattle.std.specs.List.{range_with_len}
use Rattle.std.specs.Option.{option_map_or}
use Rattle.std.specs.Prelude.{IsSome, IfSome, Contains, map, option_to_list, slice_get}
use Rattle.std.proofs.lemmas.Option.{slice_get_within}
use Rattle.bpf_profile.specs.declared.instruction.Instruction.{Instruction}
use Rattle.bpf_profile.specs.declared.slot.Slot.{Slot}
use Rattle.bpf_profile.specs.Flow.{successors, Edge, edges_of}
use Rattle.bpf_profile.specs.FlowFaults.{flow_fault}
use Rattle.bpf_profile.specs.Meaning.{instruction_at}
use Rattle.bpf_profile.specs.Spelling.{IsProgram}
use Rattle.bpf_profile.proofs.Edges.{edges_forward, slot_of}
use Rattle.std.proofs.lemmas.List.Elements.{Contains-append_left, Contains-append_right}
use Rattle.verifier.specs.Verifying.{IsFlowOf}

pub to_instruction : (slots : List Slot) (place : ℕ) → IsSome (instruction_at slots place) → (i : Instruction) × (instruction_at slots place ≡ Some i)
to_instruction slots place h = by_option (instruction_at slots place) refl h
  where
    by_option : (o : Option Instruction) → instruction_at slots place ≡ o → IsSome o → (i : Instruction) × (instruction_at slots place ≡ Some i)
    by_option None e h = absurd (let g : false ≡ true = h in cc)
    by_option (Some i) e h = (i, e)

pub within : (slots : List Slot) (place : ℕ) (i : Instruction) → instruction_at slots place ≡ Some i → place < length slots
within slots place i e = let here = slot_of slots place i e in slice_get_within slots place here.0 here.1

-- where control goes from each slot: forward, within the program
abbrev pub GoesForward : List Slot → Type 0
GoesForward slots = (from to : ℕ) → Edge slots from to → (from < to) × (to < length slots)

pub forward : (slots : List Slot) → IsProgram slots → flow_fault slots ≡ None → GoesForward slots
forward slots program accepted from to edge =
    let there = edges_forward slots program accepted from to edge in
    let i = to_instruction slots to there.1 in
    (there.0, within slots to i.0 i.1)

-- an edge of the instruction is one of the slot's
pub edge_at : (slots : List Slot) (place to : ℕ) (i : Instruction) → instruction_at slots place ≡ Some i → Contains (edges_of place i) to → Edge slots place to
unfolding successors
edge_at slots place to i at h = subst (λ (o : Option Instruction). Contains (option_map_or (edges_of place) o []) to) (sym at) h

pub edges_are : (slots : List Slot) (place : ℕ) (i : Instruction) → instruction_at slots place ≡ Some i → successors slots place ≡ edges_of place i
unfolding successors
edges_are slots place i at = ap (λ (o : Option Instruction). option_map_or (edges_of place) o []) at

-- a flow that is given as a whole, slot by slot
flow_at : (f : ℕ → List ℕ) (start count place : ℕ) → place < count → slice_get (map f (range_with_len start count)) place ≡ Some (f (start + place))
flow_at f start zero place h = absurd (omega arith)
flow_at f start (suc count) zero h = ap (λ (n : ℕ). Some (f n)) (omega arith)
flow_at f start (suc count) (suc place) h = flow_at f (start + 1) count place (omega arith) ∙ ap (λ (n : ℕ). Some (f n)) (omega arith)

length_all : (f : ℕ → List ℕ) (start count : ℕ) → length (map f (range_with_len start count)) ≡ count
length_all f start zero = refl
length_all f start (suc count) = ap suc (length_all f (start + 1) count)

pub is_flow_of : (slots : List Slot) (edges : List (List ℕ)) → edges ≡ map (successors slots) (range_with_len 0 (length slots)) → IsFlowOf slots edges
is_flow_of slots edges whole = record {
  counted = ap length whole ∙ length_all (successors slots) 0 (length slots);
  each = λ place h. ap (λ (e : List (List ℕ)). slice_get e place) whole ∙ (flow_at (successors slots) 0 (length slots) place h ∙ ap (λ (n : ℕ). Some (successors slots n)) (omega arith));
}

-- where the edges of a slot of an accepted program lead
inside : (slots : List Slot) → IsProgram slots → flow_fault slots ≡ None → (place to : ℕ) → Contains (successors slots place) to → to < length slots
inside slots program accepted place to edge = (forward slots program accepted place to edge).1

pub next_inside : (slots : List Slot) (place : ℕ) (next target : Option ℕ) → IsProgram slots → flow_fault slots ≡ None → (option_to_list next ++ option_to_list target) ≡ successors slots place → IfSome next (λ slot. slot < length slots)
next_inside slots place None target program accepted e = tt
next_inside slots place (Some n) target program accepted e =
    inside slots program accepted place n (subst (λ (to : List ℕ). Contains to n) e (Contains-append_left (n ∷ []) (option_to_list target) n (0, omega arith, refl)))

pub target_inside : (slots : List Slot) (place : ℕ) (next target : Option ℕ) → IsProgram slots → flow_fault slots ≡ None → (option_to_list next ++ option_to_list target) ≡ successors slots place → IfSome target (λ slot. slot < length slots)
target_inside slots place next None program accepted e = tt
target_inside slots place next (Some n) program accepted e =
    inside slots program accepted place n (subst (λ (to : List ℕ). Contains to n) e (Contains-append_right (option_to_list next) (n ∷ []) n (0, omega arith, refl)))
