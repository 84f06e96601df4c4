-- A state is taken from the list, and put back joined or changed.
use Rattle.std.proofs.Common.{◌≡◌, ◌≢◌, Bor, ℕ, zero, suc, ◌-◌, ◌<◌, ◌≤◌, ◌⊎◌, inl, inr, ◌++◌, true, false, List, [], ◌∷◌, length, get_or, Option, Some, None, Ok, Err, refl, sym, ap, ◌∙◌, subst, arith, length-set, get_or-set_other}
use Rattle.std.proofs.Math.ListN.{get_or-map}
use Rattle.std.proofs.lemmas.List.{map-set, length-map, get_or_past}
use Rattle.std.specs.Option.{MatchOption, IsSomeAnd}
use Rattle.std.specs.Prelude.{replicate, slice_set, option_map, option_to_list, Box, box_value}
use Rattle.abs_states.specs.Transfers.{transfer_in}
use Rattle.bpf_profile.specs.declared.instruction.Instruction.{Instruction}
use Rattle.bpf_profile.specs.declared.slot.Slot.{Slot}
use Rattle.bpf_profile.specs.Flow.{edges_of}
use Rattle.bpf_profile.specs.Limits.{most_slots}
use Rattle.bpf_profile.specs.Meaning.{instruction_at}
use Rattle.abs_domain.specs.declared.domain.Domain.{Ghosts}
use Rattle.abs_states.specs.declared.state.AbsState.{AbsState}
use Rattle.abs_states.specs.States.{joined_state}
use Rattle.verifier.specs.Analysis.{joined_into, message_to, received, sent_with, arriving, fault_in, fault_with, fault_at, fault_from, analysis_fault}
use Rattle.verifier.specs.Passes.{state_of, entry_states, delivered, delivered_all, seen, dropped}
use Rattle.verifier.specs.declared.refusal.Refusal.{Refusal}
use Rattle.verifier.specs.Verifying.{out_of_memory, fault_of}
use Rattle.verifier.proofs.Delivered.{length-delivered, delivered_all_at, sent_along}
use Rattle.verifier.proofs.Edges.{GoesForward}
use Rattle.verifier.proofs.Known.{Sent, none_sent, sent_goes, within_all, fails_here, fault_ends, get_or-default}

pub set_twice : {A : Type 0} (xs : List A) (i : ℕ) (a b : A) → slice_set (slice_set xs i a) i b ≡ slice_set xs i b
set_twice [] i a b = refl
set_twice (x ∷ xs) zero a b = refl
set_twice (x ∷ xs) (suc i) a b = ap (λ (more : List _). x ∷ more) (set_twice xs i a b)

joined_in : {X : Type 0} (domain : Ghosts X) (states : List (Option (AbsState X))) (to : ℕ) (taken : Option (AbsState X)) (before joined state : AbsState X)
    → state_of states to ≡ Some before → joined ≡ joined_state domain before state → slice_set (slice_set states to taken) to (Some joined) ≡ delivered domain states (record { to = to; state = state })
joined_in {X} domain states to taken before joined state there e =
    set_twice states to taken (Some joined)
    ∙ ap (λ (s : AbsState X). slice_set states to (Some s)) (e ∙ sym (ap (λ (o : Option (AbsState X)). joined_into domain o state) there))

put_in : {X : Type 0} (domain : Ghosts X) (states : List (Option (AbsState X))) (to : ℕ) (taken : Option (AbsState X)) (state : AbsState X)
    → state_of states to ≡ None → slice_set (slice_set states to taken) to (Some state) ≡ delivered domain states (record { to = to; state = state })
put_in {X} domain states to taken state there =
    set_twice states to taken (Some state)
    ∙ ap (λ (s : AbsState X). slice_set states to (Some s)) (sym (ap (λ (o : Option (AbsState X)). joined_into domain o state) there))

-- ---- where states have boxes

pub seen_nones : (X Z : Type 0) (count : ℕ) → seen {X = X} {Z = Z} (replicate count None) ≡ replicate count None
seen_nones X Z zero = refl
seen_nones X Z (suc count) = ap (λ (more : List (Option X)). None ∷ more) (seen_nones X Z count)

pub seen_set : {X Z : Type 0} (states : List (Option (Box X Z))) (i : ℕ) (o : Option (Box X Z)) → seen (slice_set states i o) ≡ slice_set (seen states) i (option_map box_value o)
seen_set states i o = map-set (option_map box_value) states i o

pub length-seen : {X Z : Type 0} (states : List (Option (Box X Z))) → length (seen states) ≡ length states
length-seen states = length-map states (option_map box_value)

pub seen_at : {X Z : Type 0} (states : List (Option (Box (AbsState X) Z))) (i : ℕ) → state_of (seen states) i ≡ option_map box_value (get_or states i None)
seen_at states i = get_or-map (option_map box_value) states i None

pub seen_twice : {X Z : Type 0} (states : List (Option (Box X Z))) (i : ℕ) (a b : Option (Box X Z)) → seen (slice_set (slice_set states i a) i b) ≡ slice_set (slice_set (seen states) i (option_map box_value a)) i (option_map box_value b)
seen_twice {X} states i a b = seen_set (slice_set states i a) i b ∙ ap (λ (s : List (Option X)). slice_set s i (option_map box_value b)) (seen_set states i a)

pub box_joined_in : {X Z : Type 0} (domain : Ghosts X) (states : List (Option (Box (AbsState X) Z))) (to : ℕ) (taken : Option (Box (AbsState X) Z)) (before joined : Box (AbsState X) Z) (state : AbsState X)
    → get_or states to None ≡ Some before → box_value joined ≡ joined_state domain (box_value before) state → seen (slice_set (slice_set states to taken) to (Some joined)) ≡ delivered domain (seen states) (record { to = to; state = state })
box_joined_in domain states to taken before joined state there e =
    seen_twice states to taken (Some joined)
    ∙ joined_in domain (seen states) to (option_map box_value taken) (box_value before) (box_value joined) state (seen_at states to ∙ ap (option_map box_value) there) e

pub box_put_in : {X Z : Type 0} (domain : Ghosts X) (states : List (Option (Box (AbsState X) Z))) (to : ℕ) (taken : Option (Box (AbsState X) Z)) (state : Box (AbsState X) Z)
    → get_or states to None ≡ None → seen (slice_set (slice_set states to taken) to (Some state)) ≡ delivered domain (seen states) (record { to = to; state = box_value state })
box_put_in domain states to taken state there =
    seen_twice states to taken (Some state)
    ∙ put_in domain (seen states) to (option_map box_value taken) (box_value state) (seen_at states to ∙ ap (option_map box_value) there)

pub dropped_seen : {X Z : Type 0} (states : List (Option (Box (AbsState X) Z))) (place : ℕ) (taken : Option (Box (AbsState X) Z)) → taken ≡ None → seen (slice_set states place taken) ≡ dropped (seen states) place
dropped_seen {X} {Z} states place taken e = seen_set states place taken ∙ ap (λ (o : Option (Box (AbsState X) Z)). slice_set (seen states) place (option_map box_value o)) e

-- the state before a slot, where a box was found
pub seen_some : {X Z : Type 0} (states : List (Option (Box (AbsState X) Z))) (place : ℕ) (d : Option (Box (AbsState X) Z)) (state : Box (AbsState X) Z) → place < length states → get_or states place d ≡ Some state → state_of (seen states) place ≡ Some (box_value state)
seen_some states place d state h e = seen_at states place ∙ ap (option_map box_value) (get_or-default states place None d h ∙ e)

pub seen_none : {X Z : Type 0} (states : List (Option (Box (AbsState X) Z))) (place : ℕ) (d : Option (Box (AbsState X) Z)) → place < length states → get_or states place d ≡ None → state_of (seen states) place ≡ None
seen_none states place d h e = seen_at states place ∙ ap (option_map box_value) (get_or-default states place None d h ∙ e)

-- no state past the end of the boxes
pub seen_past : {X Z : Type 0} (items now : List (Option (Box (AbsState X) Z))) (states : List (Option (AbsState X))) (slot : ℕ) → now ≡ items → seen items ≡ states → length now ≤ slot → None ≡ state_of states slot
seen_past {X} {Z} items now states slot same is past =
    sym (ap (λ (s : List (Option (AbsState X))). state_of s slot) (sym is)
    ∙ (seen_at items slot ∙ ap (option_map box_value) (get_or_past items slot None (subst (λ (l : List (Option (Box (AbsState X) Z))). length l ≤ slot) same past))))

-- a reference into a box refers to the state that the box has
pub seen_lent : {X Z : Type 0} (items now : List (Option (Box (AbsState X) Z))) (states : List (Option (AbsState X))) (slot : ℕ) (held : Option (Box (AbsState X) Z)) (lent : Option (Bor (AbsState X)))
    → now ≡ items → seen items ≡ states → slot < length now → held ≡ get_or now slot held
    → MatchOption held (lent ≡ None) (λ b. IsSomeAnd lent (λ r. r.now ≡ box_value b)) → option_map (λ r. r.now) lent ≡ state_of states slot
seen_lent {X} {Z} items now states slot held lent same is inside found gives =
    value held lent gives
    ∙ (ap (option_map box_value) (found ∙ (get_or-default now slot held None inside ∙ ap (λ (l : List (Option (Box (AbsState X) Z))). get_or l slot None) same))
    ∙ (sym (seen_at items slot) ∙ ap (λ (s : List (Option (AbsState X))). state_of s slot) is))
  where
    value : (h : Option (Box (AbsState X) Z)) (l : Option (Bor (AbsState X))) → MatchOption h (l ≡ None) (λ b. IsSomeAnd l (λ r. r.now ≡ box_value b)) → option_map (λ r. r.now) l ≡ option_map box_value h
    value None l e = ap (option_map (λ (r : Bor (AbsState X)). r.now)) e
    value (Some b) None e = absurd e
    value (Some b) (Some r) e = ap (λ (s : AbsState X). Some s) e

-- ---- what a slot sends

-- what goes along the edges of a flow is what the slot sends
pub edges_send : {X : Type 0} (domain : Ghosts X) (context place : ℕ) (o : Option Instruction) (k : Option (AbsState X)) (i : Instruction) (a : AbsState X) (next target : Option ℕ) (before after : List (Option (AbsState X)))
    → o ≡ Some i → k ≡ Some a → (option_to_list next ++ option_to_list target) ≡ edges_of place i
    → after ≡ delivered_all domain before (message_to next (transfer_in domain context a false i) ++ message_to target (transfer_in domain context a true i))
    → after ≡ delivered_all domain before (sent_with domain context place o k)
edges_send {X} domain context place o k i a next target before after at known edges e =
    e
    ∙ (ap (delivered_all domain before) (sent_along domain context place i a next target edges)
    ∙ (ap (λ (s : Option (AbsState X)). delivered_all domain before (sent_with domain context place (Some i) s)) (sym known)
    ∙ ap (λ (j : Option Instruction). delivered_all domain before (sent_with domain context place j k)) (sym at)))

-- one message, along an edge that may not be there
pub one_delivered : {X : Type 0} (domain : Ghosts X) (states after : List (Option (AbsState X))) (edge : Option ℕ) (to : ℕ) (state : AbsState X) → edge ≡ Some to → after ≡ delivered domain states (record { to = to; state = state }) → after ≡ delivered_all domain states (message_to edge (Ok state))
one_delivered domain states after edge to state is e = e ∙ sym (ap (λ (o : Option ℕ). delivered_all domain states (message_to o (Ok state))) is)

pub none_delivered : {X : Type 0} (domain : Ghosts X) (states : List (Option (AbsState X))) (edge : Option ℕ) (state : AbsState X) → edge ≡ None → states ≡ delivered_all domain states (message_to edge (Ok state))
none_delivered domain states edge state is = sym (ap (λ (o : Option ℕ). delivered_all domain states (message_to o (Ok state))) is)

-- a tail sends nothing
pub tail_sends : {X : Type 0} (domain : Ghosts X) (context place : ℕ) (o : Option Instruction) (k : Option (AbsState X)) (states : List (Option (AbsState X))) → o ≡ None → states ≡ delivered_all domain states (sent_with domain context place o k)
tail_sends domain context place o k states e = sym (ap (λ (i : Option Instruction). delivered_all domain states (sent_with domain context place i k)) e)

-- an instruction of which nothing is known sends nothing
pub unknown_sends : {X : Type 0} (domain : Ghosts X) (context place : ℕ) (o : Option Instruction) (k : Option (AbsState X)) (states : List (Option (AbsState X))) → k ≡ None → states ≡ delivered_all domain states (sent_with domain context place o k)
unknown_sends {X} domain context place None k states e = refl
unknown_sends {X} domain context place (Some i) k states e = sym (ap (λ (a : Option (AbsState X)). delivered_all domain states (sent_with domain context place (Some i) a)) e)

pub unknown_passes : {X : Type 0} (domain : Ghosts X) (context : ℕ) (o : Option Instruction) (k : Option (AbsState X)) → k ≡ None → fault_with domain context o k ≡ None
unknown_passes {X} domain context None k e = refl
unknown_passes {X} domain context (Some i) k e = ap (λ (a : Option (AbsState X)). fault_with domain context (Some i) a) e

pub edges_pass : {X : Type 0} (domain : Ghosts X) (context : ℕ) (o : Option Instruction) (k : Option (AbsState X)) (i : Instruction) (a : AbsState X) → o ≡ Some i → k ≡ Some a → fault_in (transfer_in domain context a false i) ≡ None → fault_with domain context o k ≡ None
edges_pass domain context o k i a at known e = ap (λ (j : Option Instruction). fault_with domain context j k) at ∙ (ap (fault_with domain context (Some i)) known ∙ e)

pub fails_or_memory : {X : Type 0} (domain : Ghosts X) (context place : ℕ) (o : Option Instruction) (k : Option (AbsState X)) (i : Instruction) (a : AbsState X) (e : Refusal)
    → o ≡ Some i → k ≡ Some a → (e ≡ out_of_memory) ⊎ ((transfer_in domain context a false i ≡ Err e.number) × (e.slot ≡ place))
    → (e ≡ out_of_memory) ⊎ ((fault_with domain context o k ≡ Some e.number) × (e.slot ≡ place))
fails_or_memory domain context place o k i a e at known (inl memory) = inl memory
fails_or_memory domain context place o k i a e at known (inr fault) = inr (fails_here domain context o k i a e.number at known fault.0, fault.1)

-- ---- the states that are still awaited

-- so many slots have sent, and the states of the others are there
pub record Awaits {X : Type 0} (domain : Ghosts X) (context : ℕ) (slots : List Slot) (states : List (Option (AbsState X))) (count : ℕ) : Type 0 where
  pub same : length states ≡ length slots
  pub each : (to : ℕ) → count ≤ to → to < length slots → state_of states to ≡ arriving domain context slots count to

-- where nothing was dropped yet, all that were sent are there
pub sent_awaits : {X : Type 0} (domain : Ghosts X) (context : ℕ) (slots : List Slot) (states : List (Option (AbsState X))) (count : ℕ) → Sent domain context slots states count → Awaits domain context slots states count
sent_awaits domain context slots states count p = record { same = p.same; each = λ to from within. p.each to within }

pub none_awaited : {X : Type 0} (domain : Ghosts X) (context : ℕ) (slots : List Slot) (states : List (Option (AbsState X))) → 0 < length slots → states ≡ entry_states domain (length slots) → Awaits domain context slots states 0
none_awaited domain context slots states some e = sent_awaits domain context slots states 0 (none_sent domain context slots states some e)

pub awaits_more : {X : Type 0} (domain : Ghosts X) (context : ℕ) (slots : List Slot) (states after : List (Option (AbsState X))) (place next : ℕ) → GoesForward slots → place < length slots → next ≡ suc place → Awaits domain context slots states place
    → after ≡ delivered_all domain (dropped states place) (sent_with domain context place (instruction_at slots place) (state_of states place)) → Awaits domain context slots after next
unfolding arriving
awaits_more {X} domain context slots states after place next forward h is p e =
    let messages = sent_with domain context place (instruction_at slots place) (state_of states place) in
    let same : length (dropped states place) ≡ length slots = length-set states place None ∙ p.same in
    let goes = within_all (length (dropped states place)) messages (sent_goes domain context slots place (λ to. to < length (dropped states place)) (λ to edge. (let f = (forward place to edge).1 in omega (arith, f, same))) (instruction_at slots place) refl (state_of states place)) in
    subst (Awaits domain context slots after) (sym is)
    (subst (λ (s : List (Option (AbsState X))). Awaits domain context slots s (suc place)) (sym e)
    (record {
      same = length-delivered domain (dropped states place) messages ∙ same;
      each = λ to from within. (
          let other : to ≢ place = omega (arith, from) in
          delivered_all_at domain (dropped states place) messages to goes
          ∙ (ap (λ (o : Option (AbsState X)). received domain to o messages) (get_or-set_other states place to None None other ∙ p.each to (omega (arith, from)) within)
          ∙ ap (λ (k : Option (AbsState X)). received domain to (arriving domain context slots place to) (sent_with domain context place (instruction_at slots place) k)) (p.each place (omega arith) h)));
    }))

-- what is wrong at a slot is what the pass finds there
pub fault_awaited : {X : Type 0} (domain : Ghosts X) (context : ℕ) (slots : List Slot) (states : List (Option (AbsState X))) (place : ℕ) → place < length slots → Awaits domain context slots states place
    → fault_at domain context slots place ≡ fault_with domain context (instruction_at slots place) (state_of states place)
unfolding fault_at
fault_awaited {X} domain context slots states place h p = ap (fault_with domain context (instruction_at slots place)) (sym (p.each place (omega arith) h))

-- the refusal where the pass ends
pub awaited_ends : {X : Type 0} (domain : Ghosts X) (context : ℕ) (slots : List Slot) (states : List (Option (AbsState X))) (place : ℕ) (e : Refusal) → place < length slots → Awaits domain context slots states place
    → fault_from domain context slots place (length slots - place) ≡ fault_from domain context slots 0 (length slots)
    → (e ≡ out_of_memory) ⊎ ((fault_with domain context (instruction_at slots place) (state_of states place) ≡ Some e.number) × (e.slot ≡ place))
    → (e ≡ out_of_memory) ⊎ (analysis_fault domain context slots ≡ Some (fault_of e))
awaited_ends domain context slots states place e h p rest (inl memory) = inl memory
awaited_ends domain context slots states place e h p rest (inr fault) =
    inr (sym rest
    ∙ (fault_ends domain context slots place e.number h (fault_awaited domain context slots states place h p ∙ fault.0)
    ∙ ap (λ (slot : ℕ). Some (record { slot = slot; number = e.number })) (sym fault.1)))

pub memory_slot : (e : Refusal) (P : Type 0) (place : ℕ) → place < most_slots → (e ≡ out_of_memory) ⊎ (P × (e.slot ≡ place)) → e.slot < most_slots
memory_slot e P place h (inl memory) = let none : e.slot ≡ 0 = ap (λ (r : Refusal). r.slot) memory in omega (arith, none, h)
memory_slot e P place h (inr fault) = let there = fault.1 in omega (arith, there, h)
