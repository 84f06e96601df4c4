-- The pass over the slots: the states so far are what the slots so far have sent.
use Rattle.std.proofs.Common.{◌≡◌, ◌≢◌, ℕ, zero, suc, ◌+◌, ◌-◌, ◌<◌, ◌≤◌, ◌==◌, Bool, true, false, cond, List, [], ◌∷◌, ◌++◌, length, get_or, Option, Some, None, Result, Ok, Err, refl, sym, ap, ◌∙◌, subst, arith, length-set, get_or-set_other}
use Rattle.std.proofs.lemmas.Bool.{ne_eqb}
use Rattle.std.proofs.lemmas.List.{get_or-set_same}
use Rattle.std.specs.Option.{option_or}
use Rattle.std.specs.Prelude.{Contains, IfErr, OnOk, replicate, slice_get, option_map, option_to_list}
use Rattle.refusals.specs.declared.RefusalNumber.{RefusalNumber}
use Rattle.abs_domain.specs.declared.domain.Domain.{Ghosts}
use Rattle.abs_states.proofs.Alike.{passes_alike}
use Rattle.abs_states.specs.declared.state.AbsState.{AbsState}
use Rattle.abs_states.specs.States.{entry_state}
use Rattle.abs_states.specs.Steps.{edge_of}
use Rattle.abs_states.specs.Transfers.{transfer_in}
use Rattle.bpf_profile.specs.declared.instruction.Instruction.{Instruction}
use Rattle.bpf_profile.specs.declared.slot.Slot.{Slot}
use Rattle.bpf_profile.specs.Flow.{Edge, edges_of, next_of, distance_of}
use Rattle.bpf_profile.specs.Machine.{target_of}
use Rattle.bpf_profile.specs.Meaning.{instruction_at}
use Rattle.verifier.specs.Analysis.{Message, message_to, joined_into, received, sent_with, arriving, known_at, fault_in, fault_with, fault_at, fault_from, AreKnown}
use Rattle.verifier.specs.Passes.{state_of, entry_states, delivered_all}
use Rattle.verifier.proofs.Delivered.{AreWithin, length-delivered, delivered_all_at}
use Rattle.verifier.proofs.Edges.{GoesForward, edge_at}

err_not_ok : {A E : Type 0} (e : E) (a : A) → ◌≡◌ {A = Result A E} (Err e) (Ok a) → ⊥
err_not_ok e a h = cc

-- ---- where messages go

-- the way that an instruction goes is one of its edges
pub way_edge : (place : ℕ) (i : Instruction) (taken : Bool) (to : ℕ) → edge_of place i taken ≡ Some to → Contains (edges_of place i) to
way_edge place i true to e = target (next_of place i) (option_map (target_of place) (distance_of i)) e
  where
    target : (next other : Option ℕ) → other ≡ Some to → Contains (option_to_list next ++ option_to_list other) to
    target None None e = absurd (let f : ◌≡◌ {A = Option ℕ} None (Some to) = e in cc)
    target (Some n) None e = absurd (let f : ◌≡◌ {A = Option ℕ} None (Some to) = e in cc)
    target None (Some m) e = (0, omega arith, same_some m to e)
      where
        same_some : (a b : ℕ) → ◌≡◌ {A = Option ℕ} (Some a) (Some b) → a ≡ b
        same_some a b h = cc
    target (Some n) (Some m) e = (1, omega arith, same_some m to e)
      where
        same_some : (a b : ℕ) → ◌≡◌ {A = Option ℕ} (Some a) (Some b) → a ≡ b
        same_some a b h = cc
way_edge place i false to e = next (next_of place i) (option_map (target_of place) (distance_of i)) e
  where
    next : (one other : Option ℕ) → one ≡ Some to → Contains (option_to_list one ++ option_to_list other) to
    next None other e = absurd (let f : ◌≡◌ {A = Option ℕ} None (Some to) = e in cc)
    next (Some n) other e = (0, omega arith, same_some n to e)
      where
        same_some : (a b : ℕ) → ◌≡◌ {A = Option ℕ} (Some a) (Some b) → a ≡ b
        same_some a b h = cc

-- all messages go to slots that have a property
abbrev pub AllGo : {X : Type 0} → (ℕ → Type 0) → List (Message X) → Type 0
AllGo P [] = Unit {0}
AllGo P (m ∷ more) = P m.to × AllGo P more

all_go_both : {X : Type 0} (P : ℕ → Type 0) (a b : List (Message X)) → AllGo P a → AllGo P b → AllGo P (a ++ b)
all_go_both P [] b p q = q
all_go_both P (m ∷ a) b p q = (p.0, all_go_both P a b p.1 q)

message_goes : {X : Type 0} (P : ℕ → Type 0) (o : Option ℕ) (r : Result (AbsState X) RefusalNumber) → ((to : ℕ) → o ≡ Some to → P to) → AllGo P (message_to o r)
message_goes P None (Ok a) h = tt
message_goes P None (Err number) h = tt
message_goes P (Some to) (Ok a) h = (h to refl, tt)
message_goes P (Some to) (Err number) h = tt

-- what a slot sends goes along its edges
pub sent_goes : {X : Type 0} (domain : Ghosts X) (context : ℕ) (slots : List Slot) (place : ℕ) (P : ℕ → Type 0) → ((to : ℕ) → Edge slots place to → P to) → (o : Option Instruction) → instruction_at slots place ≡ o → (k : Option (AbsState X))
    → AllGo P (sent_with domain context place o k)
sent_goes domain context slots place P h None at k = tt
sent_goes domain context slots place P h (Some i) at None = tt
sent_goes domain context slots place P h (Some i) at (Some a) =
    all_go_both P (message_to (edge_of place i false) (transfer_in domain context a false i)) (message_to (edge_of place i true) (transfer_in domain context a true i))
    (message_goes P (edge_of place i false) (transfer_in domain context a false i) (λ to e. h to (edge_at slots place to i at (way_edge place i false to e))))
    (message_goes P (edge_of place i true) (transfer_in domain context a true i) (λ to e. h to (edge_at slots place to i at (way_edge place i true to e))))

pub within_all : {X : Type 0} (count : ℕ) (messages : List (Message X)) → AllGo (λ to. to < count) messages → AreWithin count messages
within_all count [] h = tt
within_all count (m ∷ more) h = (h.0, within_all count more h.1)

-- ---- the states so far

pub record Sent {X : Type 0} (domain : Ghosts X) (context : ℕ) (slots : List Slot) (states : List (Option (AbsState X))) (count : ℕ) : Type 0 where
  pub same : length states ≡ length slots
  pub each : (to : ℕ) → to < length slots → state_of states to ≡ arriving domain context slots count to

length_replicate : {A : Type 0} (count : ℕ) (x : A) → length (replicate count x) ≡ count
length_replicate zero x = refl
length_replicate (suc count) x = ap suc (length_replicate count x)

get_replicate : {A : Type 0} (count k : ℕ) → get_or (replicate {A = Option A} count None) k None ≡ None
get_replicate zero k = refl
get_replicate (suc count) zero = refl
get_replicate (suc count) (suc k) = get_replicate count k

pub none_sent : {X : Type 0} (domain : Ghosts X) (context : ℕ) (slots : List Slot) (states : List (Option (AbsState X))) → 0 < length slots → states ≡ entry_states domain (length slots) → Sent domain context slots states 0
unfolding arriving
none_sent {X} domain context slots states some e =
    subst (λ (s : List (Option (AbsState X))). Sent domain context slots s 0) (sym e)
    (record {
      same = length-set (replicate (length slots) None) 0 _ ∙ length_replicate (length slots) None;
      each = each;
    })
  where
    each : (to : ℕ) → to < length slots → state_of (entry_states domain (length slots)) to ≡ cond (to == 0) (Some (entry_state domain)) None
    each zero h = get_or-set_same (replicate (length slots) None) 0 (Some (entry_state domain)) None (let l = length_replicate {A = Option (AbsState X)} (length slots) None in omega (arith, l, some))
    each (suc to) h =
        let other : suc to ≢ 0 = omega arith in
        get_or-set_other (replicate (length slots) None) 0 (suc to) (Some (entry_state domain)) None other
        ∙ (get_replicate (length slots) (suc to) ∙ sym (ap (λ (t : Bool). cond t (Some (entry_state domain)) None) (ne_eqb (suc to) 0 other)))

pub sent_more : {X : Type 0} (domain : Ghosts X) (context : ℕ) (slots : List Slot) (states after : List (Option (AbsState X))) (place : ℕ) → GoesForward slots → place < length slots → Sent domain context slots states place
    → after ≡ delivered_all domain states (sent_with domain context place (instruction_at slots place) (state_of states place)) → Sent domain context slots after (suc place)
unfolding arriving
sent_more {X} domain context slots states after place forward h p e =
    let messages = sent_with domain context place (instruction_at slots place) (state_of states place) in
    let goes = within_all (length states) messages (sent_goes domain context slots place (λ to. to < length states) (λ to edge. (let f = (forward place to edge).1 in omega (arith, f, p.same))) (instruction_at slots place) refl (state_of states place)) in
    subst (λ (s : List (Option (AbsState X))). Sent domain context slots s (suc place)) (sym e)
    (record {
      same = length-delivered domain states messages ∙ p.same;
      each = λ to within.
          delivered_all_at domain states messages to goes
          ∙ (ap (λ (o : Option (AbsState X)). received domain to o messages) (p.each to within)
          ∙ ap (λ (k : Option (AbsState X)). received domain to (arriving domain context slots place to) (sent_with domain context place (instruction_at slots place) k)) (p.each place h));
    })

-- ---- what is known stays known once all slots before have sent

received_none : {X : Type 0} (domain : Ghosts X) (to : ℕ) (before : Option (AbsState X)) (messages : List (Message X)) → AllGo (λ n. n ≢ to) messages → received domain to before messages ≡ before
received_none domain to before [] h = refl
received_none domain to before (m ∷ more) h =
    ap (λ (t : Bool). received domain to (cond t (Some (joined_into domain before m.state)) before) more) (ne_eqb m.to to h.0) ∙ received_none domain to before more h.1

pub settled : {X : Type 0} (domain : Ghosts X) (context : ℕ) (slots : List Slot) (place count extra : ℕ) → GoesForward slots → count ≡ extra + place → arriving domain context slots count place ≡ known_at domain context slots place
unfolding arriving
settled domain context slots place count zero forward e = ap (λ (n : ℕ). arriving domain context slots n place) (omega (arith, e))
settled domain context slots place zero (suc extra) forward e = absurd (omega (arith, e))
settled domain context slots place (suc count) (suc extra) forward e =
    received_none domain place (arriving domain context slots count place) _
    (sent_goes domain context slots count (λ n. n ≢ place) (λ to edge same. (let f = (forward count to edge).0 in omega (arith, f, same, e))) (instruction_at slots count) refl (arriving domain context slots count count))
    ∙ settled domain context slots place count extra forward (omega (arith, e))

-- an element inside a list
get_inside : {A : Type 0} (xs : List A) (k : ℕ) (d : A) → k < length xs → slice_get xs k ≡ Some (get_or xs k d)
get_inside [] k d h = absurd (omega arith)
get_inside (x ∷ xs) zero d h = refl
get_inside (x ∷ xs) (suc k) d h = get_inside xs k d (omega arith)

pub all_known : {X : Type 0} (domain : Ghosts X) (context : ℕ) (slots : List Slot) (states : List (Option (AbsState X))) (count : ℕ) → GoesForward slots → length slots ≤ count → Sent domain context slots states count → AreKnown domain context slots states
all_known {X} domain context slots states count forward all p = record {
  counted = p.same;
  each = λ place h.
      get_inside states place None (let s = p.same in omega (arith, s, h))
      ∙ ap Some (p.each place h ∙ settled domain context slots place count (count - place) forward (omega (arith, h, all)));
}

-- ---- faults

-- what is wrong at a slot is what the pass finds there
pub fault_here : {X : Type 0} (domain : Ghosts X) (context : ℕ) (slots : List Slot) (states : List (Option (AbsState X))) (place : ℕ) → place < length slots → Sent domain context slots states place
    → fault_at domain context slots place ≡ fault_with domain context (instruction_at slots place) (state_of states place)
unfolding fault_at
fault_here {X} domain context slots states place h p = ap (fault_with domain context (instruction_at slots place)) (sym (p.each place h))

pub fault_on : {X : Type 0} (domain : Ghosts X) (context : ℕ) (slots : List Slot) (place : ℕ) → place < length slots → fault_at domain context slots place ≡ None
    → fault_from domain context slots place (length slots - place) ≡ fault_from domain context slots (place + 1) (length slots - (place + 1))
unfolding fault_from
fault_on {X} domain context slots place h e =
    let left : length slots - place ≡ suc (length slots - (place + 1)) = omega arith in
    ap (fault_from domain context slots place) left
    ∙ (ap (λ (o : Option RefusalNumber). option_or (option_map (λ number. record { slot = place; number = number }) o) (fault_from domain context slots (suc place) (length slots - (place + 1)))) e
    ∙ ap (λ (n : ℕ). fault_from domain context slots n (length slots - (place + 1))) (omega arith))

pub fault_ends : {X : Type 0} (domain : Ghosts X) (context : ℕ) (slots : List Slot) (place : ℕ) (number : RefusalNumber) → place < length slots → fault_at domain context slots place ≡ Some number
    → fault_from domain context slots place (length slots - place) ≡ Some (record { slot = place; number = number })
unfolding fault_from
fault_ends {X} domain context slots place number h e =
    let left : length slots - place ≡ suc (length slots - (place + 1)) = omega arith in
    ap (fault_from domain context slots place) left
    ∙ ap (λ (o : Option RefusalNumber). option_or (option_map (λ number. record { slot = place; number = number }) o) (fault_from domain context slots (suc place) (length slots - (place + 1)))) e

pub fault_done : {X : Type 0} (domain : Ghosts X) (context : ℕ) (slots : List Slot) (place : ℕ) → length slots ≤ place → fault_from domain context slots place (length slots - place) ≡ None
unfolding fault_from
fault_done domain context slots place h = (let none : length slots - place ≡ 0 = omega arith in ap (fault_from domain context slots place) none)

-- what the pass finds at an instruction
pub fails_here : {X : Type 0} (domain : Ghosts X) (context : ℕ) (o : Option Instruction) (k : Option (AbsState X)) (i : Instruction) (a : AbsState X) (number : RefusalNumber) → o ≡ Some i → k ≡ Some a → transfer_in domain context a false i ≡ Err number
    → fault_with domain context o k ≡ Some number
fails_here domain context o k i a number p q e = ap (λ (x : Option Instruction). fault_with domain context x k) p ∙ (ap (fault_with domain context (Some i)) q ∙ ap fault_in e)

-- the way to the target doesn't fail where that to the next slot passes
pub never_fails : {X : Type 0} (domain : Ghosts X) (context : ℕ) (a after : AbsState X) (i : Instruction) (number : RefusalNumber) → transfer_in domain context a false i ≡ Ok after → transfer_in domain context a true i ≡ Err number → ⊥
never_fails domain context a after i number e f = let b = passes_alike domain context a after true i e in err_not_ok number b.0 (sym f ∙ b.1)

-- ---- results

pub on_ok_map : {A E : Type 0} (r : Result A E) (P Q : Type 0) → (P → Q) → OnOk r P → OnOk r Q
on_ok_map (Ok a) P Q f p = f p
on_ok_map (Err e) P Q f p = tt

pub if_err_map : {A E : Type 0} (r : Result A E) (P Q : E → Type 0) → ((e : E) → P e → Q e) → IfErr r P → IfErr r Q
if_err_map (Ok a) P Q f p = tt
if_err_map (Err e) P Q f p = f e p

-- an element inside a list is the same whatever stands for those past its end
pub get_or-default : {A : Type 0} (xs : List A) (i : ℕ) (d e : A) → i < length xs → get_or xs i d ≡ get_or xs i e
get_or-default [] i d e h = absurd (omega arith)
get_or-default (x ∷ xs) zero d e h = refl
get_or-default (x ∷ xs) (suc i) d e h = get_or-default xs i d e (omega arith)
