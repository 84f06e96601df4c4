-- What the pass knows of a slot is the join of all that edges send to it.
use Rattle.std.proofs.Common.{◌≡◌, ◌≢◌, ℕ, zero, suc, ◌+◌, ◌-◌, ◌<◌, ◌≤◌, ◌==◌, inl, inr, Bool, true, false, cond, List, [], ◌∷◌, ◌++◌, length, Option, Some, None, Result, Ok, Err, flat_map, IsPermutation, refl, sym, ap, ◌∙◌, subst, arith}
use Rattle.std.proofs.lemmas.Bool.{ne_eqb, cases_lt}
use Rattle.std.proofs.lemmas.List.{append-nil, append_assoc}
use Rattle.std.specs.List.{range_with_len}
use Rattle.std.specs.Prelude.{option_to_list}
use Rattle.refusals.specs.declared.RefusalNumber.{RefusalNumber}
use Rattle.abs_domain.specs.declared.domain.Domain.{Ghosts}
use Rattle.abs_states.specs.declared.state.AbsState.{AbsState}
use Rattle.abs_states.specs.States.{entry_state, joined_state}
use Rattle.abs_states.specs.Steps.{edge_of}
use Rattle.abs_states.specs.Transfers.{transfer_in}
use Rattle.bpf_profile.specs.declared.instruction.Instruction.{Instruction}
use Rattle.bpf_profile.specs.declared.slot.Slot.{Slot}
use Rattle.bpf_profile.specs.Flow.{Edge}
use Rattle.bpf_profile.specs.Meaning.{instruction_at}
use Rattle.verifier.specs.Analysis.{message_to, joined_into, received, sent_with, arriving, known_at}
use Rattle.verifier.specs.Joins.{brought_to, sent_along, sent_from, begun_with, sent_to, join_of, AreJoins}
use Rattle.verifier.proofs.Edges.{GoesForward, edge_at}
use Rattle.verifier.proofs.JoinOf.{also, also_none, also_associative, join_options, join_append, join_permuted, Unordered}
use Rattle.verifier.proofs.Known.{way_edge}

-- ---- what a slot receives of one that sends

module _ {X : Type 0} (domain : Ghosts X) where
  abbrev alike : Option (AbsState X) → Option (AbsState X) → Option (AbsState X)
  alike = also (joined_state domain)

  received_where : (before : Option (AbsState X)) (test : Bool) (a : AbsState X) → cond test (Some (joined_into domain before a)) before ≡ alike before (cond test (Some a) None)
  received_where None true a = refl
  received_where (Some b) true a = refl
  received_where None false a = refl
  received_where (Some b) false a = refl

  -- a message first, and then the others
  received_first : (place : ℕ) (edge : Option ℕ) (r : Result (AbsState X) RefusalNumber) (before : Option (AbsState X)) (more : List _)
      → received domain place before (message_to edge r ++ more) ≡ received domain place (alike before (brought_to place edge r)) more
  received_first place (Some to) (Ok a) before more = ap (λ (o : Option (AbsState X)). received domain place o more) (received_where before (to == place) a)
  received_first place (Some to) (Err number) before more = ap (λ (o : Option (AbsState X)). received domain place o more) (sym (also_none (joined_state domain) before))
  received_first place None (Ok a) before more = ap (λ (o : Option (AbsState X)). received domain place o more) (sym (also_none (joined_state domain) before))
  received_first place None (Err number) before more = ap (λ (o : Option (AbsState X)). received domain place o more) (sym (also_none (joined_state domain) before))

  received_all : (context from place : ℕ) (before : Option (AbsState X)) (i : Option Instruction) (k : Option (AbsState X))
      → received domain place before (sent_with domain context from i k) ≡ alike (alike before (sent_along domain context place from false i k)) (sent_along domain context place from true i k)
  received_all context from place before None k = sym (also_none (joined_state domain) _ ∙ also_none (joined_state domain) before)
  received_all context from place before (Some i) None = sym (also_none (joined_state domain) _ ∙ also_none (joined_state domain) before)
  received_all context from place before (Some i) (Some a) =
      let next = message_to (edge_of from i false) (transfer_in domain context a false i) in
      let target = message_to (edge_of from i true) (transfer_in domain context a true i) in
      received_first place (edge_of from i false) (transfer_in domain context a false i) before target
      ∙ (ap (received domain place (alike before (brought_to place (edge_of from i false) (transfer_in domain context a false i)))) (sym (append-nil target))
      ∙ received_first place (edge_of from i true) (transfer_in domain context a true i) (alike before (brought_to place (edge_of from i false) (transfer_in domain context a false i))) [])

-- ---- the first so many slots

flat_map_last : {A : Type 0} (f : ℕ → List A) (a n : ℕ) → flat_map f (range_with_len a (suc n)) ≡ (flat_map f (range_with_len a n) ++ f (a + n))
flat_map_last f a zero = append-nil (f a) ∙ ap f (omega arith)
flat_map_last f a (suc n) =
    ap (λ (l : List _). f a ++ l) (flat_map_last f (a + 1) n)
    ∙ (sym (append_assoc (f a) (flat_map f (range_with_len (a + 1) n)) (f (a + 1 + n)))
    ∙ ap (λ (m : ℕ). (f a ++ flat_map f (range_with_len (a + 1) n)) ++ f m) (omega arith))

-- the states that the first so many slots send to one
abbrev sent_below : {X : Type 0} → Ghosts X → ℕ → List Slot → (ℕ → Option (AbsState X)) → ℕ → ℕ → List (AbsState X)
sent_below domain context slots known place count = begun_with domain place ++ flat_map (sent_from domain context slots known place) (range_with_len 0 count)

sent_below_more : {X : Type 0} (domain : Ghosts X) (context : ℕ) (slots : List Slot) (known : ℕ → Option (AbsState X)) (place count : ℕ)
    → sent_below domain context slots known place (suc count) ≡ (sent_below domain context slots known place count ++ sent_from domain context slots known place count)
sent_below_more domain context slots known place count =
    let sends = sent_from domain context slots known place in
    ap (λ (l : List _). begun_with domain place ++ l) (flat_map_last sends 0 count)
    ∙ (ap (λ (m : ℕ). begun_with domain place ++ (flat_map sends (range_with_len 0 count) ++ sends m)) (omega arith)
    ∙ sym (append_assoc (begun_with domain place) (flat_map sends (range_with_len 0 count)) (sends count)))

arriving_joins : {X : Type 0} (domain : Ghosts X) (context : ℕ) (slots : List Slot) → Unordered (joined_state domain) → (count place : ℕ)
    → arriving domain context slots count place ≡ join_of (joined_state domain) (sent_below domain context slots (known_at domain context slots) place count)
unfolding arriving
arriving_joins domain context slots free zero place = begins (place == 0)
  where
    begins : (test : Bool) → cond test (Some (entry_state domain)) None ≡ join_of (joined_state domain) (cond test (entry_state domain ∷ []) [] ++ [])
    begins true = refl
    begins false = refl
arriving_joins {X} domain context slots free (suc count) place =
    let join = joined_state domain in
    let known = known_at domain context slots in
    let sent = λ (taken : Bool). sent_along domain context place count taken (instruction_at slots count) (known count) in
    let earlier = sent_below domain context slots known place count in
    received_all domain context count place (arriving domain context slots count place) (instruction_at slots count) (known count)
    ∙ (ap (λ (o : Option (AbsState X)). also join (also join o (sent false)) (sent true)) (arriving_joins domain context slots free count place)
    ∙ (also_associative join free (join_of join earlier) (sent false) (sent true)
    ∙ (ap (also join (join_of join earlier)) (sym (join_options join (sent false) (sent true)))
    ∙ (sym (join_append join free earlier (sent_from domain context slots known place count))
    ∙ ap (join_of join) (sym (sent_below_more domain context slots known place count))))))

-- ---- all other slots send nothing there

module _ {X : Type 0} (domain : Ghosts X) (context : ℕ) (slots : List Slot) where
  brings_none : (place : ℕ) (edge : Option ℕ) (r : Result (AbsState X) RefusalNumber) → ((to : ℕ) → edge ≡ Some to → to ≢ place) → brought_to place edge r ≡ None
  brings_none place None (Ok a) h = refl
  brings_none place None (Err number) h = refl
  brings_none place (Some to) (Ok a) h = ap (λ (test : Bool). cond test (Some a) None) (ne_eqb to place (h to refl))
  brings_none place (Some to) (Err number) h = refl

  sends_none : (place from : ℕ) (taken : Bool) → (Edge slots from place → ⊥) → (o : Option Instruction) → instruction_at slots from ≡ o → (k : Option (AbsState X)) → sent_along domain context place from taken o k ≡ None
  sends_none place from taken h None at k = refl
  sends_none place from taken h (Some i) at None = refl
  sends_none place from taken h (Some i) at (Some a) =
      brings_none place (edge_of from i taken) (transfer_in domain context a taken i)
      (λ to e same. h (subst (Edge slots from) same (edge_at slots from to i at (way_edge from i taken to e))))

  module _ (known : ℕ → Option (AbsState X)) where
    sent_none : (place from : ℕ) → (Edge slots from place → ⊥) → sent_from domain context slots known place from ≡ []
    sent_none place from h =
        let none = λ (taken : Bool). sends_none place from taken h (instruction_at slots from) refl (known from) in
        λ i. option_to_list (none false i) ++ option_to_list (none true i)

    sent_no_more : (place count extra : ℕ) → ((from : ℕ) → count ≤ from → Edge slots from place → ⊥) → sent_below domain context slots known place (count + extra) ≡ sent_below domain context slots known place count
    sent_no_more place count zero h = ap (sent_below domain context slots known place) (omega arith)
    sent_no_more place count (suc extra) h =
        let on : count + suc extra ≡ suc (count + extra) = omega arith in
        ap (sent_below domain context slots known place) on
        ∙ (sent_below_more domain context slots known place (count + extra)
        ∙ (ap (λ (l : List (AbsState X)). sent_below domain context slots known place (count + extra) ++ l) (sent_none place (count + extra) (h (count + extra) (omega arith)))
        ∙ (append-nil (sent_below domain context slots known place (count + extra))
        ∙ sent_no_more place count extra h)))

    -- no slot sends to one that isn't above it, and none behind the program's end sends anything
    sent_in_all : GoesForward slots → (place : ℕ) → sent_below domain context slots known place place ≡ sent_to domain context slots known place
    sent_in_all forward place = elim (cases_lt place (length slots)) [
      | inl inside ↦
          (sym (sent_no_more place place (length slots - place) (λ from le edge. (let f = (forward from place edge).0 in omega (arith, f, le))))
          ∙ ap (sent_below domain context slots known place) (omega (arith, inside)))
      | inr behind ↦
          (ap (sent_below domain context slots known place) (omega (arith, behind))
          ∙ sent_no_more place (length slots) (place - length slots) (λ from le edge. (let f = forward from place edge in omega (arith, f.0, f.1, le, behind))))
    ]

  pub known_joins : Unordered (joined_state domain) → GoesForward slots → (place : ℕ) (states : List (AbsState X)) → IsPermutation (sent_to domain context slots (known_at domain context slots) place) states
      → known_at domain context slots place ≡ join_of (joined_state domain) states
  known_joins free forward place states moved =
      let known = known_at domain context slots in
      arriving_joins domain context slots free place place
      ∙ (ap (join_of (joined_state domain)) (sent_in_all known forward place)
      ∙ sym (join_permuted (joined_state domain) free (sent_to domain context slots known place) states moved))

  -- ---- nothing else is the join of what it sends

  sends_alike : (one other : ℕ → Option (AbsState X)) (place count : ℕ) → ((from : ℕ) → from < count → one from ≡ other from) → sent_below domain context slots one place count ≡ sent_below domain context slots other place count
  sends_alike one other place zero h = refl
  sends_alike one other place (suc count) h =
      sent_below_more domain context slots one place count
      ∙ (ap (λ (l : List (AbsState X)). l ++ sent_from domain context slots one place count) (sends_alike one other place count (λ from lt. h from (omega arith)))
      ∙ (ap (λ (k : Option (AbsState X)). sent_below domain context slots other place count ++ (option_to_list (sent_along domain context place count false (instruction_at slots count) k) ++ option_to_list (sent_along domain context place count true (instruction_at slots count) k))) (h count (omega arith))
      ∙ sym (sent_below_more domain context slots other place count)))

  known_below : Unordered (joined_state domain) → GoesForward slots → (known : ℕ → Option (AbsState X)) → AreJoins domain context slots known → (count place : ℕ) → place < count → known place ≡ known_at domain context slots place
  known_below free forward known joins zero place h = absurd (omega arith)
  known_below free forward known joins (suc count) place h =
      joins place
      ∙ (ap (join_of (joined_state domain)) (sym (sent_in_all known forward place))
      ∙ (ap (join_of (joined_state domain)) (sends_alike known (known_at domain context slots) place place (λ from lt. known_below free forward known joins count from (omega arith)))
      ∙ sym (arriving_joins domain context slots free place place)))

  pub only_known : Unordered (joined_state domain) → GoesForward slots → (known : ℕ → Option (AbsState X)) → AreJoins domain context slots known → (place : ℕ) → known place ≡ known_at domain context slots place
  only_known free forward known joins place = known_below free forward known joins (suc place) place (omega arith)
