-- Walks through an accepted program, and the longest of them.
use Rattle.std.proofs.Common.{◌≡◌, ℕ, zero, suc, ◌+◌, ◌<◌, ◌≤◌, ◌⊎◌, inl, inr, max, List, [], ◌∷◌, ◌++◌, length, get_or, refl, sym, ◌∙◌, subst, arith, add-one}
use Rattle.std.specs.Prelude.{IsSome}
use Rattle.std.proofs.Math.Nat.{le-max_left, le-max_right}
use Rattle.std.proofs.lemmas.Bool.{cases_eq, cases_lt}
use Rattle.std.proofs.lemmas.List.Elements.{Contains-append_left, Contains-append_right, Contains-append_cases}
use Rattle.bpf_profile.specs.declared.slot.Slot.{Slot}
use Rattle.bpf_profile.specs.Limits.{most_slots}
use Rattle.bpf_profile.specs.Flow.{Edge, successors, WalkFrom, IsWalk, IsBudget}
use Rattle.bpf_profile.specs.Meaning.{instruction_at}
use Rattle.flow_check.specs.Passes.{IsLengthened}
use Rattle.flow_check.proofs.Accepted.{IsAccepted, forward, comes, entered_from}

-- ---- walks by their last edge

-- so many edges lead from slot 0 to a slot
abbrev pub Arrives : List Slot → ℕ → ℕ → Type 0
Arrives slots zero to = to ≡ 0
Arrives slots (suc n) to = (from : ℕ) × Arrives slots n from × Edge slots from to

-- no walk has more edges than slots before its last
arrives_within : (slots : List Slot) → IsAccepted slots → (n to : ℕ) → Arrives slots n to → (n ≤ to) × (to < length slots)
arrives_within slots a zero to e = (omega arith, omega (arith, e, a.program.some))
arrives_within slots a (suc n) to (from, walk, edge) =
    let before = arrives_within slots a n from walk in
    let f = forward slots a from to edge in
    (omega (arith, before.0, f.0), f.1)

-- a walk to a slot and on from it
walk_of : (slots : List Slot) (n to : ℕ) (rest : List ℕ) → Arrives slots n to → WalkFrom slots to rest → (walk : List ℕ) × IsWalk slots walk × (length walk ≡ suc (n + length rest))
walk_of slots zero to rest e on = (to ∷ rest, (e, on), omega arith)
walk_of slots (suc n) to rest (from, walk, edge) on =
    let w = walk_of slots n from (to ∷ rest) walk (edge, on) in
    (w.0, w.1, omega (arith, w.2))

-- where a walk ends
arrives_on : (slots : List Slot) (n from : ℕ) (walk : List ℕ) → Arrives slots n from → WalkFrom slots from walk → (to : ℕ) × Arrives slots (n + length walk) to
arrives_on slots n from [] e on = (from, subst (λ (k : ℕ). Arrives slots k from) (omega arith) e)
arrives_on slots n from (next ∷ walk) e (edge, on) =
    let there = arrives_on slots (suc n) next walk (from, e, edge) on in
    (there.0, subst (λ (k : ℕ). Arrives slots k there.0) (omega arith) there.1)

-- a walk leads to each instruction
reached_below : (slots : List Slot) → IsAccepted slots → (bound place : ℕ) → place < bound → IsSome (instruction_at slots place) → (n : ℕ) × Arrives slots n place
reached_below slots a zero place h there = absurd (omega arith)
reached_below slots a (suc bound) place h there =
    elim (entered_from slots a place there) [
      | inl e ↦ (zero, e)
      | inr (from, edge) ↦
          let f = forward slots a from place edge in
          let before = reached_below slots a bound from (omega (arith, f.0, h)) (comes slots from place edge) in
          (suc before.0, (from, before.1, edge))
    ]

reached : (slots : List Slot) → IsAccepted slots → (place : ℕ) → IsSome (instruction_at slots place) → (n : ℕ) × Arrives slots n place
reached slots a place there = reached_below slots a (suc place) place (omega arith) there

-- ---- the pass that finds the longest

pub lengthened_both : (a b c : List ℕ) (count : ℕ) (xs ys zs : List ℕ) → IsLengthened a b count xs → IsLengthened b c count ys → zs ≡ xs ++ ys → IsLengthened a c count zs
lengthened_both a b c count xs ys zs p q e = subst (λ (l : List ℕ). IsLengthened a c count l) (sym e) both
  where
    both : IsLengthened a c count (xs ++ ys)
    both = record {
      sized = q.sized ∙ p.sized;
      kept = λ k. omega (arith, p.kept k, q.kept k);
      raised = λ k h.
          elim (Contains-append_cases xs ys k h) [
            | inl l ↦ (let m = p.raised k l in omega (arith, m, q.kept k))
            | inr r ↦ q.raised k r
          ];
      shown = λ k.
          elim (q.shown k) [
            | inl same ↦
                elim (p.shown k) [
                  | inl old ↦ inl (same ∙ old)
                  | inr (new, there) ↦ inr (same ∙ new, Contains-append_left xs ys k there)
                ]
            | inr (new, there) ↦ inr (new, Contains-append_right xs ys k there)
          ];
    }

-- the longest walks, where edges from the first so many slots were followed
pub record IsTraced (slots : List Slot) (count : ℕ) (longest : List ℕ) (budget : ℕ) : Type 0 where
  pub sized : length longest ≡ length slots
  pub first : 1 ≤ get_or longest 0 0
  pub shown : (k : ℕ) → (get_or longest k 0 ≡ 0) ⊎ ((n : ℕ) × (get_or longest k 0 ≡ suc n) × Arrives slots n k)
  pub covered : (n i j : ℕ) → i < count → Arrives slots n i → Edge slots i j → suc (suc n) ≤ get_or longest j 0
  pub best : (n i : ℕ) → i < count → Arrives slots n i → suc n ≤ budget
  pub witness : (budget ≡ 0) ⊎ ((n : ℕ) × (i : ℕ) × (budget ≡ suc n) × Arrives slots n i)

-- a slot's number is that of its longest walk, once the slots before it were followed
known : (slots : List Slot) → IsAccepted slots → (place budget : ℕ) (longest : List ℕ) → IsTraced slots place longest budget → (n : ℕ) → Arrives slots n place → suc n ≤ get_or longest place 0
known slots a place budget longest t zero e = subst (λ (k : ℕ). 1 ≤ get_or longest k 0) (sym e) t.first
known slots a place budget longest t (suc n) (from, walk, edge) = t.covered n from place (forward slots a from place edge).0 walk edge

-- the walk to an instruction that the pass has come to
arrived : (slots : List Slot) → IsAccepted slots → (place budget : ℕ) (longest : List ℕ) → IsTraced slots place longest budget → IsSome (instruction_at slots place)
    → (n : ℕ) × (get_or longest place 0 ≡ suc n) × Arrives slots n place
arrived slots a place budget longest t there =
    elim (t.shown place) [
      | inl none ↦
          let r = reached slots a place there in
          absurd (omega (arith, none, known slots a place budget longest t r.0 r.1))
      | inr walk ↦ walk
    ]

pub traced_step : (slots : List Slot) → IsAccepted slots → (place next budget best : ℕ) (longest after : List ℕ) → IsTraced slots place longest budget → next ≡ place + 1
    → best ≡ max (get_or longest place 0) budget → IsLengthened longest after (get_or longest place 0 + 1) (successors slots place) → IsTraced slots next after best
traced_step slots a place next budget best longest after t step is l = subst (λ (k : ℕ). IsTraced slots k after best) (sym (step ∙ add-one place)) traced
  where
    here : (n : ℕ) → Arrives slots n place → suc n ≤ get_or longest place 0
    here = known slots a place budget longest t

    at_least : get_or longest place 0 ≤ best
    at_least = omega (arith, is, le-max_left (get_or longest place 0) budget)

    no_less : budget ≤ best
    no_less = omega (arith, is, le-max_right (get_or longest place 0) budget)

    one_of : (best ≡ get_or longest place 0) ⊎ (best ≡ budget)
    one_of = elim (cases_lt (get_or longest place 0) budget) [ inl h ↦ inr (omega (arith, is, h)) | inr h ↦ inl (omega (arith, is, h)) ]

    traced : IsTraced slots (suc place) after best
    traced = record {
      sized = l.sized ∙ t.sized;
      first = omega (arith, t.first, l.kept 0);
      shown = λ k.
          elim (l.shown k) [
            | inl same ↦
                elim (t.shown k) [
                  | inl none ↦ inl (same ∙ none)
                  | inr (n, e, w) ↦ inr (n, same ∙ e, w)
                ]
            | inr (new, edge) ↦
                let w = arrived slots a place budget longest t (comes slots place k edge) in
                inr (suc w.0, omega (arith, new, w.1), (place, w.2, edge))
          ];
      covered = λ n i j h w edge.
          elim (cases_eq i place) [
            | inl e ↦
                let at_place : Arrives slots n place = subst (Arrives slots n) e w in
                let leaves : Edge slots place j = subst (λ (k : ℕ). Edge slots k j) e edge in
                omega (arith, here n at_place, l.raised j leaves)
            | inr other ↦ omega (arith, t.covered n i j (omega (arith, h, other)) w edge, l.kept j)
          ];
      best = λ n i h w.
          elim (cases_eq i place) [
            | inl e ↦ omega (arith, here n (subst (Arrives slots n) e w), at_least)
            | inr other ↦ omega (arith, t.best n i (omega (arith, h, other)) w, no_less)
          ];
      witness =
          elim one_of [
            | inl e ↦
                elim (t.shown place) [
                  | inl none ↦ inl (e ∙ none)
                  | inr (n, f, w) ↦ inr (n, place, e ∙ f, w)
                ]
            | inr e ↦
                elim t.witness [
                  | inl none ↦ inl (e ∙ none)
                  | inr (n, i, f, w) ↦ inr (n, i, e ∙ f, w)
                ]
          ];
    }

-- a walk is no longer than the program
pub traced_few : (slots : List Slot) → IsAccepted slots → (place count budget : ℕ) (longest : List ℕ) → IsTraced slots place longest budget → count ≡ get_or longest place 0 → count ≤ most_slots
traced_few slots a place count budget longest t e =
    elim (t.shown place) [
      | inl none ↦ omega (arith, e, none)
      | inr (n, f, w) ↦ (let h = arrives_within slots a n place w in omega (arith, e, f, h.0, h.1, a.program.few))
    ]

-- at the end of the pass the greatest number is the budget
pub traced_end : (slots : List Slot) → IsAccepted slots → (count budget : ℕ) (longest : List ℕ) → length slots ≤ count → IsTraced slots count longest budget → IsBudget slots budget
traced_end slots a count budget longest all t =
    elim t.witness [
      | inl none ↦ absurd (omega (arith, none, t.best 0 0 (omega (arith, all, a.program.some)) refl))
      | inr (n, to, e, w) ↦
          let walk = walk_of slots n to [] w tt in
          record { walk = walk.0; walked = walk.1; reached = omega (arith, walk.2, e); longest = no_longer }
    ]
  where
    no_longer : (other : List ℕ) → IsWalk slots other → length other ≤ budget
    no_longer [] w = absurd w
    no_longer (first ∷ walk) (e, on) =
        let there = arrives_on slots 0 first walk e on in
        let within = arrives_within slots a (0 + length walk) there.0 there.1 in
        omega (arith, t.best (0 + length walk) there.0 (omega (arith, all, within.1)) there.1)
