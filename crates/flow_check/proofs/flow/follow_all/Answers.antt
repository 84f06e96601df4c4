use Rattle.std.proofs.Common.{◌≡◌, ◌+◌, ℕ, ◌≤◌, ◌∷◌, [], ◌++◌, List, length, map, get_or, refl, sym, ap, ◌∙◌, subst, arith}
use Rattle.std.proofs.lemmas.List.{map-append}
use Rattle.std.specs.List.{range_with_len}
use Rattle.std.proofs.lemmas.List.FromFn.{length-map-range_with_len, map-range_with_len_more}
use Rattle.bpf_profile.specs.Limits.{most_slots}
use Rattle.bpf_profile.specs.Flow.{successors}
use Rattle.flow_check.specs.Passes.{IsLengthened}
use Rattle.flow_check.specs.Routes.{successor_list, successors_at}
use Rattle.flow_check.specs.declared.edges.Successors.{Successors}
use Rattle.flow_check.proofs.Accepted.{IsAccepted}
use Rattle.flow_check.proofs.Walks.{traced_step, traced_few, traced_end}
use Rattle.flow_check.proofs.flow.follow_all.Goals as goal

pub overflow_add-count : goal.overflow_add-count
overflow_add-count c =
    let accepted : IsAccepted c.args.slots.now = record { program = c.requires.program; faultless = c.requires.accepted } in
    let few : get_or c.loop-place.longest c.loop-place.place 0 ≤ most_slots = traced_few c.args.slots.now accepted c.loop-place.place _ _ _ c.loop-place.invariant.0 refl in
    omega (arith, few)

pub loop-place-preserved : goal.loop-place-preserved
loop-place-preserved c =
    let accepted : IsAccepted c.args.slots.now = record { program = c.requires.program; faultless = c.requires.accepted } in
    let along : IsLengthened c.loop-place.longest c.follow.new.longest (get_or c.loop-place.longest c.loop-place.place 0 + 1) (successors c.args.slots.now c.loop-place.place) =
    subst (λ (l : List ℕ). IsLengthened c.loop-place.longest c.follow.new.longest (get_or c.loop-place.longest c.loop-place.place 0 + 1) l) c.successors_of-successors.ensures.edges c.follow.ensures in
    let exact : c.successors_of-successors.result ≡ successors_at c.args.slots.now c.loop-place.place = λ i. record { next = c.successors_of-successors.ensures.next i; target = c.successors_of-successors.ensures.target i } in (
      traced_step c.args.slots.now accepted c.loop-place.place (c.loop-place.place + 1) c.loop-place.budget c.max-budget.result c.loop-place.longest c.follow.new.longest c.loop-place.invariant.0 refl c.max-budget.ensures along,
      ap (map successor_list) c.in_ok-push.ensures.items
          ∙ (map-append successor_list c.loop-place.edges.items _
          ∙ (ap (λ (l : List (List ℕ)). l ++ (successor_list c.successors_of-successors.result ∷ [])) c.loop-place.invariant.1
          ∙ (ap (λ (x : List ℕ). map (successors c.args.slots.now) (range_with_len 0 c.loop-place.place) ++ (x ∷ [])) c.successors_of-successors.ensures.edges
          ∙ sym (map-range_with_len_more (successors c.args.slots.now) 0 c.loop-place.place c.loop-place.place (omega arith))))),
      c.in_ok-push.ensures.items
          ∙ (ap (λ (l : List Successors). l ++ (c.successors_of-successors.result ∷ [])) c.loop-place.invariant.2
          ∙ (ap (λ (x : Successors). map (successors_at c.args.slots.now) (range_with_len 0 c.loop-place.place) ++ (x ∷ [])) exact
          ∙ sym (map-range_with_len_more (successors_at c.args.slots.now) 0 c.loop-place.place c.loop-place.place (omega arith)))),
    )

pub returns-clause-budget : goal.returns-clause-budget
returns-clause-budget c =
    traced_end c.args.slots.now (record { program = c.requires.program; faultless = c.requires.accepted }) c.loop-place.place c.loop-place.budget c.loop-place.longest (omega arith) c.loop-place.invariant.0

pub returns-clause-counted : goal.returns-clause-counted
returns-clause-counted c = ap length c.loop-place.invariant.1 ∙ (length-map-range_with_len (successors c.args.slots.now) 0 c.loop-place.place ∙ omega arith)
