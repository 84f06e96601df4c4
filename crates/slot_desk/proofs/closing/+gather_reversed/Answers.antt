use Rattle.std.proofs.Common.{rules, sym, ap, ◌∙◌, subst, ◌≡◌, ◌<◌, ◌+◌, ◌++◌, ◌∷◌, [], suc, map, reverse, vec_len}
use Rattle.std.specs.List.{AllByRecursion}
use Rattle.std.proofs.lemmas.List.{length-map, reverse-reverse, reverse-append}
use Rattle.slot_desk.specs.Seats.{SeatData, IsTallied}
use Rattle.slot_desk.specs.Slots.{known_of, back_of, table_of, table_at, view_at, trace_at}
use Rattle.slot_desk.specs.Closing.{traces_row}
use Rattle.slot_desk.specs.Gathering.{added, all_added}
use Rattle.slot_desk.proofs.Counting.{Leaves, some_left, one_back, more_back, none_back}
use Rattle.slot_desk.proofs.Known.{trace_row, seats_of_moved}
use Rattle.slot_desk.proofs.closing.+gather_reversed.Goals as goal

pub give_back_all-requires-clause-here : goal.give_back_all-requires-clause-here
give_back_all-requires-clause-here t c =
    let split : c.args.seats.items ≡ c.pop.new.self.items ++ c.in-Some.seat ∷ [] = search rules in
    let turned : reverse c.args.seats.items ≡ c.in-Some.seat ∷ reverse c.pop.new.self.items = ap reverse split ∙ reverse-append c.pop.new.self.items (c.in-Some.seat ∷ []) in
    let here = subst (AllByRecursion (λ (seat : SeatData). seat.tables ≡ map table_of c.args.slots.now)) turned c.requires.here in
    let twice : reverse c.reverse.new.self.items ≡ c.seat.inside.places.items = ap reverse c.reverse.ensures.items ∙ reverse-reverse c.seat.inside.places.items in
    ap (map table_at) twice ∙ (ap (λ (s : SeatData). s.tables) c.seat.view_is ∙ here.0)

pub give_back_all-requires-clause-some : goal.give_back_all-requires-clause-some
give_back_all-requires-clause-some t c =
    let less : 0 < vec_len c.args.seats = search rules in
    some_left _ _ less c.requires.some

pub gather_reversed-requires : goal.gather_reversed-requires
gather_reversed-requires t c =
    let split : c.args.seats.items ≡ c.pop.new.self.items ++ c.in-Some.seat ∷ [] = search rules in
    let turned : reverse c.args.seats.items ≡ c.in-Some.seat ∷ reverse c.pop.new.self.items = ap reverse split ∙ reverse-append c.pop.new.self.items (c.in-Some.seat ∷ []) in
    let here = subst (AllByRecursion (λ (seat : SeatData). seat.tables ≡ map table_of c.args.slots.now)) turned c.requires.here in
    let count : vec_len c.args.seats ≡ suc (vec_len c.pop.new.self) = search rules in
    let g = c.give_back_all.ensures in
    (search rules, (seats_of_moved _ _ _ g.tables here.1, one_back _ _ _ g.back g.dealt (subst (λ n. AllByRecursion (Leaves n) c.args.slots.now) count c.requires.some)))

pub returns-in-Some-clause-back : goal.returns-in-Some-clause-back
returns-in-Some-clause-back t c =
    let count : vec_len c.args.seats ≡ suc (vec_len c.pop.new.self) = search rules in
    let g = c.give_back_all.ensures in
    c.gather_reversed.ensures.back ∙ (ap (map (λ n. n + vec_len c.pop.new.self)) g.back ∙ (more_back (vec_len c.pop.new.self) (map back_of c.args.slots.now) ∙ ap (λ k. map (λ n. n + k) (map back_of c.args.slots.now)) (sym count)))

pub returns-in-Some-clause-known : goal.returns-in-Some-clause-known
returns-in-Some-clause-known t c =
    let split : c.args.seats.items ≡ c.pop.new.self.items ++ c.in-Some.seat ∷ [] = search rules in
    let turned : reverse c.args.seats.items ≡ c.in-Some.seat ∷ reverse c.pop.new.self.items = ap reverse split ∙ reverse-append c.pop.new.self.items (c.in-Some.seat ∷ []) in
    let twice : reverse c.reverse.new.self.items ≡ c.seat.inside.places.items = ap reverse c.reverse.ensures.items ∙ reverse-reverse c.seat.inside.places.items in
    let known = map known_of c.args.slots.now in
    let row : map trace_at (reverse c.reverse.new.self.items) ≡ traces_row c.in-Some.seat = ap (map trace_at) twice ∙ (trace_row c.seat.inside.places.items _ c.seat.inside.number c.seat.invariant.0 ∙ ap traces_row c.seat.view_is) in
    let was : map known_of c.give_back_all.new.slots ≡ added known (traces_row c.in-Some.seat) = c.give_back_all.ensures.known ∙ ap (added known) row in
    c.gather_reversed.ensures.known ∙ (ap (λ ks. all_added ks (map traces_row (reverse c.pop.new.self.items))) was ∙ ap (λ seats. all_added known (map traces_row seats)) (sym turned))

pub returns-in-Some-clause-tallied : goal.returns-in-Some-clause-tallied
returns-in-Some-clause-tallied t c =
    let split : c.args.seats.items ≡ c.pop.new.self.items ++ c.in-Some.seat ∷ [] = search rules in
    let turned : reverse c.args.seats.items ≡ c.in-Some.seat ∷ reverse c.pop.new.self.items = ap reverse split ∙ reverse-append c.pop.new.self.items (c.in-Some.seat ∷ []) in
    let places = c.seat.inside.places.items in
    let mine : IsTallied c.in-Some.seat = subst IsTallied c.seat.view_is (record { counted = c.seat.invariant.1; each_viewed = length-map places view_at ∙ sym (length-map places table_at) }) in
    subst (AllByRecursion IsTallied) (sym turned) (mine, c.gather_reversed.ensures.tallied)

pub returns-in_default-clause-back : goal.returns-in_default-clause-back
returns-in_default-clause-back t c =
    let none : vec_len c.args.seats ≡ 0 = search rules in
    none_back (map back_of c.args.slots.now) ∙ ap (λ k. map (λ n. n + k) (map back_of c.args.slots.now)) (sym none)
