-- Seats of a desk with slots, one after another, how many they are, and that they are the desk's.
use Rattle.std.proofs.Common.{◌≡◌, ◌∙◌, ◌+◌, ℕ, zero, suc, List, [], ◌∷◌, ◌++◌, length, Option, ap, refl, sym, subst, arith, Global, Vec, Result, Ok, Err}
use Rattle.std.specs.Prelude.{IfOk, vec_len}
use Rattle.std.specs.List.{AllByRecursion}
use Rattle.atomic_table.specs.Seated.{TableId}
use Rattle.service_profile.specs.Events.{History}
use Rattle.slot_desk.specs.Desks.{DeskData}
use Rattle.slot_desk.specs.Seats.{SeatData, IsSeatOf}
use Rattle.slot_desk.specs.Sitting.{new_seat}
use Rattle.http_seats.specs.Slots.{seats_of}

seats_more : (tables : List TableId) (origins : List (Option History)) (number count : ℕ) → seats_of tables origins number (suc count) ≡ seats_of tables origins number count ++ new_seat (number + count) tables origins ∷ []
seats_more tables origins number zero = ap (λ n. new_seat n tables origins ∷ []) (let e : number ≡ number + 0 = omega arith in e)
seats_more tables origins number (suc count) =
    let e : suc number + count ≡ number + suc count = omega arith in
    ap (λ later. new_seat number tables origins ∷ later) (seats_more tables origins (suc number) count ∙ ap (λ n. seats_of tables origins (suc number) count ++ new_seat n tables origins ∷ []) e)

-- one seat more behind those that were given
pub next_seat : (tables : List TableId) (origins : List (Option History)) (count given : ℕ) (seats : List SeatData) (seat : SeatData) → seats ≡ seats_of tables origins 1 count → given ≡ count → seat ≡ new_seat (given + 1) tables origins
    → seats ++ seat ∷ [] ≡ seats_of tables origins 1 (count + 1)
next_seat tables origins count given seats seat before same is =
    let n : given + 1 ≡ 1 + count = omega (arith, same) in
    let m : count + 1 ≡ suc count = omega arith in
    ap (λ s. s ++ seat ∷ []) before ∙ (ap (λ s. seats_of tables origins 1 count ++ s ∷ []) (is ∙ ap (λ k. new_seat k tables origins) n) ∙ (sym (seats_more tables origins 1 count) ∙ ap (λ c. seats_of tables origins 1 c) (sym m)))

pub as_many_seats : (tables : List TableId) (origins : List (Option History)) (number count : ℕ) → length (seats_of tables origins number count) ≡ count
as_many_seats tables origins number zero = refl
as_many_seats tables origins number (suc count) = ap suc (as_many_seats tables origins (suc number) count)

new_here : (desk : DeskData) (number count : ℕ) → AllByRecursion (IsSeatOf desk) (seats_of desk.tables desk.origins number count)
new_here desk number zero = tt
new_here desk number (suc count) = (refl, new_here desk (suc number) count)

-- they are seats of the desk
pub all_here : (desk : DeskData) (count : ℕ) (seats : List SeatData) → seats ≡ seats_of desk.tables desk.origins 1 count → AllByRecursion (IsSeatOf desk) seats
all_here desk count seats are = subst (AllByRecursion (IsSeatOf desk)) (sym are) (new_here desk 1 count)

-- as many as a server wanted, each of them one of the desk's
pub all_dealt : {E : Type 0} (r : Result (Vec SeatData Global) E) (desk : DeskData) (count : ℕ) → IfOk r (λ seats. seats.items ≡ seats_of desk.tables desk.origins 1 count) → IfOk r (λ seats. desk.seats ≡ count) → IfOk r (λ seats. (vec_len seats ≡ count) × (desk.seats ≡ count))
all_dealt (Ok seats) desk count are all = (seats.ok.0 ∙ (ap length are ∙ as_many_seats desk.tables desk.origins 1 count), all)
all_dealt (Err e) desk count are all = tt

pub all_sit : {E : Type 0} (r : Result (Vec SeatData Global) E) (desk : DeskData) (count : ℕ) → IfOk r (λ seats. seats.items ≡ seats_of desk.tables desk.origins 1 count) → IfOk r (λ seats. AllByRecursion (IsSeatOf desk) seats.items)
all_sit (Ok seats) desk count are = all_here desk count seats.items are
all_sit (Err e) desk count are = tt
