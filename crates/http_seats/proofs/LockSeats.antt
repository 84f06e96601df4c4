-- Seats of a desk with locks, one after another, and how many they are.
use Rattle.std.proofs.Common.{◌≡◌, ◌∙◌, ◌+◌, ℕ, zero, suc, List, [], ◌∷◌, ◌++◌, length, ap, refl, sym, arith, Global, Vec, Result, Ok, Err}
use Rattle.std.specs.List.{AllByRecursion}
use Rattle.std.specs.Prelude.{IfOk, vec_len}
use Rattle.desk.specs.Desks.{DeskData}
use Rattle.desk.specs.Seats.{SeatData, seat_of}
use Rattle.http_seats.specs.Locks.{seats_of, sits_at}

-- one seat more
pub seats_more : (number count : ℕ) → seats_of number (suc count) ≡ seats_of number count ++ seat_of (number + count) 0 0 ∷ []
seats_more number zero = ap (λ n. seat_of n 0 0 ∷ []) (let e : number ≡ number + 0 = omega arith in e)
seats_more number (suc count) =
    let e : suc number + count ≡ number + suc count = omega arith in
    ap (λ later. seat_of number 0 0 ∷ later) (seats_more (suc number) count ∙ ap (λ n. seats_of (suc number) count ++ seat_of n 0 0 ∷ []) e)

-- one seat more behind those that were given
pub next_seat : (count given : ℕ) (seats : List SeatData) (seat : SeatData) → seats ≡ seats_of 1 count → given ≡ count → seat ≡ seat_of (given + 1) 0 0 → seats ++ seat ∷ [] ≡ seats_of 1 (count + 1)
next_seat count given seats seat before same is =
    let n : given + 1 ≡ 1 + count = omega (arith, same) in
    let m : count + 1 ≡ suc count = omega arith in
    ap (λ s. s ++ seat ∷ []) before ∙ (ap (λ s. seats_of 1 count ++ s ∷ []) (is ∙ ap (λ k. seat_of k 0 0) n) ∙ (sym (seats_more 1 count) ∙ ap (λ c. seats_of 1 c) (sym m)))

pub as_many_seats : (number count : ℕ) → length (seats_of number count) ≡ count
as_many_seats number zero = refl
as_many_seats number (suc count) = ap suc (as_many_seats (suc number) count)

-- as many as a server wanted, each of them one of the desk's
pub all_dealt : {E : Type 0} (r : Result (Vec SeatData Global) E) (count given : ℕ) → IfOk r (λ seats. seats.items ≡ seats_of 1 count) → IfOk r (λ seats. given ≡ count) → IfOk r (λ seats. (vec_len seats ≡ count) × (given ≡ count))
all_dealt (Ok seats) count given are all = (seats.ok.0 ∙ (ap length are ∙ as_many_seats 1 count), all)
all_dealt (Err e) count given are all = tt

sit : (desk : DeskData) (seats : List SeatData) → AllByRecursion (sits_at desk) seats
sit desk [] = tt
sit desk (seat ∷ seats) = (tt, sit desk seats)

pub all_sit : {E : Type 0} (r : Result (Vec SeatData Global) E) (desk : DeskData) → IfOk r (λ seats. AllByRecursion (sits_at desk) seats.items)
all_sit (Ok seats) desk = sit desk seats.items
all_sit (Err e) desk = tt
