use Rattle.std.proofs.Common.{rules, ◌≡◌, ◌∙◌, ◌++◌, ◌∷◌, [], List, sym, subst}
use Rattle.std.specs.List.{AllByRecursion}
use Rattle.atomic_table.specs.Seated.{TableId}
use Rattle.slot_desk.specs.Seats.{SeatData, IsSeatOf}
use Rattle.slot_desk.proofs.Counting.{all_snoc}
use Rattle.tests_slots.specs.Crews.{IsAtDesk}
use Rattle.tests_slots.proofs.workers.apart.Goals as goal

-- what is true of all is true of those before the last, and of the last
all_last : {A : Type 0} (P : A → Type 0) (xs : List A) (x : A) → AllByRecursion P (xs ++ x ∷ []) → AllByRecursion P xs × P x
all_last P [] x h = (tt, h.0)
all_last P (y ∷ ys) x h = let r = all_last P ys x h.1 in ((h.0, r.0), r.1)

-- the worker that is taken was one of the desk's, and so is its seat
pub loop-worker-preserved : goal.loop-worker-preserved
loop-worker-preserved g c =
    let desk = c.args.desk.now in
    let worker : List TableId = c.in-Some.worker in
    let split : c.loop-worker.workers.items ≡ c.pop.new.self.items ++ worker ∷ [] = search rules in
    let last = all_last (IsAtDesk desk) c.pop.new.self.items worker (subst (AllByRecursion (IsAtDesk desk)) split c.loop-worker.invariant.0) in
    let seat : SeatData = c.into_seat.result in
    let pushed : c.push-in-Some.new.self.items ≡ c.loop-worker.seats.items ++ seat ∷ [] = search rules in
    let here : IsSeatOf desk seat = c.into_seat.ensures ∙ (c.worker.view_is ∙ last.1) in
    (last.0, subst (AllByRecursion (IsSeatOf desk)) (sym pushed) (all_snoc (IsSeatOf desk) c.loop-worker.seats.items seat c.loop-worker.invariant.1 here))
