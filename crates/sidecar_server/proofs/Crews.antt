-- Workers one after another, how many they are, and how many come back.
use Rattle.std.proofs.Common.{◌≡◌, ◌∙◌, ◌≤◌, ◌<◌, ◌&&◌, ℕ, suc, Bool, true, false, nat_le, List, [], ◌∷◌, ◌++◌, length, map, None, ap, refl, sym, arith}
use Rattle.std.proofs.lemmas.Bool.{leb-true}
use Rattle.std.proofs.lemmas.List.{length-map, map-append}
use Rattle.std.specs.List.{All}
use Rattle.service.specs.Asked.{RequestData, ResponseData}
use Rattle.service_file.specs.Files.{is_count}
use Rattle.event_loop.specs.Numbers.{ends}
use Rattle.http_pool.specs.declared.workers.Worker.{Worker}
use Rattle.http_pool.specs.Workers.{HaveWorked, HaveEnded}
use Rattle.sidecar_server.specs.Seats.{workers_of}

both : (a b : Bool) → (a && b) ≡ true → (a ≡ true) × (b ≡ true)
both true b is = (refl, is)
both false b is = absurd (let bad : false ≡ true = is in cc)

-- a count is 1 to 64
pub counted : (n : ℕ) → is_count n ≡ true → (1 ≤ n) × (n ≤ 64)
counted n is = let parts = both (nat_le 1 n) (nat_le n 64) is in (leb-true 1 n parts.0, leb-true n 64 parts.1)

-- as many workers as a count are some, and few
pub enough : (len workers count : ℕ) → len ≡ workers → workers ≡ count → is_count count ≡ true → (0 < len) × (len ≤ 64)
enough len workers count is many few = let within = counted count few in (omega (arith, is, many, within.0), omega (arith, is, many, within.1))

-- one worker more, with the next seat
pub next_worker : {S C T : Type 0} (with_seat : T → S) (clock : C) (done : List T) (seat : T) (workers : List (Worker S C)) (worker : Worker S C) → workers ≡ workers_of clock (map with_seat done) → worker.answerer ≡ with_seat seat → worker.clock ≡ clock → worker.failure ≡ None
    → workers ++ worker ∷ [] ≡ workers_of clock (map with_seat (done ++ seat ∷ []))
next_worker {S} {C} with_seat clock done seat workers worker before is ticks fresh =
    let made : S → Worker S C = λ answerer. record { answerer = answerer; clock = clock; failure = None } in
    (λ i. before i ++ record { answerer = is i; clock = ticks i; failure = fresh i } ∷ []) ∙ sym (ap (λ answerers. map made answerers) (map-append with_seat done (seat ∷ [])) ∙ map-append made (map with_seat done) (with_seat seat ∷ []))

-- as many workers as seats
pub as_many_workers : {S C T : Type 0} (with_seat : T → S) (clock : C) (seats : List T) (workers : List (Worker S C)) → workers ≡ workers_of clock (map with_seat seats) → length workers ≡ length seats
as_many_workers with_seat clock seats workers are = ap length are ∙ (length-map (map with_seat seats) _ ∙ length-map seats with_seat)

module _ {S C : Type 0} where
  -- as many come back
  pub as_many_back : (names_of : S → List (List ℕ)) (answers : S → ℕ → ℕ → RequestData → ResponseData → S → Type 0) (ticks : C → ℕ → C → Type 0) (workers later : List (Worker S C)) → HaveWorked names_of answers ticks workers later → length later ≡ length workers
  as_many_back names_of answers ticks [] [] each = refl
  as_many_back names_of answers ticks [] (v ∷ later) each = absurd each
  as_many_back names_of answers ticks (w ∷ workers) [] each = absurd each
  as_many_back names_of answers ticks (w ∷ workers) (v ∷ later) each = ap suc (as_many_back names_of answers ticks workers later each.1)

  -- where none met a failure, there was a number of connections
  pub over : (connections : ℕ) (workers : List (Worker S C)) → 0 < length workers → HaveEnded connections workers → All (λ w. w.failure ≡ None) workers → ends connections
  over connections [] some ended none = absurd (omega (arith, some))
  over connections (w ∷ workers) some ended none = ended.0 (none 0 w some)

-- as many seats come back as workers were sent
pub all_back : {S C T : Type 0} (names_of : S → List (List ℕ)) (answers : S → ℕ → ℕ → RequestData → ResponseData → S → Type 0) (ticks : C → ℕ → C → Type 0) (seat_of : Worker S C → T) (workers later : List (Worker S C)) (seats : List T)
    → HaveWorked names_of answers ticks workers later → seats ≡ map seat_of later → length seats ≡ length workers
all_back names_of answers ticks seat_of workers later seats worked are = ap length are ∙ (length-map later seat_of ∙ as_many_back names_of answers ticks workers later worked)
