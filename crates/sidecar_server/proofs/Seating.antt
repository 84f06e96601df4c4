-- What workers bring back who ask by seats of one desk: their seats, which are still seats of that desk.
use Rattle.std.proofs.Common.{◌≡◌, ◌∙◌, ℕ, List, [], ◌∷◌, ◌++◌, map, None, ap, refl, sym, subst}
use Rattle.std.proofs.lemmas.List.{map-append}
use Rattle.std.specs.List.{AllByRecursion}
use Rattle.service.specs.Asked.{RequestData, ResponseData}
use Rattle.service.specs.declared.upkeep.Upkeep.{Upkeep}
use Rattle.http_seats.specs.Seated.{SeatedData, seated, names_by, asks_by}
use Rattle.http_pool.specs.declared.workers.Worker.{Worker}
use Rattle.http_pool.specs.Workers.{HaveWorked}
use Rattle.sidecar_server.specs.Seats.{workers_of, seats_with}
use Rattle.sidecar_server.proofs.Along.{worker}

-- one seat more
pub seats_more_with : {D S C : Type 0} (done : List (Worker (SeatedData D S) C)) (w : Worker (SeatedData D S) C) (seats : List S) → seats ≡ seats_with done → seats ++ w.answerer.seat ∷ [] ≡ seats_with (done ++ w ∷ [])
seats_more_with done w seats before = ap (λ ss. ss ++ w.answerer.seat ∷ []) before ∙ sym (map-append (λ v. v.answerer.seat) done (w ∷ []))

-- sits_at says that a seat is one of a desk
module _ {D S C : Type 0} (sits_at : D → S → Type 0) where
  abbrev pub AreHeld : List (Worker (SeatedData D S) C) → Type 0
  AreHeld workers = AllByRecursion (λ w. sits_at w.answerer.desk w.answerer.seat) workers

  pub held_more : (done : List (Worker (SeatedData D S) C)) (w : Worker (SeatedData D S) C) → AreHeld done → sits_at w.answerer.desk w.answerer.seat → AreHeld (done ++ w ∷ [])
  held_more [] w all is = (is, tt)
  held_more (v ∷ done) w all is = (all.0, held_more done w all.1 is)

  held_here : (desk : D) (later : List (Worker (SeatedData D S) C)) → AllByRecursion (λ w. w.answerer.desk ≡ desk) later → AreHeld later → AllByRecursion (sits_at desk) (seats_with later)
  held_here desk [] same held = tt
  held_here desk (w ∷ later) same held = (subst (λ d. sits_at d w.answerer.seat) same.0 held.0, held_here desk later same.1 held.1)

  -- the desk that they ask stays the same
  module _ (names_of : D → List (List ℕ)) (asks : D → S → Upkeep → ℕ → ℕ → RequestData → ResponseData → S → Type 0) (ticks : C → ℕ → C → Type 0) where
    same_desk : (last : D) (s : SeatedData D S) (place moment : ℕ) (wanted : RequestData) (given : ResponseData) (t : SeatedData D S) → asks_by asks s place moment wanted given t → last ≡ t.desk → (last ≡ s.desk) × asks_by asks s place moment wanted given t
    same_desk last s place moment wanted given t is same = (same ∙ is.0, is)

    asks_one_desk : (before after : Worker (SeatedData D S) C) → HaveWorked (names_by names_of) (asks_by asks) ticks (before ∷ []) (after ∷ []) → after.answerer.desk ≡ before.answerer.desk
    asks_one_desk before after worked =
        (worker (names_by names_of) (asks_by asks) (asks_by asks) ticks (λ s. after.answerer.desk ≡ s.desk) (same_desk after.answerer.desk) before.answerer before.clock after.answerer after.clock worked.0 refl).0

    ask_one_desk : (desk : D) (upkeeps : List Upkeep) (clock : C) (seats : List S) (later : List (Worker (SeatedData D S) C)) → HaveWorked (names_by names_of) (asks_by asks) ticks (workers_of clock (map (seated desk upkeeps) seats)) later → AllByRecursion (λ w. w.answerer.desk ≡ desk) later
    ask_one_desk desk upkeeps clock [] [] worked = tt
    ask_one_desk desk upkeeps clock [] (w ∷ later) worked = absurd worked
    ask_one_desk desk upkeeps clock (seat ∷ seats) [] worked = absurd worked
    ask_one_desk desk upkeeps clock (seat ∷ seats) (w ∷ later) worked = (asks_one_desk (record { answerer = seated desk upkeeps seat; clock = clock; failure = None }) w (worked.0, tt), ask_one_desk desk upkeeps clock seats later worked.1)

    -- so the seats that come back are seats of the desk
    pub back_here : (desk : D) (upkeeps : List Upkeep) (clock : C) (seats : List S) (workers later : List (Worker (SeatedData D S) C)) → workers ≡ workers_of clock (map (seated desk upkeeps) seats) → HaveWorked (names_by names_of) (asks_by asks) ticks workers later → AreHeld later → AllByRecursion (sits_at desk) (seats_with later)
    back_here desk upkeeps clock seats workers later are worked held =
        held_here desk later (ask_one_desk desk upkeeps clock seats later (subst (λ ws. HaveWorked (names_by names_of) (asks_by asks) ticks ws later) are worked)) held
