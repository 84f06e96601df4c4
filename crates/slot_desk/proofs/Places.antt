-- The places of one seat, where one of them changes.
use Rattle.std.proofs.Common.{◌≡◌, ℕ, zero, suc, ◌+◌, ◌<◌, List, [], ◌∷◌, map, replicate, length, get_or, slice_get, slice_set, Option, Some, None, refl, sym, ap, ◌∙◌, subst, arith}
use Rattle.std.specs.Option.{option_map}
use Rattle.std.proofs.lemmas.Option.{slice_get-map, slice_get-get_or}
use Rattle.std.proofs.lemmas.List.{length-map}
use Rattle.book_slot.specs.declared.view.View.{View}
use Rattle.book_slot.specs.Called.{Called, CalledAfterTries}
use Rattle.book_slot.specs.Places.{SlotData, PlaceData, with_view}
use Rattle.book_slot.specs.Trying.{missing}
use Rattle.service_profile.specs.Calls.{CallData, CallAnswer, IsCalled}
use Rattle.book.specs.Counts.{made_by}
use Rattle.slot_desk.specs.Calls.{IsCalledAt}
use Rattle.slot_desk.specs.Tries.{IsTriedAt, IsMissedAt}
use Rattle.slot_desk.specs.Desks.{DeskData, IsServiceOf}
use Rattle.slot_desk.specs.Seats.{SeatData, seat_of, seat_with, entries_in, IsSeatOf, ChangesAt}
use Rattle.slot_desk.specs.Slots.{table_of, table_at, number_at, view_at}

-- where two lists look the same, so do their elements at a place
same_at : {A B C : Type 0} (f : A → C) (h : B → C) (xs : List A) (ys : List B) (k : ℕ) (x : A) (y : B) → map f xs ≡ map h ys → slice_get xs k ≡ Some x → slice_get ys k ≡ Some y → f x ≡ h y
same_at {C = C} f h xs ys k x y same ex ey =
    let both : ◌≡◌ {A = Option C} (Some (f x)) (Some (h y)) = sym (ap (option_map f) ex) ∙ (sym (slice_get-map f xs k) ∙ (ap (λ l. slice_get l k) same ∙ (slice_get-map h ys k ∙ ap (option_map h) ey))) in
    cc

-- an element comes in that looks the same
map_set : {A C : Type 0} (f : A → C) (xs : List A) (k : ℕ) (x y : A) → slice_get xs k ≡ Some x → f y ≡ f x → map f (slice_set xs k y) ≡ map f xs
map_set f [] k x y e same = refl
map_set f (z ∷ zs) zero x y e same = let is : z ≡ x = cc in ap (λ a. a ∷ map f zs) (same ∙ ap f (sym is))
map_set f (z ∷ zs) (suc k) x y e same = ap (λ l. f z ∷ l) (map_set f zs k x y e same)

set_map : {A C : Type 0} (f : A → C) (xs : List A) (k : ℕ) (y : A) → map f (slice_set xs k y) ≡ slice_set (map f xs) k (f y)
set_map f [] k y = refl
set_map f (z ∷ zs) zero y = refl
set_map f (z ∷ zs) (suc k) y = ap (λ l. f z ∷ l) (set_map f zs k y)

replicated : {A : Type 0} (n k : ℕ) (a b : A) → slice_get (replicate n a) k ≡ Some b → b ≡ a
replicated zero k a b e = let bad : ◌≡◌ {A = Option _} None (Some b) = e in absurd cc
replicated (suc n) zero a b e = let is : ◌≡◌ {A = Option _} (Some a) (Some b) = e in cc
replicated (suc n) (suc k) a b e = replicated n k a b e

entries_set : (places : List PlaceData) (k : ℕ) (p q : PlaceData) → slice_get places k ≡ Some p → entries_in (map view_at (slice_set places k q)) + p.view.entries ≡ entries_in (map view_at places) + q.view.entries
entries_set [] k p q e = let bad : ◌≡◌ {A = Option _} None (Some p) = e in absurd cc
entries_set (z ∷ zs) zero p q e =
    let both : ◌≡◌ {A = Option PlaceData} (Some z) (Some p) = e in
    let is : z ≡ p = cc in
    let s : z.view.entries ≡ p.view.entries = ap (λ (x : PlaceData). x.view.entries) is in
    omega (arith, s)
entries_set (z ∷ zs) (suc k) p q e = let i = entries_set zs k p q e in omega (arith, i)

-- what an index gives
stands : {A : Type 0} (xs : List A) (k : ℕ) (x : A) → k < length xs → x ≡ get_or xs k x → slice_get xs k ≡ Some x
stands xs k x less e = slice_get-get_or xs k x less ∙ ap Some (sym e)

as_many : {A B C : Type 0} (f : A → C) (h : B → C) (xs : List A) (ys : List B) → map f xs ≡ map h ys → length xs ≡ length ys
as_many f h xs ys e = sym (length-map xs f) ∙ (ap length e ∙ length-map ys h)

-- ---- a desk's slots and a seat's places, at an index that is the place of a service

module _ (slots : List SlotData) (desk : DeskData) (number count : ℕ) (places : List PlaceData) (seat : SeatData)
    (is_desk : map table_of slots ≡ desk.tables) (is_seat : seat_of number count (map table_at places) (map view_at places) ≡ seat)
    (of_desk : IsSeatOf desk seat) (service : ℕ) (held : IsServiceOf desk service) (k : ℕ) (at : k ≡ service) where
  -- the tables of the places are those of the slots
  alike : map table_at places ≡ map table_of slots
  alike = ap (λ (s : SeatData). s.tables) is_seat ∙ (of_desk ∙ sym is_desk)

  is_slot : k < length slots
  is_slot = let same : length desk.tables ≡ length slots = sym (ap length is_desk) ∙ length-map slots table_of in omega (arith, held, same, at)

  is_place : k < length places
  is_place = let same : length places ≡ length slots = as_many table_at table_of places slots alike in let less = is_slot in omega (arith, less, same)

  -- an index gives the slot and the place of one table
  pub here : (d : SlotData) (p : PlaceData) → d ≡ get_or slots k d → p ≡ get_or places k p → p.table ≡ d.table
  here d p ed ep = same_at table_at table_of places slots k p d alike (stands places k p is_place ep) (stands slots k d is_slot ed)

  module _ (p : PlaceData) (ep : p ≡ get_or places k p) where
    stands_here : slice_get places k ≡ Some p
    stands_here = stands places k p is_place ep

    pub view_stands : slice_get seat.views service ≡ Some p.view
    view_stands = subst (λ (x : ℕ × SeatData). slice_get x.1.views x.0 ≡ Some p.view) (λ i. (at i, is_seat i)) (slice_get-map view_at places k ∙ ap (option_map view_at) stands_here)

    own_number : (n : ℕ) → map number_at places ≡ replicate n number → p.number ≡ seat.number
    own_number n all =
        let here : ◌≡◌ {A = Option ℕ} (slice_get (map number_at places) k) (Some p.number) = slice_get-map number_at places k ∙ ap (option_map number_at) stands_here in
        replicated n k number p.number (sym (ap (λ l. slice_get l k) all) ∙ here) ∙ ap (λ (s : SeatData). s.number) is_seat

    -- the count goes on by what the place has made
    pub counts_on : (q : PlaceData) (made after : ℕ) → after ≡ count + made → q.view.entries ≡ p.view.entries + made → count ≡ entries_in (map view_at places) → after ≡ entries_in (map view_at (slice_set places k q))
    counts_on q made after counted more before =
        let e = entries_set places k p q stands_here in
        omega (arith, counted, more, before, e)

    -- a place comes in that differs by its view
    module _ (q : PlaceData) (same : q ≡ with_view p q.view) where
      pub numbers_stay : (n : ℕ) → map number_at places ≡ replicate n number → map number_at (slice_set places k q) ≡ replicate n number
      numbers_stay n all = map_set number_at places k p q stands_here (ap (λ (x : PlaceData). x.number) same) ∙ all

      changes_at : (made after : ℕ) (P : View → View → Type 0) → after ≡ count + made → P p.view q.view
          → ChangesAt service made P seat (seat_of number after (map table_at (slice_set places k q)) (map view_at (slice_set places k q)))
      changes_at made after P counted did =
          let tables : map table_at (slice_set places k q) ≡ map table_at places = map_set table_at places k p q stands_here (ap (λ (x : PlaceData). x.table) same) in
          let views : map view_at (slice_set places k q) ≡ slice_set (map view_at places) k q.view = set_map view_at places k q in
          let first : seat_of number after (map table_at (slice_set places k q)) (map view_at (slice_set places k q)) ≡ seat_with (seat_of number count (map table_at places) (map view_at places)) k q.view made =
          λ i. seat_of number (counted i) (tables i) (views i) in
          (p.view, q.view, view_stands, did, first ∙ (λ i. seat_with (is_seat i) (at i) q.view made))

      module _ (n : ℕ) (all : map number_at places ≡ replicate n number) (call : CallData) (given : CallAnswer) where
        pub is_called_at : (made after : ℕ) → made ≡ made_by call given → after ≡ count + made → CalledAfterTries (λ before later. IsCalled p.number before call given later) p.view q.view
            → IsCalledAt service seat call given (seat_of number after (map table_at (slice_set places k q)) (map view_at (slice_set places k q)))
        is_called_at made after made_is counted did =
            changes_at (made_by call given) after (CalledAfterTries (λ before later. IsCalled seat.number before call given later)) (counted ∙ ap (λ m. count + m) made_is)
            (subst (λ (m : ℕ). CalledAfterTries (λ before later. IsCalled m before call given later) p.view q.view) (own_number n all) did)

        pub is_tried_at : (made after : ℕ) → made ≡ made_by call given → after ≡ count + made → Called (λ before later. IsCalled p.number before call given later) p.view q.view
            → IsTriedAt service seat call given (seat_of number after (map table_at (slice_set places k q)) (map view_at (slice_set places k q)))
        is_tried_at made after made_is counted did =
            changes_at (made_by call given) after (Called (λ before later. IsCalled seat.number before call given later)) (counted ∙ ap (λ m. count + m) made_is)
            (subst (λ (m : ℕ). Called (λ before later. IsCalled m before call given later) p.view q.view) (own_number n all) did)

      pub is_missed_at : q.view ≡ missing p.view → IsMissedAt service seat (seat_of number count (map table_at (slice_set places k q)) (map view_at (slice_set places k q)))
      is_missed_at missed = changes_at 0 count (λ v w. w ≡ missing v) (omega arith) missed
