-- Each step keeps the rule.
use Rattle.std.proofs.Common.{◌≡◌, ◌≢◌, ◌⊎◌, ℕ, zero, suc, ◌+◌, ◌<◌, ◌==◌, List, [], ◌∷◌, ◌++◌, length, set, Bool, append-nil, true, false, refl, sym, ap, ◌∙◌, subst, ⊎_elim, inl, inr, arith, Some, None}
use Rattle.std.specs.Prelude.{slice_index, slice_set}
use mathlib.Core.Option.{Option, some, none, some-injective, some-ne-none}
use lib.ListN.{get_elem?}
use prog.Atomic.{either}
use Rattle.atomic_table.specs.Table.{State, Me, Step, Act, keeps, takes, gives, Allows, Splits, Joins, Valid, stepped, carried_after}
use Rattle.atomic_table.proofs.Lists.{set_else, at_longer, set_again}
use Rattle.service_profile.specs.Events.{History}
use Rattle.book.specs.Good.{IsGood}
use Rattle.book_slot.specs.Origins.{IsOf}
use Rattle.service_profile.specs.Seats.{lines_of}
use Rattle.std.specs.Prelude as prelude
use Rattle.book_slot.specs.declared.view.Trace.{Trace}
use Rattle.book_slot.specs.declared.view.View.{View}
use Rattle.book_slot.specs.Rules.{dealer, dealt, dealt_to, gathered, note, informed, putting, Each, OnlyHolder, AtHome, IsOut, trace_of, traces_in, traces_of, Fits, card, traces_by, Agree, Pairs, Kept, Took, Grows, MayPut, Put, Met}
use Rattle.book_slot.specs.Seen.{at_first, goes_on}
use Rattle.book_slot.specs.Courses.{Course, IsCourseOf, EachBegins, IsMadeBy}
use Rattle.book_slot.specs.Trying.{spent, taking, missing}
use Rattle.book_slot.specs.Left.{AreMadeBy}
use Rattle.book_slot.proofs.Histories.{period_of, begins_itself, found_grown, none_grown, renewed, renewed_last, renewed_good, past_grown, seen_grown, all_grown, past_itself, seen_snoc, past_snoc, begin_one}
use Rattle.book_slot.proofs.Traces.{traces_same, traces_more, traces_all, made_dealt, made_taken, made_put, made_joined}
use Rattle.book_slot.proofs.Views.{off, never, is_false, set_same, same_at, at_end, places_set, each_set, each_more, pairs_set, pairs_more, parts_set, parts_more, parts_both}

abbrev pub held_of : History → List (ℕ × History) → History
held_of other [] = other
held_of other (x ∷ xs) = x.1

grows_from : (number : ℕ) (now y : History) (seen : prelude.Option History) → seen ≡ Some now → ((history : History) × (seen ≡ Some history) × Grows number history y) → Grows number now y
grows_from number now y seen is g = let e : ◌≡◌ {A = prelude.Option History} (Some g.0) (Some now) = sym g.1 ∙ is in let same : g.0 ≡ now = cc in subst (λ (h : History). Grows number h y) same g.2

-- where a seat's view is changed that does not hold the book, and does not hold it afterwards, the holder stays
holder_set : (views : List View) (id : ℕ) (v w : View) (who : ℕ) (log : History) → get_elem? views id ≡ some v → v.holds ≡ false → w.holds ≡ false → OnlyHolder views who log → OnlyHolder (set views id w) who log
holder_set views id v w who log here idle still only =
    let u = only.0.0 in
    let ne : who ≢ id = λ is. off u.holds only.0.2 (ap (λ (z : View). z.holds) (same_at views id u v (subst (λ k. get_elem? views k ≡ some u) is only.0.1) here) ∙ idle) in
    ((u, set_else views id who w ne ∙ only.0.1, only.0.2, only.0.3, only.0.4), places_set (λ j x. x.holds ≡ true → j ≡ who) views id w (λ j x _ e t. only.1 j x e t) (λ t. absurd (off w.holds t still)))

holder_more : (views : List View) (w : View) (who : ℕ) (log : History) → w.holds ≡ false → OnlyHolder views who log → OnlyHolder (views ++ w ∷ []) who log
holder_more views w who log still only =
    ((only.0.0, at_longer views (w ∷ []) who only.0.0 only.0.1, only.0.2, only.0.3, only.0.4), λ j x e t. ⊎_elim (λ f. only.1 j x f t) (λ (p : (j ≡ length views) × (w ≡ x)). absurd (off x.holds t (ap (λ (z : View). z.holds) (sym p.1) ∙ still))) (at_end views w x j e))

-- where the book is stays as it was, where a view changes that does not hold it
place_set : (ws : List ℕ) (hs : List (Option History)) (views : List View) (log : History) (id : ℕ) (v w : View) → get_elem? views id ≡ some v → v.holds ≡ false → w.holds ≡ false
    → AtHome record { words = ws; homes = hs; views = views } log ⊎ IsOut record { words = ws; homes = hs; views = views } log
    → AtHome record { words = ws; homes = hs; views = set views id w } log ⊎ IsOut record { words = ws; homes = hs; views = set views id w } log
place_set ws hs views log id v w here idle still (inl h) = inl (h.0, h.1, each_set (λ x. x.holds ≡ false) views id w h.2 still)
place_set ws hs views log id v w here idle still (inr h) = inr (h.0, h.1, (h.2.0, holder_set views id v w h.2.0 log here idle still h.2.1))

place_more : (ws : List ℕ) (hs : List (Option History)) (views : List View) (log : History) (w : View) → w.holds ≡ false
    → AtHome record { words = ws; homes = hs; views = views } log ⊎ IsOut record { words = ws; homes = hs; views = views } log
    → AtHome record { words = ws; homes = hs; views = views ++ w ∷ [] } log ⊎ IsOut record { words = ws; homes = hs; views = views ++ w ∷ [] } log
place_more ws hs views log w still (inl h) = inl (h.0, h.1, each_more (λ x. x.holds ≡ false) views w h.2 still)
place_more ws hs views log w still (inr h) = inr (h.0, h.1, (h.2.0, holder_more views w h.2.0 log still h.2.1))

good_now : {origin : prelude.Option History} (s : State History View) (kept : Kept origin s) → IsOf origin kept.now
good_now {origin = origin} s kept = subst (IsOf origin) kept.current (kept.good (period_of kept.now))

pub takes_step : {origin : prelude.Option History} (st : Step History) (id : ℕ) (v : View) → v.sits ≡ true → v.holds ≡ false → 0 < v.parts → Allows (Kept origin) 1 id (v, []) 0 (λ n. either (n == 1) 0 n) (Took st (v, []))
takes_step {origin = origin} st id v sits idle backed s kept one here small = ⊎_elim home out kept.place
  where
    home : AtHome s kept.now → (w : View) × (a : Act History) × Valid s.homes [] a × Kept origin (stepped s 0 (either (slice_index s.words 0 == 1) 0 (slice_index s.words 0)) id [] w a) × Took st (v, []) (slice_index s.words 0) (w, carried_after [] a)
    home h =
        let now = kept.now in
        let w = taking v now in
        let all = kept.fits id v here in
        let f = all.seat sits in
        let sum = parts_set s.views id v w here in (
          w,
          takes 0 now,
          ap (λ l. get_elem? l 0) h.1,
          record {
            now = now;
            past = kept.past;
            current = kept.current;
            good = kept.good;
            place = inr (
              ap (λ ws. slice_set ws 0 (either (slice_index ws 0 == 1) 0 (slice_index ws 0))) h.0,
              ap (λ hs. slice_set hs 0 none) h.1,
              (
                id,
                ((w, set_same s.views id v w here, refl, sits, refl), places_set (λ j u. u.holds ≡ true → j ≡ id) s.views id w (λ j u ne e t. absurd (off u.holds t (h.2 j u e))) (λ _. refl)),
              ),
            );
            fits = each_set (Fits origin kept.past now) s.views id w kept.fits record { seat = λ _. (goes_on now refl (begins_itself now) refl, past_itself kept.past now kept.current, f.2, seen_snoc kept.past now v.all_seen now f.3 (past_itself kept.past now kept.current)); told = all.told; known = all.known; source = all.source; fresh = all.fresh; backed = λ _. backed; bare = λ e. absurd (omega (arith, backed, e)) };
            pairs = pairs_set s.views id v w here (inl refl) kept.pairs;
            parts = omega (arith, sum, kept.parts);
            made = made_taken kept.past now s.views id v here kept.current kept.made;
          },
          ((λ _. (now, subst (λ (o : prelude.Option History). IsOf o now) (sym f.2) (good_now s kept), f.0, refl, refl)), (λ ne. absurd (ne (ap (λ ws. slice_index ws 0) h.0)))),
        )

    out : IsOut s kept.now → (w : View) × (a : Act History) × Valid s.homes [] a × Kept origin (stepped s 0 (either (slice_index s.words 0 == 1) 0 (slice_index s.words 0)) id [] w a) × Took st (v, []) (slice_index s.words 0) (w, carried_after [] a)
    out h =
        let now = kept.now in
        let w = missing v in
        let all = kept.fits id v here in
        let sum = parts_set s.views id v w here in (
          w,
          keeps,
          tt,
          record {
            now = now;
            past = kept.past;
            current = kept.current;
            good = kept.good;
            place = inr (
              ap (λ ws. slice_set ws 0 (either (slice_index ws 0 == 1) 0 (slice_index ws 0))) h.0,
              h.1,
              (h.2.0, holder_set s.views id v w h.2.0 now here idle idle h.2.1),
            );
            fits = each_set (Fits origin kept.past now) s.views id w kept.fits record { seat = all.seat; told = all.told; known = all.known; source = all.source; fresh = all.fresh; backed = all.backed; bare = all.bare };
            pairs = pairs_set s.views id v w here (inl refl) kept.pairs;
            parts = omega (arith, sum, kept.parts);
            made = subst (AreMadeBy origin kept.past now) (sym (traces_same s.views id v w here refl)) kept.made;
          },
          ((λ is. absurd (omega (arith, is, ap (λ ws. slice_index ws 0) h.0))), (λ _. (refl, refl))),
        )

-- what another seat knows stays true of what the holder puts
fits_grown : {origin : prelude.Option History} (past : ℕ → History) (now y : History) (by : ℕ) (u : View) → past (period_of now) ≡ now → Grows by now y → (u.sits ≡ true → by ≢ u.number) → (u.deals ≡ true → by < u.next) → Fits origin past now u → Fits origin (renewed past y) y u
fits_grown {origin = origin} past now y by u current grows ne low f = record {
  seat = λ sits. (found_grown u.seen u.number u.mine by now y (ne sits) grows (f.seat sits).0, past_grown past by now y current grows u.seen (f.seat sits).1, (f.seat sits).2, seen_grown past by now y current grows u.all_seen (f.seat sits).3);
  told = past_grown past by now y current grows u.told f.told;
  known = all_grown past by now y current grows u.known f.known;
  source = f.source;
  fresh = λ deals n le. let l = low deals in none_grown n by now y (λ is. absurd (omega (arith, l, le, is))) grows (f.fresh deals n le);
  backed = f.backed;
  bare = f.bare;
}

pub puts_step : {origin : prelude.Option History} (st : Step History) (id : ℕ) (v : View) (y : History) → v.sits ≡ true → v.holds ≡ true → MayPut v y → Allows (Kept origin) 1 id (v, (0, y) ∷ []) 0 (λ _. 1) (Put st (v, (0, y) ∷ []))
puts_step {origin = origin} st id v y sits holds may s kept one here small = ⊎_elim (λ (h : AtHome s kept.now). absurd (off v.holds holds (h.2 id v here))) out kept.place
  where
    out : IsOut s kept.now → (w : View) × (a : Act History) × Valid s.homes ((0, y) ∷ []) a × Kept origin (stepped s 0 1 id ((0, y) ∷ []) w a) × Put st (v, (0, y) ∷ []) (slice_index s.words 0) (w, carried_after ((0, y) ∷ []) a)
    out h =
        let now = kept.now in
        let past = kept.past in
        let w = putting v y in
        let who = h.2.0 in
        let only = h.2.1 in
        let me : id ≡ who = only.1 id v here holds in
        let u = only.0.0 in
        let same_view : u ≡ v = same_at s.views id u v (subst (λ k. get_elem? s.views k ≡ some u) (sym me) only.0.1) here in
        let seen : v.seen ≡ Some now = ap (λ (z : View). z.seen) (sym same_view) ∙ only.0.4 in
        let grows : Grows v.number now y = grows_from v.number now y v.seen seen may.1 in
        let sum = parts_set s.views id v w here in
        let others : (j : ℕ) (x : View) → j ≢ id → get_elem? s.views j ≡ some x → Fits origin (renewed past y) y x = λ j x ne e. fits_grown past now y v.number x kept.current grows (λ t is. ne ((kept.pairs j id x v e here).apart t sits (sym is))) (λ t. (kept.pairs j id x v e here).below t sits) (kept.fits j x e) in
        let all = kept.fits id v here in
        let mine = fits_grown past now y v.number (record v { sits = false }) kept.current grows (λ t. absurd (never t)) (λ t. (kept.pairs id id v v here here).below t sits) record { seat = λ t. absurd (never t); told = all.told; known = all.known; source = all.source; fresh = all.fresh; backed = all.backed; bare = λ e. absurd (omega (arith, all.backed holds, e)) } in
        let last : renewed past y (period_of y) ≡ y = renewed_last past y (period_of y) refl in (
          w,
          gives,
          tt,
          record {
            now = y;
            past = renewed past y;
            current = last;
            good = renewed_good (IsOf origin) past y (subst (λ (o : prelude.Option History). IsOf o y) (all.seat sits).2 may.0) kept.good;
            place = inl (
              ap (λ ws. slice_set ws 0 1) h.0,
              ap (λ hs. slice_set hs 0 (some y)) h.1,
              places_set (λ j x. x.holds ≡ false) s.views id w (λ j x ne e. is_false x.holds (λ t. ne (only.1 j x e t ∙ sym me))) refl,
            );
            fits = places_set (λ j x. Fits origin (renewed past y) y x) s.views id w others record { seat = λ _. (goes_on y refl (begins_itself y) refl, past_itself (renewed past y) y last, (all.seat sits).2, seen_snoc (renewed past y) y v.all_seen y (seen_grown past v.number now y kept.current grows v.all_seen (all.seat sits).3) (past_itself (renewed past y) y last)); told = mine.told; known = mine.known; source = mine.source; fresh = mine.fresh; backed = λ t. absurd (never t); bare = λ e. absurd (omega (arith, all.backed holds, e)) };
            pairs = pairs_set s.views id v w here (inl refl) kept.pairs;
            parts = omega (arith, sum, kept.parts);
            made = made_put past now y s.views id v here sits seen kept.current grows kept.made;
          },
          λ l is. (ap (λ c. putting v (held_of y c)) is, refl),
        )

-- which view stands at a place after a deal: one of the others, the dealer or the new seat
abbrev Which : List View → ℕ → View → ℕ → ℕ → View → Type 0
Which views id v len i z = ((get_elem? views i ≡ some z) × (i ≢ id)) ⊎ (((i ≡ id) × (z ≡ dealt v)) ⊎ ((i ≡ len) × (z ≡ dealt_to v)))

agree_at : (j k : ℕ) (x x' y y' : View) → x ≡ x' → y ≡ y' → Agree j k (card x') (card y') → Agree j k (card x) (card y)
agree_at j k x x' y y' p q = subst (λ (z : View × View). Agree j k (card z.0) (card z.1)) (λ i. (sym p i, sym q i))

deal_pick : (views : List View) (id : ℕ) (v : View) (len : ℕ) → Pairs views → get_elem? views id ≡ some v → v.sits ≡ false → v.deals ≡ true → (j k : ℕ) (x y : View) → Which views id v len j x → Which views id v len k y → Agree j k (card x) (card y)
deal_pick views id v len pairs here stands deals j k x y (inl p) (inl q) = pairs j k x y p.0 q.0
deal_pick views id v len pairs here stands deals j k x y (inl p) (inr (inl q)) =
    agree_at j k x x y (dealt v) refl q.1 record { apart = λ a b n. absurd (off v.sits b stands); below = λ a b. absurd (off v.sits b stands); one = λ a b. (pairs j id x v p.0 here).one a b ∙ sym q.0 }
deal_pick views id v len pairs here stands deals j k x y (inl p) (inr (inr q)) =
    agree_at j k x x y (dealt_to v) refl q.1
    record { apart = λ a b n. let l = (pairs id j v x here p.0).below deals a in absurd (omega (arith, l, n)); below = λ a b. absurd (p.1 ((pairs j id x v p.0 here).one a deals)); one = λ a b. absurd (never b) }
deal_pick views id v len pairs here stands deals j k x y (inr (inl p)) (inl q) =
    agree_at j k x (dealt v) y y p.1 refl
    record { apart = λ a b n. absurd (off v.sits a stands); below = λ a b. let l = (pairs id k v y here q.0).below deals b in omega (arith, l); one = λ a b. p.0 ∙ (pairs id k v y here q.0).one deals b }
deal_pick views id v len pairs here stands deals j k x y (inr (inl p)) (inr (inl q)) =
    agree_at j k x (dealt v) y (dealt v) p.1 q.1 record { apart = λ a b n. absurd (off v.sits a stands); below = λ a b. absurd (off v.sits b stands); one = λ a b. p.0 ∙ sym q.0 }
deal_pick views id v len pairs here stands deals j k x y (inr (inl p)) (inr (inr q)) =
    agree_at j k x (dealt v) y (dealt_to v) p.1 q.1 record { apart = λ a b n. absurd (off v.sits a stands); below = λ a b. omega arith; one = λ a b. absurd (never b) }
deal_pick views id v len pairs here stands deals j k x y (inr (inr p)) (inl q) =
    agree_at j k x (dealt_to v) y y p.1 refl
    record { apart = λ a b n. let l = (pairs id k v y here q.0).below deals b in absurd (omega (arith, l, n)); below = λ a b. absurd (never a); one = λ a b. absurd (never a) }
deal_pick views id v len pairs here stands deals j k x y (inr (inr p)) (inr (inl q)) =
    agree_at j k x (dealt_to v) y (dealt v) p.1 q.1 record { apart = λ a b n. absurd (off v.sits b stands); below = λ a b. absurd (never a); one = λ a b. absurd (never a) }
deal_pick views id v len pairs here stands deals j k x y (inr (inr p)) (inr (inr q)) =
    agree_at j k x (dealt_to v) y (dealt_to v) p.1 q.1 record { apart = λ a b n. p.0 ∙ sym q.0; below = λ a b. absurd (never a); one = λ a b. absurd (never a) }

deal_which : (views : List View) (id : ℕ) (v : View) (i : ℕ) (z : View) → get_elem? (set views id (dealt v) ++ dealt_to v ∷ []) i ≡ some z → Which views id v (length (set views id (dealt v))) i z
deal_which views id v i z e =
    ⊎_elim
    (λ f. places_set (λ n x. Which views id v (length (set views id (dealt v))) n x) views id (dealt v) (λ n x ne g. inl (g, ne)) (inr (inl (refl, refl))) i z f)
    (λ (p : (i ≡ length (set views id (dealt v))) × (dealt_to v ≡ z)). inr (inr (p.0, sym p.1)))
    (at_end (set views id (dealt v)) (dealt_to v) z i e)

pub deals_step : {origin : prelude.Option History} (id : ℕ) (v : View) → v.sits ≡ false → v.holds ≡ false → v.deals ≡ true → 1 < v.parts → Splits (Kept origin) id v (dealt v) (dealt_to v)
deals_step {origin = origin} id v stands idle deals some_left s kept here =
    let now = kept.now in
    let views = set s.views id (dealt v) in
    let all = kept.fits id v here in
    let sum = parts_set s.views id v (dealt v) here in
    let more = parts_more views (dealt_to v) in
    record {
      now = now;
      past = kept.past;
      current = kept.current;
      good = kept.good;
      place = place_more s.words s.homes views now (dealt_to v) refl (place_set s.words s.homes s.views now id v (dealt v) here idle idle kept.place);
      fits = each_more (Fits origin kept.past now) views (dealt_to v)
          (each_set (Fits origin kept.past now) s.views id (dealt v) kept.fits record { seat = all.seat; told = all.told; known = all.known; source = all.source; fresh = λ d n le. all.fresh d n (omega (arith, le)); backed = λ t. absurd (off v.holds t idle); bare = λ e. absurd (omega (arith, some_left, e)) })
          record { seat = λ _. (at_first refl (all.fresh deals v.next (omega arith)), tt, all.source deals, tt); told = tt; known = tt; source = λ d. absurd (never d); fresh = λ d. absurd (never d); backed = λ t. absurd (never t); bare = λ e. absurd (omega (arith, e)) };
      pairs = λ j k x y ej ek. deal_pick s.views id v (length views) kept.pairs here stands deals j k x y (deal_which s.views id v j x ej) (deal_which s.views id v k y ek);
      parts = omega (arith, sum, more, kept.parts);
      made = subst (AreMadeBy origin kept.past now) (sym (traces_more views (dealt_to v) ∙ ap (λ ts. ts ++ traces_in (dealt_to v)) (traces_same s.views id v (dealt v) here refl))) (made_dealt kept.past now (traces_of s.views) v kept.made);
    }

-- two views change, of which neither holds the book: one takes the other's in
joins_step : {origin : prelude.Option History} (id : ℕ) (v : View) (other : ℕ) (w both : View) → v.holds ≡ false → w.holds ≡ false → both.holds ≡ false → card both ≡ card v → both.parts ≡ v.parts + w.parts → traces_in both ≡ traces_in v ++ traces_in w → ((past : ℕ → History) (now : History) → Fits origin past now v → Fits origin past now w → Fits origin past now both) → Joins (Kept origin) id v other w both spent
joins_step {origin = origin} id v other w both idle still after same parts traces fits s kept here apart there =
    let now = kept.now in
    let views = set s.views id both in
    let was : get_elem? s.views other ≡ some w = sym (set_else s.views id other both apart) ∙ there in
    let one = parts_set s.views id v both here in
    let two = parts_set views other w spent there in
    record {
      now = now;
      past = kept.past;
      current = kept.current;
      good = kept.good;
      place = place_set s.words s.homes views now other w spent there still refl (place_set s.words s.homes s.views now id v both here idle after kept.place);
      fits = each_set (Fits origin kept.past now) views other spent
          (each_set (Fits origin kept.past now) s.views id both kept.fits (fits kept.past now (kept.fits id v here) (kept.fits other w was)))
          record { seat = λ t. absurd (never t); told = tt; known = tt; source = λ d. absurd (never d); fresh = λ d. absurd (never d); backed = λ t. absurd (never t); bare = λ _. refl };
      pairs = pairs_set views other w spent there (inr refl) (pairs_set s.views id v both here (inl same) kept.pairs);
      parts = omega (arith, one, two, parts, kept.parts);
      made = made_joined s.views id v other w both here was apart traces kept.past now kept.made;
    }

-- a view without parts has no traces, where it takes in another's parts and traces
both_bare : (v w both : View) → traces_in both ≡ traces_in v ++ traces_in w → (v.parts ≡ 0 → traces_in v ≡ []) → (w.parts ≡ 0 → traces_in w ≡ []) → v.parts + w.parts ≡ 0 → traces_in both ≡ []
both_bare v w both traces f g e = traces ∙ (λ i. f (omega (arith, e)) i ++ g (omega (arith, e)) i)

gathered_traces : (v w : View) → v.sits ≡ false → w.sits ≡ true → traces_in (gathered v w) ≡ traces_in v ++ traces_in w
gathered_traces v w stands sits =
    let one : traces_in (gathered v w) ≡ v.known ++ trace_of w ∷ [] = ap (λ (b : Bool). traces_by b (trace_of (gathered v w)) (v.known ++ trace_of w ∷ [])) stands in
    let two : traces_in v ≡ v.known = ap (λ (b : Bool). traces_by b (trace_of v) v.known) stands in
    let three : traces_in w ≡ trace_of w ∷ [] = ap (λ (b : Bool). traces_by b (trace_of w) w.known) sits in
    one ∙ (λ i. sym two i ++ sym three i)

-- the dealer takes a seat back
pub gathers_step : {origin : prelude.Option History} (id : ℕ) (v : View) (other : ℕ) (w : View) → v.holds ≡ false → v.sits ≡ false → w.holds ≡ false → w.sits ≡ true → Joins (Kept origin) id v other w (gathered v w) spent
gathers_step {origin = origin} id v other w idle stands still sits =
    let traces : traces_in (gathered v w) ≡ traces_in v ++ traces_in w = gathered_traces v w stands sits in
    joins_step id v other w (gathered v w) idle still idle refl refl traces
    (λ past now f g. record { seat = λ t. absurd (off v.sits t stands); told = f.told; known = past_snoc past now v.known (trace_of w) f.known (g.seat sits).3; source = f.source; fresh = f.fresh; backed = λ t. absurd (off v.holds t idle); bare = both_bare v w (gathered v w) traces f.bare g.bare })

-- a note of what a seat has seen
pub notes_step : {origin : prelude.Option History} (id : ℕ) (v : View) → v.sits ≡ true → Splits (Kept origin) id v v (note v)
notes_step {origin = origin} id v sits s kept here =
    let now = kept.now in
    let all = kept.fits id v here in
    let same = set_again s.views id v here in
    let more = parts_more s.views (note v) in
    subst (λ l. Kept origin record { words = s.words; homes = s.homes; views = l ++ note v ∷ [] }) (sym same) record {
      now = now;
      past = kept.past;
      current = kept.current;
      good = kept.good;
      place = place_more s.words s.homes s.views now (note v) refl kept.place;
      fits = each_more (Fits origin kept.past now) s.views (note v) kept.fits record { seat = λ t. absurd (never t); told = (all.seat sits).1; known = tt; source = λ d. absurd (never d); fresh = λ d. absurd (never d); backed = λ t. absurd (never t); bare = λ _. refl };
      pairs = pairs_more s.views (note v) refl kept.pairs;
      parts = omega (arith, more, kept.parts);
      made = subst (AreMadeBy origin kept.past now) (sym (traces_more s.views (note v) ∙ append-nil (traces_of s.views))) kept.made;
    }

pub informs_step : {origin : prelude.Option History} (id : ℕ) (v : View) (other : ℕ) (w : View) → v.holds ≡ false → w.holds ≡ false → w.parts ≡ 0 → traces_in w ≡ [] → Joins (Kept origin) id v other w (informed v w) spent
informs_step {origin = origin} id v other w idle still none_left bare =
    joins_step id v other w (informed v w) idle still idle refl (omega (arith, none_left)) (sym (append-nil (traces_in v)) ∙ ap (λ ts. traces_in v ++ ts) (sym bare))
    (λ past now f g. record { seat = f.seat; told = g.told; known = f.known; source = f.source; fresh = f.fresh; backed = λ t. absurd (off v.holds t idle); bare = f.bare })

place_still : (ws : List ℕ) (hs : List (Option History)) (views : List View) (log : History) (id : ℕ) (v w : View) → get_elem? views id ≡ some v → v.holds ≡ false → w.holds ≡ false
    → AtHome record { words = ws; homes = hs; views = views } log ⊎ IsOut record { words = ws; homes = hs; views = views } log
    → AtHome record { words = slice_set ws 0 (slice_index ws 0); homes = hs; views = set views id w } log ⊎ IsOut record { words = slice_set ws 0 (slice_index ws 0); homes = hs; views = set views id w } log
place_still ws hs views log id v w here idle still (inl h) = inl (ap (λ l. slice_set l 0 (slice_index l 0)) h.0, h.1, each_set (λ x. x.holds ≡ false) views id w h.2 still)
place_still ws hs views log id v w here idle still (inr h) = inr (ap (λ l. slice_set l 0 (slice_index l 0)) h.0, h.1, (h.2.0, holder_set views id v w h.2.0 log here idle still h.2.1))

pub meets_step : {origin : prelude.Option History} (st : Step History) (id : ℕ) (v : View) → v.sits ≡ true → v.holds ≡ false → Allows (Kept origin) 1 id (v, []) 0 (λ n. n) (Met st (v, []))
meets_step {origin = origin} st id v sits idle s kept one here small =
    let now = kept.now in
    let w = record v { told = None } in
    let all = kept.fits id v here in
    let sum = parts_set s.views id v w here in (
      w,
      keeps,
      tt,
      record {
        now = now;
        past = kept.past;
        current = kept.current;
        good = kept.good;
        place = place_still s.words s.homes s.views now id v w here idle idle kept.place;
        fits = each_set (Fits origin kept.past now) s.views id w kept.fits record { seat = all.seat; told = tt; known = all.known; source = all.source; fresh = all.fresh; backed = all.backed; bare = all.bare };
        pairs = pairs_set s.views id v w here (inl refl) kept.pairs;
        parts = omega (arith, sum, kept.parts);
        made = subst (AreMadeBy origin kept.past now) (sym (traces_same s.views id v w here refl)) kept.made;
      },
      (refl, refl, begin_one kept.past now v.seen v.told (λ period. (kept.good period).good) (all.seat sits).1 all.told),
    )

-- the last history is good, as all are
pub last_good : (origin : prelude.Option History) (course : Course) → IsCourseOf origin course → IsOf origin course.last
last_good origin course is = subst (IsOf origin) is.current (is.good (period_of course.last))

-- who has all parts knows that the book is at home, where it does not hold it
pub closes : {origin : prelude.Option History} (s : State History View) (id : ℕ) (v : View) → Kept origin s → get_elem? s.views id ≡ some v → v.holds ≡ false → v.sits ≡ false → v.deals ≡ true → v.parts ≡ 129 → (course : Course) × IsCourseOf v.origin course × (s.homes ≡ some course.last ∷ []) × EachBegins course v.known × IsMadeBy v.origin course v.known
closes {origin = origin} s id v kept here idle stands deals full = ⊎_elim home out kept.place
  where
    home : AtHome s kept.now → (course : Course) × IsCourseOf v.origin course × (s.homes ≡ some course.last ∷ []) × EachBegins course v.known × IsMadeBy v.origin course v.known
    home h =
        let course : Course = record { past = kept.past; last = kept.now } in
        let is : IsCourseOf origin course = record { current = kept.current; good = kept.good } in
        let of_all : traces_of s.views ≡ v.known = traces_all s.views id v here (λ j u e. (kept.fits j u e).bare) (kept.parts ∙ sym full) ∙ ap (λ (b : Bool). traces_by b (trace_of v) v.known) stands in
        let source : v.origin ≡ origin = (kept.fits id v here).source deals in (
          course,
          subst (λ (o : prelude.Option History). IsCourseOf o course) (sym source) is,
          h.1,
          (kept.fits id v here).known,
          subst (λ (x : prelude.Option History × List Trace). AreMadeBy x.0 kept.past kept.now x.1) (λ i. (sym source i, of_all i)) kept.made,
        )

    out : IsOut s kept.now → (course : Course) × IsCourseOf v.origin course × (s.homes ≡ some course.last ∷ []) × EachBegins course v.known × IsMadeBy v.origin course v.known
    out h =
        let only = h.2.1 in
        let u = only.0.0 in
        let backed = (kept.fits h.2.0 u only.0.1).backed only.0.2 in
        let ne : id ≢ h.2.0 = λ is. off u.holds only.0.2 (ap (λ (z : View). z.holds) (same_at s.views id u v (subst (λ k. get_elem? s.views k ≡ some u) (sym is) only.0.1) here) ∙ idle) in
        let sum = parts_both s.views id h.2.0 v u ne here only.0.1 in
        absurd (omega (arith, backed, sum, full, kept.parts))

-- the table at the start
pub begins : (first : History) → IsGood first → first.lines ≡ [] → Kept (Some first) record { words = 1 ∷ []; homes = some first ∷ []; views = dealer (Some first) 1 129 [] ∷ [] }
begins first good empty = record {
  now = first;
  past = λ _. first;
  current = refl;
  good = λ _. record { good = good; cuts = 0; first = first; is_first = refl; after_cuts = refl };
  place = inl (refl, refl, alone (λ x. x.holds ≡ false) refl);
  fits = alone (Fits (Some first) (λ _. first) first) record { seat = λ t. absurd (never t); told = tt; known = tt; source = λ _. refl; fresh = λ d n le. ap (lines_of n) empty; backed = λ t. absurd (never t); bare = λ _. refl };
  pairs = λ j k x y ej ek. record { apart = λ a b n. head j x ej ∙ sym (head k y ek); below = λ a b. absurd (off y.sits b (ap (λ (z : View). z.sits) (sym (only k y ek)))); one = λ a b. head j x ej ∙ sym (head k y ek) };
  parts = refl;
  made = record { first = first; is_first = refl; left = λ _. inl refl; found = λ x h. absurd h; made = λ _ n. inl (ap (lines_of n) empty); entries = omega arith; cuts = refl };
}
  where
    alone : (P : View → Type 0) → P (dealer (Some first) 1 129 []) → Each P (dealer (Some first) 1 129 [] ∷ [])
    alone P p zero v e = subst P (some-injective _ _ e) p
    alone P p (suc j) v e = absurd (some-ne-none v (sym e))

    head : (j : ℕ) (x : View) → get_elem? (dealer (Some first) 1 129 [] ∷ []) j ≡ some x → j ≡ 0
    head zero x e = refl
    head (suc j) x e = absurd (some-ne-none x (sym e))

    only : (j : ℕ) (x : View) → get_elem? (dealer (Some first) 1 129 [] ∷ []) j ≡ some x → dealer (Some first) 1 129 [] ≡ x
    only zero x e = some-injective _ _ e
    only (suc j) x e = absurd (some-ne-none x (sym e))

-- the steps, at a table and a seat that are known
pub takes_at : {origin : prelude.Option History} (st : Step History) (id slots : ℕ) (m : Me History View) → slots ≡ 1 → m.1 ≡ [] → m.0.sits ≡ true → m.0.holds ≡ false → 0 < m.0.parts → Allows (Kept origin) slots id m 0 (λ n. either (n == 1) 0 n) (Took st m)
takes_at {origin = origin} st id slots m one none_held sits idle backed =
    subst (λ (z : ℕ × List (ℕ × History)). Allows (Kept origin) z.0 id (m.0, z.1) 0 (λ n. either (n == 1) 0 n) (Took st (m.0, z.1))) (λ i. (sym one i, sym none_held i)) (takes_step st id m.0 sits idle backed)

pub puts_at : {origin : prelude.Option History} (st : Step History) (id slots : ℕ) (m : Me History View) (y : History) → slots ≡ 1 → m.1 ≡ (0, y) ∷ [] → m.0.sits ≡ true → m.0.holds ≡ true → MayPut m.0 y → Allows (Kept origin) slots id m 0 (λ _. 1) (Put st m)
puts_at {origin = origin} st id slots m y one held sits holds may =
    subst (λ (z : ℕ × List (ℕ × History)). Allows (Kept origin) z.0 id (m.0, z.1) 0 (λ _. 1) (Put st (m.0, z.1))) (λ i. (sym one i, sym held i)) (puts_step st id m.0 y sits holds may)

pub meets_at : {origin : prelude.Option History} (st : Step History) (id slots : ℕ) (m : Me History View) → slots ≡ 1 → m.1 ≡ [] → m.0.sits ≡ true → m.0.holds ≡ false → Allows (Kept origin) slots id m 0 (λ n. n) (Met st m)
meets_at {origin = origin} st id slots m one none_held sits idle =
    subst (λ (z : ℕ × List (ℕ × History)). Allows (Kept origin) z.0 id (m.0, z.1) 0 (λ n. n) (Met st (m.0, z.1))) (λ i. (sym one i, sym none_held i)) (meets_step st id m.0 sits idle)
