-- What a service's lock keeps, and what a seat counts, over a call.
use Rattle.std.proofs.Common.{◌≡◌, ◌<◌, ◌≤◌, ◌+◌, ◌-◌, ◌^◌, ℕ, suc, Bool, true, false, if◌then◌else◌, List, Ok, Err, arith, ap}
use Rattle.service_profile.specs.Calls.{CallData, CallAnswer, applies, looks, reads, pages, cuts, rolls, replies, finds, shows, hands, IsCalled}
use Rattle.service_profile.specs.Events.{History}
use Rattle.service_profile.specs.Histories.{past_of, next_line}
use Rattle.service_profile.specs.Machine.{is_entered}
use Rattle.book.specs.Counts.{made_by, cuts_by, HasRoomFor}
use Rattle.book.specs.Good.{IsGood}
use Rattle.book.proofs.Counting.{calls_counted}
use Rattle.desk.specs.Calls.{seat_after}
use Rattle.desk.specs.Kept.{IsOfOne, IsKept, most_cuts}
use Rattle.desk.specs.Seats.{SeatData, seat_of}
use Rattle.desk.specs.Services.{ServiceData}
use Rattle.desk.proofs.Descent.{of_same, applied_opening, rolled_opening, of_cut, none_cut, has_left}

module _ (services : List ServiceData) (seat : ℕ) (before after : History) where
  -- whose history it is, and how many of its cuts' tokens are left
  abbrev pub IsOfWith : ℕ → Type 0
  IsOfWith left = (number : ℕ) × IsOfOne services number after × (left + number ≡ most_cuts)

  stays : (left number : ℕ) → after.opening ≡ before.opening → IsOfOne services number before → left + number ≡ most_cuts → IsOfWith left
  stays left number same of_ all = (number, of_same services number before after same of_, all)

  -- the token of a cut that handed out entries is given away
  pub of_on : (c : CallData) (given : CallAnswer) (number left staying : ℕ) → IsGood before → IsCalled seat before c given after → IsOfOne services number before → left + number ≡ most_cuts → staying + cuts_by c given ≡ left → IsOfWith staying
  of_on (applies moment event) (replies r) number left staying good did of_ all kept = stays staying number (applied_opening before seat moment event r after did) of_ (omega (arith, all, kept))
  of_on (looks ticket) (finds found) number left staying good did of_ all kept = stays staying number (ap (λ (h : History). h.opening) did.1) of_ (omega (arith, all, kept))
  of_on (reads moment) (shows shown) number left staying good did of_ all kept = stays staying number (ap (λ (h : History). h.opening) did.1) of_ (omega (arith, all, kept))
  of_on (pages from) (hands found) number left staying good did of_ all kept = stays staying number (ap (λ (h : History). h.opening) did.1) of_ (omega (arith, all, kept))
  of_on cuts (hands (Ok lines)) number left staying good did of_ all kept = (suc number, of_cut services number before lines after good did of_, omega (arith, all, kept))
  of_on cuts (hands (Err refused)) number left staying good did of_ all kept = stays staying number (ap (λ (h : History). h.opening) (none_cut before refused after did)) of_ (omega (arith, all, kept))
  of_on (rolls last) (hands found) number left staying good did of_ all kept = stays staying number (rolled_opening before last found after did) of_ (omega (arith, all, kept))
  of_on c given number left staying good did of_ all kept = absurd did

  -- that token was left
  pub cuts_left : (c : CallData) (given : CallAnswer) (number left : ℕ) → IsGood before → IsCalled seat before c given after → IsOfOne services number before → left + number ≡ most_cuts → cuts_by c given ≤ left
  cuts_left (applies moment event) (replies r) number left good did of_ all = omega arith
  cuts_left (looks ticket) (finds found) number left good did of_ all = omega arith
  cuts_left (reads moment) (shows shown) number left good did of_ all = omega arith
  cuts_left (pages from) (hands found) number left good did of_ all = omega arith
  cuts_left cuts (hands (Ok lines)) number left good did of_ all = has_left services number left before lines after good did of_ all
  cuts_left cuts (hands (Err refused)) number left good did of_ all = omega arith
  cuts_left (rolls last) (hands found) number left good did of_ all = omega arith
  cuts_left c given number left good did of_ all = absurd did

  -- what the lock keeps
  pub kept_on : (c : CallData) (given : CallAnswer) (entry_parts entries cut_parts cuts_kept entry_parts_after entries_after cut_parts_after cuts_after : ℕ) → IsKept services before entry_parts entries cut_parts cuts_kept → IsCalled seat before c given after → IsGood after
      → entry_parts_after ≡ 1 → cut_parts_after ≡ 1 → entries_after + made_by c given ≡ entries → cuts_after + cuts_by c given ≡ cuts_kept → IsKept services after entry_parts_after entries_after cut_parts_after cuts_after
  kept_on c given entry_parts entries cut_parts cuts_kept entry_parts_after entries_after cut_parts_after cuts_after kept did good one_entry_part one_cut_part made cut =
      let counted : next_line (past_of after) ≡ next_line (past_of before) + made_by c given = calls_counted seat before c given after did in
      let of_ = kept.of_service in
      record {
        good = good;
        one_part = (one_entry_part, one_cut_part);
        counted = omega (arith, counted, made, kept.counted);
        of_service = of_on c given of_.0 cuts_kept cuts_after kept.good did of_.1 of_.2 cut;
      }

-- what the seat counts
pub seat_is : (seat : SeatData) (before after : History) (c : CallData) (given : CallAnswer) → IsCalled seat.number before c given after
    → seat_of seat.number (seat.count + made_by c given) (seat.cuts + cuts_by c given) ≡ seat_after seat c given
seat_is seat before after (applies moment event) (replies r) did = let e : seat.cuts + 0 ≡ seat.cuts = omega arith in ap (seat_of seat.number _) e
seat_is seat before after (looks ticket) (finds found) did = let e : seat.cuts + 0 ≡ seat.cuts = omega arith in let n : seat.count + 0 ≡ seat.count = omega arith in λ i. seat_of seat.number (n i) (e i)
seat_is seat before after (reads moment) (shows shown) did = let e : seat.cuts + 0 ≡ seat.cuts = omega arith in let n : seat.count + 0 ≡ seat.count = omega arith in λ i. seat_of seat.number (n i) (e i)
seat_is seat before after (pages from) (hands found) did = let e : seat.cuts + 0 ≡ seat.cuts = omega arith in let n : seat.count + 0 ≡ seat.count = omega arith in λ i. seat_of seat.number (n i) (e i)
seat_is seat before after cuts (hands (Ok lines)) did = let n : seat.count + 0 ≡ seat.count = omega arith in λ i. seat_of seat.number (n i) (seat.cuts + 1)
seat_is seat before after cuts (hands (Err refused)) did = let n : seat.count + 0 ≡ seat.count = omega arith in λ i. seat_of seat.number (n i) (seat.cuts + 0)
seat_is seat before after (rolls last) (hands found) did = let e : seat.cuts + 0 ≡ seat.cuts = omega arith in let n : seat.count + 0 ≡ seat.count = omega arith in λ i. seat_of seat.number (n i) (e i)
seat_is seat before after c given did = absurd did

few_made : (b : Bool) (count : ℕ) → count < 2 ^ 64 - 8 → count + (if b then 1 else 0) < 2 ^ 64
few_made true count room = omega (arith, room)
few_made false count room = omega (arith, room)

-- there is room for its entry
pub room_on : (number count : ℕ) (before after : History) (c : CallData) (given : CallAnswer) → count < 2 ^ 64 → HasRoomFor count c → IsCalled number before c given after → count + made_by c given < 2 ^ 64
room_on number count before after (applies moment event) (replies r) small room did = few_made (is_entered r) count room
room_on number count before after (looks ticket) (finds found) small room did = omega (arith, small)
room_on number count before after (reads moment) (shows shown) small room did = omega (arith, small)
room_on number count before after (pages from) (hands found) small room did = omega (arith, small)
room_on number count before after cuts (hands found) small room did = omega (arith, small)
room_on number count before after (rolls last) (hands found) small room did = omega (arith, small)
room_on number count before after c given small room did = absurd did
