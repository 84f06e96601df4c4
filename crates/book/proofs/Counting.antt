-- The numbers of entries go on by the entries that are made.
use Rattle.std.proofs.Common.{◌≡◌, ℕ, ◌+◌, ◌-◌, ◌^◌, ◌<◌, Bool, true, false, if◌then◌else◌, List, [], ◌∷◌, length, Result, Ok, Err, arith, refl, sym, ap, ◌∙◌, length-append}
use Rattle.refusals.specs.declared.RefusalNumber.{RefusalNumber}
use Rattle.refusals.specs.declared.RefusalNumber.TheVariants as refusal
use Rattle.service_profile.specs.declared.replies.Reply.{Reply}
use Rattle.service_profile.specs.Answers.{answer, line_of, with_line, IsApplied, as_documented, out_of_memory, IsCut, cuts, no_room, after_cut, is_worn_out, is_some_open, reopened, IsRolled, rolls, after_roll, rolled_up_to, lines_up_to}
use Rattle.service_profile.specs.Answers as answers
use Rattle.service_profile.specs.Events.{EventData, EntryData, History, history_of}
use Rattle.service_profile.specs.Histories.{past_of, next_line, situation_of}
use Rattle.service_profile.specs.Machine.{is_entered}
use Rattle.book.proofs.Openings.{next_line_is}
use Rattle.service_profile.specs.Calls.{CallData, CallAnswer, applies, looks, reads, pages, replies, finds, shows, hands, IsCalled}
use Rattle.service_profile.specs.Calls as call
use Rattle.book.specs.Counts.{entries_made, made_by, HasRoomFor}

-- the next number is that behind all lines
next_behind : (h : History) → next_line (past_of h) ≡ h.opening.line + length h.lines
next_behind h = sym (next_line_is h.opening h.lines h.rolled)

one_more : (h : History) (l : EntryData) → next_line (past_of (with_line h l)) ≡ next_line (past_of h) + 1
one_more h l = omega (arith, next_behind h, next_behind (with_line h l), length-append h.lines (l ∷ []))

entered_or_not : (h : History) (l : EntryData) (b : Bool) → next_line (past_of (if b then with_line h l else h)) ≡ next_line (past_of h) + (if b then 1 else 0)
entered_or_not h l true = one_more h l
entered_or_not h l false = omega arith

-- an event's entry is counted
pub entries_counted : (h : History) (seat moment : ℕ) (event : EventData) (r : Reply) (after : History) → IsApplied h seat moment event r after
    → next_line (past_of after) ≡ next_line (past_of h) + entries_made r
entries_counted h seat moment event r after (as_documented is leads) =
    rw (is, leads) (entered_or_not h (line_of h seat moment event) (is_entered (answer h moment event).reply))
entries_counted h seat moment event r after (out_of_memory is entered same) = rw (is, same) (omega arith)

cut_by : (h : History) (worn open_ : Bool)
    → next_line (past_of (after_cut h (if worn then Err refusal.JournalFull else (if open_ then Err refusal.TicketsOpen else Ok (reopened (past_of h)))))) ≡ next_line (past_of h)
cut_by h true open_ = refl
cut_by h false true = refl
cut_by h false false = omega (arith, next_behind (history_of (reopened (past_of h)) []))

-- over a cut the numbers go on
pub cuts_go_on : (h : History) (found : Result (List EntryData) RefusalNumber) (after : History) → IsCut h found after → next_line (past_of after) ≡ next_line (past_of h)
cuts_go_on h found after (cuts is leads) = rw leads (cut_by h (is_worn_out (past_of h)) (is_some_open (situation_of (past_of h)).open_tickets))
cuts_go_on h found after (no_room opening is r same) = rw same refl

-- a roll leaves the opening and the lines
rolled_by : (h : History) (last : ℕ) (worn : Bool) → next_line (past_of (after_roll h last (if worn then Err refusal.JournalFull else Ok (lines_up_to h last)))) ≡ next_line (past_of h)
rolled_by h last true = refl
rolled_by h last false = next_behind (rolled_up_to h last) ∙ sym (next_behind h)

-- over a roll the numbers go on
pub rolls_go_on : (h : History) (last : ℕ) (found : Result (List EntryData) RefusalNumber) (after : History) → IsRolled h last found after → next_line (past_of after) ≡ next_line (past_of h)
rolls_go_on h last found after (rolls is leads) = rw leads (rolled_by h last (is_worn_out (past_of h)))
rolls_go_on h last found after (answers.no_room lines is less r same) = rw same refl

still : (before after : History) → after ≡ before → next_line (past_of after) ≡ next_line (past_of before) + 0
still before after is = let e : next_line (past_of after) ≡ next_line (past_of before) = ap (λ (h : History). next_line (past_of h)) is in omega (arith, e)

-- whatever is called
pub calls_counted : (number : ℕ) (before : History) (c : CallData) (given : CallAnswer) (after : History) → IsCalled number before c given after
    → next_line (past_of after) ≡ next_line (past_of before) + made_by c given
calls_counted number before (applies moment event) (replies r) after did = entries_counted before number moment event r after did
calls_counted number before (looks ticket) (finds found) after did = still before after did.1
calls_counted number before (reads moment) (shows shown) after did = still before after did.1
calls_counted number before (pages from) (hands found) after did = still before after did.1
calls_counted number before call.cuts (hands found) after did = let e = cuts_go_on before found after did in omega (arith, e)
calls_counted number before (call.rolls last) (hands found) after did = let e = rolls_go_on before last found after did in omega (arith, e)
calls_counted number before c given after did = absurd did

-- a count that isn't full has room for the entry of any call
pub room_for : (count : ℕ) (c : CallData) → count < 2 ^ 64 - 8 → HasRoomFor count c
room_for count (applies moment event) room = room
room_for count (looks ticket) room = tt
room_for count (reads moment) room = tt
room_for count (pages from) room = tt
room_for count call.cuts room = tt
room_for count (call.rolls last) room = tt
