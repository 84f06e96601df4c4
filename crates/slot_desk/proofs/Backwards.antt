-- All that a seat had seen before a request begins the histories of its openings, where that holds of all that it has seen after it.
use Rattle.std.proofs.Common.{◌≡◌, ℕ, zero, suc, ◌-◌, List, [], ◌∷◌, Option, Some, Result, Ok, Err, map, sym, subst, inl, inr}
use Rattle.std.specs.Prelude.{slice_get, slice_set}
use Rattle.service.specs.Asked.{RequestData, acquire, report, release, install, move, reset, read, page, cut, roll, ResponseData, replies, refuses_program, shows}
use Rattle.service.specs.Asking.{IsFinishServed, IsServedBy}
use Rattle.service.specs.Upkept.{HasMadeRoom, HasShown, IsKeptBy, AreReleased, HasReleased, IsAcquired, IsLogged, IsUpkept}
use Rattle.service.specs.declared.upkeep.Journal.{Journal}
use Rattle.service.specs.declared.log.Log.{Log}
use Rattle.service.specs.declared.log.Log.TheVariants as log
use Rattle.service.specs.declared.upkeep.Journal.TheVariants as journal
use Rattle.service.specs.declared.upkeep.Upkeep.{Upkeep}
use Rattle.service.specs.declared.request.Report.{Report}
use Rattle.bpf_profile.specs.Programs.{VerifiedProgram}
use Rattle.refusals.specs.declared.RefusalNumber.{RefusalNumber}
use Rattle.service_profile.specs.declared.replies.Reply.{Reply}
use Rattle.service_profile.specs.Calls.{CallData, CallAnswer, applies, IsCalled}
use Rattle.service_profile.specs.Calls as call
use Rattle.service_profile.specs.Events.{acquires, finishes, releases, installs, moves, resets}
use Rattle.book.specs.Full.{half_a_journal}
use Rattle.book_slot.specs.declared.view.View.{View}
use Rattle.book_slot.specs.Courses.{Course, AllBegin}
use Rattle.book_slot.proofs.Backwards.{called_back}
use Rattle.slot_desk.specs.Calls.{IsAskedAt, IsCalledAt}
use Rattle.slot_desk.specs.Closing.{RowBegins, SeatBegins}
use Rattle.slot_desk.specs.Seats.{SeatData}
use Rattle.slot_desk.specs.Shown.{seen_of}

-- ---- calls

row_back : (courses : List Course) (views : List View) (service : ℕ) (v w : View) → slice_get views service ≡ Some v → ((course : Course) → AllBegin course w.all_seen → AllBegin course v.all_seen)
    → RowBegins courses (map seen_of (slice_set views service w)) → RowBegins courses (map seen_of views)
row_back [] views service v w is back h = tt
row_back (c ∷ cs) [] service v w is back h = tt
row_back (c ∷ cs) (u ∷ us) zero v w is back h =
    let some : ◌≡◌ {A = Option View} (Some u) (Some v) = is in
    let same : u ≡ v = cc in
    (subst (λ (x : View). AllBegin c x.all_seen) (sym same) (back c h.0), h.1)
row_back (c ∷ cs) (u ∷ us) (suc service) v w is back h = (h.0, row_back cs us service v w is back h.1)

called_seat_back : (courses : List Course) (service : ℕ) (seat : SeatData) (c : CallData) (given : CallAnswer) (after : SeatData) → IsCalledAt service seat c given after → SeatBegins courses after → SeatBegins courses seat
called_seat_back courses service seat c given after (v, w, is, did, left) h =
    row_back courses seat.views service v w is (λ course. called_back course (λ before later. IsCalled seat.number before c given later) v w did) (subst (SeatBegins courses) left h)

asked_back : (courses : List Course) (service : ℕ) (seat : SeatData) (c : CallData) (given : CallAnswer) (after : SeatData) → IsAskedAt service seat c given after → SeatBegins courses after → SeatBegins courses seat
asked_back courses service seat c given after (inl away) h = subst (SeatBegins courses) away.2 h
asked_back courses service seat c given after (inr called) h = called_seat_back courses service seat c given after called h

-- ---- calls of any kind that go back so

-- calls relates a seat before a call, the call, its answer and the seat after it
module _ (courses : List Course) (calls : SeatData → CallData → CallAnswer → SeatData → Type 0)
    (back : (seat : SeatData) (c : CallData) (given : CallAnswer) (after : SeatData) → calls seat c given after → SeatBegins courses after → SeatBegins courses seat) where
  -- ---- a service's own upkeep

  room_back : (seat after : SeatData) → HasMadeRoom calls seat after → SeatBegins courses after → SeatBegins courses seat
  room_back seat after (found, (shown, between, told, rolled)) h =
      back seat (call.reads 0) (call.shows shown) between told (back between (call.rolls (shown.entries - half_a_journal)) (call.hands found) after rolled h)

  kept_back : (j : Journal) (seat : SeatData) (c : CallData) (given : CallAnswer) (after : SeatData) → IsKeptBy j calls seat c given after → SeatBegins courses after → SeatBegins courses seat
  kept_back journal.Keep seat c given after is h = back seat c given after is h
  kept_back journal.Last seat c given after (inl plain) h = back seat c given after plain.0 h
  kept_back journal.Last seat c given after (inr (answer, full, roomy, called, says, room, again)) h =
      back seat c answer full called (room_back full roomy room (back roomy c given after again h))

  released_back : (age moment : ℕ) (answers : List Reply) (seat after : SeatData) → AreReleased calls age moment seat answers after → SeatBegins courses after → SeatBegins courses seat
  released_back age moment [] seat after same h = subst (SeatBegins courses) same h
  released_back age moment (r ∷ later) seat after (between, (shown, seen, ticket, told, old, ended), rest) h =
      back seat (call.reads moment) (call.shows shown) seen told (back seen (applies moment (releases ticket)) (call.replies r) between ended (released_back age moment later between after rest h))

  all_released_back : (age moment : ℕ) (answers : List Reply) (seat after : SeatData) → HasReleased calls age moment seat answers after → SeatBegins courses after → SeatBegins courses seat
  all_released_back age moment answers seat after (between, released, inl (count, same)) h = released_back age moment answers seat between released (subst (SeatBegins courses) same h)
  all_released_back age moment answers seat after (between, released, inr (few, (shown, told, none))) h = released_back age moment answers seat between released (back between (call.reads moment) (call.shows shown) after told h)

  shown_back : (seat after : SeatData) → HasShown calls seat after → SeatBegins courses after → SeatBegins courses seat
  shown_back seat after (inl same) h = subst (SeatBegins courses) same h
  shown_back seat after (inr (moment, shown, told)) h = back seat (call.reads moment) (call.shows shown) after told h

  logged_back : (l : Log) (j : Journal) (seat : SeatData) (c : CallData) (given : CallAnswer) (after : SeatData) → IsLogged l calls (IsKeptBy j calls) seat c given after → SeatBegins courses after → SeatBegins courses seat
  logged_back log.Silent j seat c given after is h = kept_back j seat c given after is h
  logged_back (log.Changes service) j seat c given after (between, made, shown) h = kept_back j seat c given between made (shown_back between after shown h)

  acquired_back : (age : ℕ) (l : Log) (j : Journal) (seat : SeatData) (moment : ℕ) (given : CallAnswer) (after : SeatData) → IsAcquired age calls (IsLogged l calls (IsKeptBy j calls)) seat moment given after → SeatBegins courses after → SeatBegins courses seat
  acquired_back zero l j seat moment given after is h = logged_back l j seat (applies moment acquires) given after is h
  acquired_back (suc age) l j seat moment given after (answers, between, released, is) h =
      all_released_back (suc age) moment answers seat between released (logged_back l j between (applies moment acquires) given after is h)

  upkept_back : (upkeep : Upkeep) (seat : SeatData) (c : CallData) (given : CallAnswer) (after : SeatData) → IsUpkept upkeep calls seat c given after → SeatBegins courses after → SeatBegins courses seat
  upkept_back upkeep seat (applies moment acquires) given after is h = acquired_back upkeep.max_ticket_age upkeep.log upkeep.journal seat moment given after is h
  upkept_back upkeep seat c given after is h = logged_back upkeep.log upkeep.journal seat c given after is h

  -- ---- requests

  finish_back : (seat : SeatData) (moment : ℕ) (reported : Report) (found : Result VerifiedProgram RefusalNumber) (r : Reply) (after : SeatData) → IsFinishServed calls seat moment reported found r after → SeatBegins courses after → SeatBegins courses seat
  finish_back seat moment reported (Err refused) r after ended h = subst (SeatBegins courses) ended.1 h
  finish_back seat moment reported (Ok program) r after ended h = back seat (applies moment (finishes ended.0 reported.ticket)) (call.replies r) after ended.4 h

  request_back : (seat : SeatData) (moment : ℕ) (wanted : RequestData) (given : ResponseData) (after : SeatData) → IsServedBy calls seat moment wanted given after → SeatBegins courses after → SeatBegins courses seat
  request_back seat moment acquire (replies r) after is h = back seat (applies moment acquires) (call.replies r) after is h
  request_back seat moment (report reported) (replies r) after (found, between, looked, ended) h =
      back seat (call.looks reported.ticket) (call.finds found) between looked (finish_back between moment reported found r after ended h)
  request_back seat moment (release ticket) (replies r) after is h = back seat (applies moment (releases ticket)) (call.replies r) after is h
  request_back seat moment (install bytes layout) (refuses_program refused) after is h = subst (SeatBegins courses) is.1 h
  request_back seat moment (install bytes layout) (replies r) after (program, verified, seen, safe, is) h = back seat (applies moment (installs program)) (call.replies r) after is h
  request_back seat moment (move state) (replies r) after is h = back seat (applies moment (moves state)) (call.replies r) after is h
  request_back seat moment reset (replies r) after is h = back seat (applies moment resets) (call.replies r) after is h
  request_back seat moment read (shows shown) after is h = back seat (call.reads moment) (call.shows shown) after is h
  request_back seat moment (page from) given after (found, is, told) h = back seat (call.pages from) (call.hands found) after is h
  request_back seat moment cut given after (found, is, told) h = back seat call.cuts (call.hands found) after is h
  request_back seat moment (roll last) given after (found, is, told) h = back seat (call.rolls last) (call.hands found) after is h
  request_back seat moment wanted given after is h = absurd is

-- a request to a seat at a service that does this for its upkeep
pub served_back : (courses : List Course) (upkeep : Upkeep) (service : ℕ) (seat : SeatData) (moment : ℕ) (wanted : RequestData) (given : ResponseData) (after : SeatData) → IsServedBy (IsUpkept upkeep (IsAskedAt service)) seat moment wanted given after → SeatBegins courses after → SeatBegins courses seat
served_back courses upkeep service seat moment wanted given after is h =
    request_back courses (IsUpkept upkeep (IsAskedAt service)) (upkept_back courses (IsAskedAt service) (asked_back courses service) upkeep) seat moment wanted given after is h
