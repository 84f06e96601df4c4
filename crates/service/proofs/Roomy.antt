-- Where the last entries are kept, no event meets a full journal behind the roll that made room.
use Rattle.std.proofs.Common.{◌≡◌, ◌∙◌, ℕ, ◌-◌, ◌≤◌, true, if◌then◌else◌, List, length, Ok, refl, sym, ap, subst, arith, rules}
use Rattle.refusals.specs.declared.RefusalNumber.TheVariants as refusal
use Rattle.service_profile.specs.declared.readings.Reading.{Reading}
use Rattle.service_profile.specs.declared.replies.Reply.{Reply}
use Rattle.service_profile.specs.declared.replies.Reply.TheVariants as reply
use Rattle.service_profile.specs.Answers.{answer, IsApplied, as_documented, out_of_memory, IsRolled}
use Rattle.service_profile.specs.Calls.{IsCalled, applies, replies}
use Rattle.service_profile.specs.Events.{EntryData, EventData, History}
use Rattle.service_profile.specs.Histories.{past_of, next_line}
use Rattle.service_profile.specs.Machine.{is_entered}
use Rattle.book.specs.Full.{says_full, half_a_journal}
use Rattle.book.specs.Good.{IsGood}
use Rattle.book.proofs.Roomy.{rolled_roomy}
use Rattle.service.specs.Upkept.{IsRolledOut}

-- an event that is answered so leaves the history as it was
stays : (r : Reply) (h k : History) → says_full (replies r) ≡ true → (if is_entered r then k else h) ≡ h
stays r h k says = search rules

left_same : (seat : ℕ) (history : History) (moment : ℕ) (event : EventData) (r : Reply) (after : History) → IsApplied history seat moment event r after → says_full (replies r) ≡ true → after ≡ history
left_same seat history moment event r after (as_documented is leads) says = leads ∙ stays (answer history moment event).reply history _ (subst (λ (s : Reply). says_full (replies s) ≡ true) is says)
left_same seat history moment event r after (out_of_memory is entered same) says = same

-- behind the roll it isn't answered so
by_roll : (seat : ℕ) (history roomy after : History) (moment : ℕ) (event : EventData) (lines : List EntryData) → IsGood history → history.rolled.lines ≤ length history.lines
    → IsRolled history (next_line (past_of history) - 1 - half_a_journal) (Ok lines) roomy → IsApplied roomy seat moment event (reply.Refused refusal.JournalFull) after → ⊥
by_roll seat history roomy after moment event lines good there rolled (as_documented is leads) =
    rolled_roomy history roomy (next_line (past_of history) - 1 - half_a_journal) moment lines event good.legal good.sound there (omega arith) rolled (sym is)
by_roll seat history roomy after moment event lines good there rolled (out_of_memory is entered same) = let bad : ◌≡◌ {A = Reply} (reply.Refused refusal.JournalFull) (reply.Refused refusal.ServiceOutOfMemory) = is in cc

pub never_full : (seat : ℕ) (history full roomy after : History) (moment : ℕ) (event : EventData) (lines : List EntryData) → IsGood history → history.rolled.lines ≤ length history.lines
    → IsCalled seat history (applies moment event) (replies (reply.Refused refusal.JournalFull)) full → IsRolledOut (IsCalled seat) (Ok lines) full roomy
    → IsCalled seat roomy (applies moment event) (replies (reply.Refused refusal.JournalFull)) after → ⊥
never_full seat history full roomy after moment event lines good there called (shown, between, read, rolled) again =
    let same : full ≡ history = left_same seat history moment event (reply.Refused refusal.JournalFull) full called refl in
    let last : shown.entries ≡ next_line (past_of history) - 1 = ap (λ (r : Reading). r.entries) read.0 ∙ ap (λ (h : History). next_line (past_of h) - 1) same in
    let here : between ≡ history = read.1 ∙ same in
    by_roll seat history roomy after moment event lines good there
    (subst (λ (n : ℕ). IsRolled history (n - half_a_journal) (Ok lines) roomy) last (subst (λ (h : History). IsRolled h (shown.entries - half_a_journal) (Ok lines) roomy) here rolled)) again
