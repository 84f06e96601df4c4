-- Behind a roll that leaves at most half a journal no event meets a full one.
use Rattle.std.proofs.Common.{◌≡◌, ℕ, suc, ◌+◌, ◌-◌, ◌≤◌, ◌<◌, Bool, true, false, List, [], length, Ok, arith, ap, sym, ◌∙◌, rules}
use Rattle.bpf_profile.specs.Programs.{VerifiedProgram}
use Rattle.refusals.specs.declared.RefusalNumber.TheVariants as refusal
use Rattle.service_profile.specs.declared.decisions.Decision.{Decision}
use Rattle.service_profile.specs.declared.replies.Reply.{Reply}
use Rattle.service_profile.specs.declared.replies.Reply.TheVariants as reply
use Rattle.service_profile.specs.Limits.{most_versions}
use Rattle.service_profile.specs.Answers.{answer, least_version, least_needed, count_unneeded, taken_up_to, rolled_up_to, after_roll, IsRolled, rolls, no_room}
use Rattle.service_profile.specs.Events.{EventData, EntryData, installs, Opening, Rolled, History}
use Rattle.service_profile.specs.Histories.{Past, past_of, next_line, situation_of, programs_of, raised, IsLegal}
use Rattle.service_profile.specs.Machine.{Situation, Judging, is_full, used, current_version, decision, decision_by}
use Rattle.book.specs.Accepted.{Accepting}
use Rattle.book.specs.Full.{half_a_journal}
use Rattle.service_profile.specs.Calls as call
use Rattle.book.specs.Interleavings.{answered}
use Rattle.book.specs.Memory.{lacks_memory}
use Rattle.book.specs.Rolling.{with_rolled, versions_needed}
use Rattle.book.specs.Sound.{IsSound}
use Rattle.book.proofs.Applying.{stage_count, same_opening, same_rolled}
use Rattle.book.proofs.Configured.{few_places}
use Rattle.book.proofs.Rolled.{rolled_legal, roll_goes_further}

-- ---- there is room

roomy : (s : Situation) (event : EventData) → used s ≤ 42768 → is_full s event ≡ false
roomy s event le = search rules

-- ---- where there is room, no event is answered that there is none; nor is one refused for want of memory, however work is judged

abbrev says_full : Reply → Bool
says_full (reply.Refused refusal.JournalFull) = true
says_full other = false

abbrev IsOther : Decision → Type 0
IsOther d = (says_full d.reply ≡ false) × (lacks_memory (answered (call.replies d.reply)) ≡ false)

decision_other : (s : Situation) (moment : ℕ) (event : EventData) → is_full s event ≡ false → IsOther (decision s moment event)
unfolding decision_by
decision_other s moment event room = search rules

not_full : (r : Reply) → says_full r ≡ false → r ≡ reply.Refused refusal.JournalFull → ⊥
not_full r other e = let bad : ◌≡◌ {A = Bool} false true = sym other ∙ ap says_full e in cc

-- the machine refuses nothing for want of memory
pub decision_has_memory : (judging : Judging) (s : Situation) (moment : ℕ) (event : EventData) → lacks_memory (answered (call.replies (decision_by judging s moment event).reply)) ≡ false
unfolding decision_by
decision_has_memory judging s moment event = search rules

-- ---- a history

roomy_after : {accepts : Accepting} (history : History) (last : ℕ) (event : EventData) → IsLegal history → IsSound accepts (past_of history) → history.rolled.lines ≤ length history.lines → next_line (past_of history) ≤ suc last + half_a_journal
    → is_full (situation_of (past_of (rolled_up_to history last))) event ≡ false
roomy_after history last event legal sound there whole =
    let past : Past = past_of history in
    let few = few_places past.opening.config sound.opening.config in
    ap (λ (p : Past). is_full (situation_of p) event) (rolled_legal history (taken_up_to history last) legal (roll_goes_further history last)).1
    ∙ roomy (situation_of (with_rolled (taken_up_to history last) past)) event (omega (arith, few, sound.places, stage_count history.opening history.lines history.rolled, ap (λ (o : Opening). o.line) (same_opening history.opening history.lines history.rolled)))

rolled_up_roomy : {accepts : Accepting} (history : History) (last moment : ℕ) (event : EventData) → IsLegal history → IsSound accepts (past_of history) → history.rolled.lines ≤ length history.lines → next_line (past_of history) ≤ suc last + half_a_journal
    → (answer (rolled_up_to history last) moment event).reply ≡ reply.Refused refusal.JournalFull → ⊥
rolled_up_roomy history last moment event legal sound there whole =
    let past : Past = past_of (rolled_up_to history last) in
    not_full (answer (rolled_up_to history last) moment event).reply
    (decision_other (situation_of past) (raised past moment) event (roomy_after history last event legal sound there whole)).0

-- what a roll leaves that hands something out
left_by : (history : History) (last : ℕ) (lines : List EntryData) (after : History) → IsRolled history last (Ok lines) after → after ≡ rolled_up_to history last
left_by history last lines after (rolls same left) = left ∙ ap (after_roll history last) (sym same)
left_by history last lines after (no_room held allowed fewer lacks left) = search rules

pub rolled_roomy : {accepts : Accepting} (history after : History) (last moment : ℕ) (lines : List EntryData) (event : EventData) → IsLegal history → IsSound accepts (past_of history) → history.rolled.lines ≤ length history.lines → next_line (past_of history) ≤ suc last + half_a_journal → IsRolled history last (Ok lines) after
    → (answer after moment event).reply ≡ reply.Refused refusal.JournalFull → ⊥
rolled_roomy history after last moment lines event legal sound there whole rolled full =
    rolled_up_roomy history last moment event legal sound there whole (ap (λ (h : History). (answer h moment event).reply) (sym (left_by history last lines after rolled)) ∙ full)

-- ---- versions

few_install : (s : Situation) (moment : ℕ) (program : VerifiedProgram) → length s.programs - s.dropped < most_versions → (decision s moment (installs program)).reply ≡ reply.Refused refusal.VersionsFull → ⊥
unfolding decision_by
few_install s moment program few e = search rules

pub versions_roomy : (history : History) (last moment : ℕ) (program : VerifiedProgram) → IsLegal history → versions_needed (situation_of (past_of history)) < most_versions
    → (answer (rolled_up_to history last) moment (installs program)).reply ≡ reply.Refused refusal.VersionsFull → ⊥
versions_roomy history last moment program legal few =
    let past : Past = past_of (rolled_up_to history last) in
    let same = (rolled_legal history (taken_up_to history last) legal (roll_goes_further history last)).1 in
    let versions : length (situation_of past).programs - (situation_of past).dropped ≡ length (situation_of (past_of history)).programs - count_unneeded (situation_of (past_of history)) = ap (λ (p : Past). length (situation_of p).programs - (situation_of p).dropped) same in
    few_install (situation_of past) (raised past moment) program (omega (arith, versions, few))

pub one_version_left : (history : History) (last : ℕ) → IsLegal history → (situation_of (past_of history)).open_tickets ≡ [] → history.rolled.programs < length (programs_of (past_of history))
    → length (programs_of (past_of (rolled_up_to history last))) ≡ suc (rolled_up_to history last).rolled.programs
one_version_left history last legal quiet some =
    let s : Situation = situation_of (past_of history) in
    let same = ap (λ (p : Past). length (programs_of p)) (rolled_legal history (taken_up_to history last) legal (roll_goes_further history last)).1 in
    let least : least_needed s ≡ current_version s = ap (least_version (current_version s)) quiet in
    let dropped = ap (λ (r : Rolled). r.programs) (same_rolled history.opening history.lines history.rolled) in
    omega (arith, same, least, dropped, some)
