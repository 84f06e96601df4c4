-- What rolls leave of a history, and what is asked of a service with rolls among it.
use Rattle.std.specs.Prelude.{◌≡◌, ℕ, suc, ◌+◌, ◌-◌, ◌≤◌, List, [], ◌∷◌, ◌++◌, Result, Ok, Err}
use Rattle.std.specs.List.{fold}
use Rattle.bpf_profile.specs.Programs.{VerifiedProgram}
use Rattle.refusals.specs.declared.RefusalNumber.{RefusalNumber}
use Rattle.refusals.specs.declared.RefusalNumber.TheVariants as refusal
use Rattle.service_profile.specs.declared.decisions.Decision.{Decision}
use Rattle.service_profile.specs.declared.readings.Reading.{Reading}
use Rattle.service_profile.specs.declared.replies.Reply.{Reply}
use Rattle.service_profile.specs.declared.replies.Reply.TheVariants as reply
use Rattle.service_profile.specs.Answers.{answer, applied, looked, reading, page_from, least_needed, roll, after_roll}
use Rattle.service_profile.specs.Events.{EventData, EntryData, Rolled, History}
use Rattle.service_profile.specs.Histories.{Past, past_of, situation_of, raised}
use Rattle.service_profile.specs.Machine.{Situation, current_version, decision}

-- as much was taken out, or more
pub record IsFurther (before after : Rolled) : Type 0 where
  pub lines : before.lines ≤ after.lines
  pub programs : before.programs ≤ after.programs

-- the same past with so much taken out
abbrev pub with_rolled : Rolled → Past → Past
with_rolled rolled past = record { opening = past.opening; rolled = rolled; stages = past.stages; standing = past.standing }

-- how many versions there are from the least that an open ticket or a new one has up to the last
abbrev pub versions_needed : Situation → ℕ
versions_needed s = suc (current_version s) - least_needed s

-- what a journal without end answers to an event: the machine's decision where no line is held
abbrev pub endless_answer : History → ℕ → EventData → Decision
endless_answer history moment event = decision (record (situation_of (past_of history)) { held = 0 }) (raised (past_of history) moment) event

-- ---- what is asked, and what is told

-- an event of a seat at a moment, a look under a ticket, a reading at a moment, a page from a number on, or a roll up to a number
pub data Ask : Type 0 where
  gives : ℕ → ℕ → EventData → Ask
  looks : ℕ → Ask
  reads : ℕ → Ask
  pages : ℕ → Ask
  rolls_up_to : ℕ → Ask

pub data Told : Type 0 where
  replied : Reply → Told
  found : Result VerifiedProgram RefusalNumber → Told
  shown : Reading → Told
  paged : List EntryData → Told
  handed : Result (List EntryData) RefusalNumber → Told

abbrev pub told : History → Ask → Told
told history (gives seat moment event) = replied (answer history moment event).reply
told history (looks ticket) = found (looked (situation_of (past_of history)) ticket)
told history (reads moment) = shown (reading (past_of history) moment)
told history (pages from) = paged (page_from history from)
told history (rolls_up_to last) = handed (roll history last)

abbrev pub after_ask : History → Ask → History
after_ask history (gives seat moment event) = applied history seat moment event
after_ask history (looks ticket) = history
after_ask history (reads moment) = history
after_ask history (pages from) = history
after_ask history (rolls_up_to last) = after_roll history last (roll history last)

-- the history after all that is asked, one after another
abbrev pub history_after : History → List Ask → History
history_after history asked = fold after_ask history asked

-- what is told to each but the rolls
abbrev pub heard : History → List Ask → List Told
heard history [] = []
heard history (rolls_up_to last ∷ rest) = heard (after_ask history (rolls_up_to last)) rest
heard history (ask ∷ rest) = told history ask ∷ heard (after_ask history ask) rest

abbrev pub without_rolls : List Ask → List Ask
without_rolls [] = []
without_rolls (rolls_up_to last ∷ rest) = without_rolls rest
without_rolls (ask ∷ rest) = ask ∷ without_rolls rest

-- no event meets a full journal or a full list of versions
abbrev pub NeverFull : History → List Ask → Type 0
NeverFull history [] = Unit {0}
NeverFull history (ask ∷ rest) =
    (told history ask ≡ replied (reply.Refused refusal.JournalFull) → ⊥)
    × ((told history ask ≡ replied (reply.Refused refusal.VersionsFull) → ⊥)
    × NeverFull (after_ask history ask) rest)

-- each page begins with an entry that is held, or behind all of them
abbrev pub PagesAreHeld : History → List Ask → Type 0
PagesAreHeld history [] = Unit {0}
PagesAreHeld history (pages from ∷ rest) = (history.opening.line + history.rolled.lines ≤ from) × PagesAreHeld history rest
PagesAreHeld history (ask ∷ rest) = PagesAreHeld (after_ask history ask) rest

-- ---- what rolls hand out

abbrev pub piece_of : Result (List EntryData) RefusalNumber → List EntryData
piece_of (Ok lines) = lines
piece_of (Err number) = []

-- the entries that rolls hand out, one piece behind another
abbrev pub pieces : History → List Ask → List EntryData
pieces history [] = []
pieces history (rolls_up_to last ∷ rest) = piece_of (roll history last) ++ pieces (after_ask history (rolls_up_to last)) rest
pieces history (ask ∷ rest) = pieces (after_ask history ask) rest
