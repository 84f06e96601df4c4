-- A book that is rolled.
use Rattle.std.proofs.Common.{◌≡◌, ℕ, suc, ◌+◌, ◌-◌, ◌≤◌, ◌<◌, max, min, Bool, false, if◌then◌else◌, List, [], ◌∷◌, ◌++◌, length, take, drop, Vec, Ok, Err, arith, refl, ap, sym, ◌∙◌, subst, length-append, append_assoc, append-nil, rules}
use Rattle.std.specs.declared.alloc.Global.{Global}
use Rattle.std.proofs.lemmas.List.{take-append-drop, length-take-le}
use Rattle.refusals.specs.declared.RefusalNumber.TheVariants as refusal
use Rattle.service_profile.specs.declared.configuration.ConfigParts.{ConfigParts}
use Rattle.service_profile.specs.Events.{EntryData, Opening, Rolled, History, rolled_to}
use Rattle.service_profile.specs.Histories.{Past, past_of, situation_of, greatest, refused_of}
use Rattle.service_profile.specs.Machine.{Situation}
use Rattle.service_profile.specs.Answers.{count_unneeded, is_worn_out, held_lines, count_up_to, lines_up_to, roll, IsRolled, no_room}
use Rattle.book.specs.declared.books.Start.{Start}
use Rattle.book.specs.declared.parts.Parts.{Parts}
use Rattle.book.specs.Books.{IsBook, all_lines, lines_handed, journal, opening_of, rolled_of}
use Rattle.book.specs.Following.{without_unneeded}
use Rattle.book.specs.Rolling.{IsFurther, with_rolled}
use Rattle.book.specs.Situations.{StandsFor}
use Rattle.book.specs.Accepted.{IsSafeProgram}
use Rattle.book.specs.Sound.{IsSound}
use Rattle.book.specs.Room.{LeavesRoom}
use Rattle.book.proofs.Applying.{stage_count, same_opening, same_rolled}
use Rattle.book.proofs.Rolled.{holding, rolled_legal}
use Rattle.book.proofs.Versions.{dropped_told}
use Rattle.book.proofs.Worlds.{sound_rolled}

-- ---- the lines stay

more_handed : (pieces : List (Vec EntryData Global)) (piece : Vec EntryData Global) → lines_handed (pieces ++ piece ∷ []) ≡ lines_handed pieces ++ piece.items
more_handed [] piece = append-nil piece.items
more_handed (p ∷ pieces) piece = ap (λ (ls : List EntryData). p.items ++ ls) (more_handed pieces piece) ∙ sym (append_assoc p.items (lines_handed pieces) piece.items)

pub lines_stay : (pieces : List (Vec EntryData Global)) (piece : Vec EntryData Global) (entries staying : List EntryData) (count : ℕ) → piece.items ≡ take count entries → staying ≡ drop count entries
    → all_lines (pieces ++ piece ∷ []) staying ≡ all_lines pieces entries
lines_stay pieces piece entries staying count first rest = search (rules, more_handed, append_assoc, take-append-drop)

pub handed_count : (pieces : List (Vec EntryData Global)) (piece : Vec EntryData Global) (rolled count : ℕ) → rolled ≡ length (lines_handed pieces) → length piece.items ≡ count → rolled + count ≡ length (lines_handed (pieces ++ piece ∷ []))
handed_count pieces piece rolled count is e = omega (arith, is, e, ap length (more_handed pieces piece), length-append (lines_handed pieces) piece.items)

-- ---- what the history says

stands_holding : (service : Parts) (held n : ℕ) (s : Situation) → StandsFor service held s → StandsFor service n (holding n s)
stands_holding service held n s stands = search rules

-- where no number is past its limit there is room
room_there : (past : Past) (rolled : Rolled) → is_worn_out past ≡ false → LeavesRoom (with_rolled rolled past)
room_there past rolled e = search rules

abbrev pub more_taken : Opening → List EntryData → Rolled → ℕ → Rolled
more_taken opening lines rolled count = record { lines = rolled.lines + count; programs = count_unneeded (situation_of (past_of (journal opening lines rolled))) }

pub book_rolled : (opening : Opening) (service after : Parts) (moment : ℕ) (lines : List EntryData) (rolled : Rolled) (count : ℕ) → IsBook opening service moment lines rolled → is_worn_out (past_of (journal opening lines rolled)) ≡ false → rolled.lines + count ≤ length lines
    → ((held : ℕ) (s : Situation) → StandsFor service held s → StandsFor after held (without_unneeded s)) → after.refused ≡ service.refused → IsBook opening after moment lines (more_taken opening lines rolled count)
book_rolled opening service after moment lines rolled count book fresh few dropped refused =
    let past : Past = past_of (journal opening lines rolled) in
    let more : Rolled = more_taken opening lines rolled count in
    let kept = ap (λ (r : Rolled). r.programs) (same_rolled opening lines rolled) in
    let further : IsFurther rolled more = record { lines = omega arith; programs = omega (arith, kept) } in
    let legal = rolled_legal (journal opening lines rolled) more book.legal further in
    let same : past_of (journal opening lines more) ≡ with_rolled more past = legal.1 in
    let held : length past.stages - more.lines ≡ length lines - more.lines = ap (λ (n : ℕ). n - more.lines) (stage_count opening lines rolled) in
    let there : StandsFor after (length past.stages - more.lines) (holding (length past.stages - more.lines) (without_unneeded (situation_of past))) =
    stands_holding after _ _ (without_unneeded (situation_of past)) (dropped _ _ book.situated) in
    record {
      there = few;
      room = subst (λ (p : Past). LeavesRoom p) (sym same) (room_there past more fresh);
      legal = legal.0;
      sound = subst (λ (p : Past). IsSound IsSafeProgram p) (sym same) (sound_rolled past more book.sound (subst (λ (r : Rolled). IsFurther r more) (sym (same_rolled opening lines rolled)) further));
      situated = subst (λ (p : Past). StandsFor after (length lines - more.lines) (situation_of p)) (sym same) (subst (λ (n : ℕ). StandsFor after n (situation_of (with_rolled more past))) held there);
      refused_calls = refused ∙ book.refused_calls ∙ ap refused_of (sym same);
      greatest_moment = book.greatest_moment ∙ ap greatest (sym same);
    }

-- the first version that is held then says how many programs were dropped
pub rolled_told : (start : Start) (service after : Parts) (lines : List EntryData) (rolled : Rolled) (held count : ℕ) → StandsFor service held (situation_of (past_of (journal (opening_of service.config start) lines rolled)))
    → ((h : ℕ) (s : Situation) → StandsFor service h s → StandsFor after h (without_unneeded s)) → rolled_of (rolled.lines + count) after start ≡ more_taken (opening_of service.config start) lines rolled count
rolled_told start service after lines rolled held count stands dropped =
    let s : Situation = situation_of (past_of (journal (opening_of service.config start) lines rolled)) in
    let told = dropped_told after.registry (without_unneeded s) start.version (dropped held s stands).registered (ap (λ (o : Opening). o.version) (same_opening (opening_of service.config start) lines rolled)) in
    ap (λ (n : ℕ). record { lines = rolled.lines + count; programs = n }) told

-- the parts after a roll are those of the book with so much more taken out
pub rolled_there : (start : Start) (service after : Parts) (moment : ℕ) (lines all : List EntryData) (first count : ℕ) → IsBook (opening_of service.config start) service moment lines (rolled_of first service start)
    → is_worn_out (past_of (journal (opening_of service.config start) lines (rolled_of first service start))) ≡ false → first + count ≤ length lines
    → ((held : ℕ) (s : Situation) → StandsFor service held s → StandsFor after held (without_unneeded s)) → after.refused ≡ service.refused → after.config ≡ service.config → all ≡ lines
    → IsBook (opening_of after.config start) after moment all (rolled_of (first + count) after start)
rolled_there start service after moment lines all first count book fresh few dropped refused config same =
    let opening : Opening = opening_of service.config start in
    let rolled : Rolled = rolled_of first service start in
    let there = book_rolled opening service after moment lines rolled count book fresh few dropped refused in
    let told = rolled_told start service after lines rolled (length lines - first) count book.situated dropped in
    subst (λ (parts : ConfigParts). IsBook (opening_of parts start) after moment all (rolled_of (first + count) after start)) (sym config)
    (subst (λ (ls : List EntryData). IsBook opening after moment ls (rolled_of (first + count) after start)) (sym same)
    (subst (λ (r : Rolled). IsBook opening after moment lines r) (sym told) there))

-- ---- the documented roll

pub counts : (line rolled held lines last passed count : ℕ) → 1 ≤ line → lines ≡ rolled + held → passed ≡ last - (line + rolled - 1) → count ≡ min passed held → max rolled (min lines (suc last - line)) ≡ rolled + count
counts line rolled held lines last passed count some all is e = omega (arith, some, all, is, e)

pub roll_there : (history : History) (last : ℕ) → is_worn_out (past_of history) ≡ false → roll history last ≡ Ok (lines_up_to history last)
roll_there history last fresh = ap (λ (b : Bool). if b then Err refusal.JournalFull else Ok (lines_up_to history last)) fresh

up_to : (history : History) (last count : ℕ) (entries : List EntryData) → count_up_to history last ≡ history.rolled.lines + count → held_lines history ≡ entries → lines_up_to history last ≡ take count entries
up_to history last count entries e held = search rules

-- the history after a roll of so many lines
abbrev pub rolled_by : ℕ → History → History
rolled_by count history = rolled_to (more_taken history.opening history.lines history.rolled count) history

pub rolled_well : (history after : History) (last count : ℕ) (piece entries : List EntryData) → is_worn_out (past_of history) ≡ false → count_up_to history last ≡ history.rolled.lines + count → held_lines history ≡ entries
    → piece ≡ take count entries → after ≡ rolled_by count history → IsRolled history last (Ok piece) after
rolled_well history after last count piece entries fresh e held is then_ = search rules

pub no_room_there : (history after : History) (last count : ℕ) (entries : List EntryData) → is_worn_out (past_of history) ≡ false → count_up_to history last ≡ history.rolled.lines + count → held_lines history ≡ entries → count < length entries → after ≡ history
    → IsRolled history last (Err refusal.ServiceOutOfMemory) after
no_room_there history after last count entries fresh e held less same =
    no_room (lines_up_to history last) (roll_there history last fresh) (omega (arith, ap length (up_to history last count entries e held), length-take-le count entries (omega (arith, less)), ap length held, less)) refl same
