-- The pieces that rolls hand out.
use Rattle.std.proofs.Common.{◌≡◌, ℕ, ◌+◌, ◌-◌, ◌≤◌, Bool, true, false, if◌then◌else◌, List, [], ◌∷◌, ◌++◌, length, take, drop, Ok, Err, arith, refl, ap, sym, ◌∙◌, length-append, append_assoc, append-nil, rules}
use Rattle.std.proofs.lemmas.List.{take-append-drop, drop-append-le, drop-drop}
use Rattle.refusals.specs.declared.RefusalNumber.TheVariants as refusal
use Rattle.service_profile.specs.Answers.{answer, line_of, with_line, applied, is_worn_out, count_up_to, lines_up_to, after_roll, rolled_up_to, held_lines}
use Rattle.service_profile.specs.Events.{EntryData, Rolled, History}
use Rattle.service_profile.specs.Histories.{past_of}
use Rattle.service_profile.specs.Machine.{is_entered}
use Rattle.book.specs.Rolling.{Ask, gives, looks, reads, pages, rolls_up_to, after_ask, history_after, piece_of, pieces}
use Rattle.book.proofs.Runs.{applied_keeps}

-- later lines stand behind these
abbrev Grows : List EntryData → List EntryData → Type 0
Grows later lines = (more : List EntryData) × (later ≡ lines ++ more)

grown_by : (test : Bool) (h : History) (l : EntryData) → Grows (if test then with_line h l else h).lines h.lines
grown_by true h l = (l ∷ [], refl)
grown_by false h l = ([], sym (append-nil h.lines))

rolled_grown : (worn : Bool) (h : History) (last : ℕ) → Grows (after_roll h last (if worn then Err refusal.JournalFull else Ok (lines_up_to h last))).lines h.lines
rolled_grown worn h last = search rules

step_grown : (h : History) (ask : Ask) → Grows (after_ask h ask).lines h.lines
step_grown h (gives seat moment event) = grown_by (is_entered (answer h moment event).reply) h (line_of h seat moment event)
step_grown h (rolls_up_to last) = rolled_grown (is_worn_out (past_of h)) h last
step_grown h ask = ([], sym (append-nil h.lines))

run_grown : (h : History) (rest : List Ask) → Grows (history_after h rest).lines h.lines
run_grown h [] = ([], sym (append-nil h.lines))
run_grown h (ask ∷ rest) =
    let one = step_grown h ask in
    let all = run_grown (after_ask h ask) rest in
    (one.0 ++ all.0, all.1 ∙ ap (λ (ls : List EntryData). ls ++ all.0) one.1 ∙ append_assoc h.lines one.0 all.0)

split_at : (lines more : List EntryData) (r c : ℕ) → r ≤ c → c ≤ length lines → take (c - r) (drop r lines) ++ drop c (lines ++ more) ≡ drop r (lines ++ more)
split_at lines more r c le few =
    let same : r + (c - r) ≡ c = omega (arith, le) in
    let rest : drop c lines ≡ drop (c - r) (drop r lines) = ap (λ (n : ℕ). drop n lines) (sym same) ∙ sym (drop-drop (c - r) r lines) in
    ap (λ (ls : List EntryData). take (c - r) (drop r lines) ++ ls) (drop-append-le c lines more few ∙ ap (λ (ls : List EntryData). ls ++ more) rest)
    ∙ sym (append_assoc (take (c - r) (drop r lines)) (drop (c - r) (drop r lines)) more)
    ∙ ap (λ (ls : List EntryData). ls ++ more) (take-append-drop (c - r) (drop r lines))
    ∙ sym (drop-append-le r lines more (omega (arith, le, few)))

abbrev Whole : History → List Ask → Type 0
Whole h rest = pieces h rest ++ held_lines (history_after h rest) ≡ drop h.rolled.lines (history_after h rest).lines

roll_whole : (worn : Bool) (h : History) (last : ℕ) (rest : List Ask) → h.rolled.lines ≤ length h.lines → ((k : History) → k.rolled.lines ≤ length k.lines → Whole k rest)
    → (piece_of (if worn then Err refusal.JournalFull else Ok (lines_up_to h last)) ++ pieces (after_roll h last (if worn then Err refusal.JournalFull else Ok (lines_up_to h last))) rest)
    ++ held_lines (history_after (after_roll h last (if worn then Err refusal.JournalFull else Ok (lines_up_to h last))) rest)
    ≡ drop h.rolled.lines (history_after (after_roll h last (if worn then Err refusal.JournalFull else Ok (lines_up_to h last))) rest).lines
roll_whole true h last rest there whole = whole h there
roll_whole false h last rest there whole =
    let c : ℕ = count_up_to h last in
    let next : History = rolled_up_to h last in
    let few : c ≤ length h.lines = omega (arith, there) in
    let le : h.rolled.lines ≤ c = omega arith in
    let grown = run_grown next rest in
    append_assoc (lines_up_to h last) (pieces next rest) (held_lines (history_after next rest))
    ∙ ap (λ (ls : List EntryData). lines_up_to h last ++ ls) (whole next few ∙ ap (drop c) grown.1)
    ∙ split_at h.lines grown.0 h.rolled.lines c le few
    ∙ ap (drop h.rolled.lines) (sym grown.1)

pub whole : (h : History) (rest : List Ask) → h.rolled.lines ≤ length h.lines → Whole h rest
whole h [] there = refl
whole h (gives seat moment event ∷ rest) there =
    let next : History = applied h seat moment event in
    let grown = step_grown h (gives seat moment event) in
    whole next rest (omega (arith, there, ap (λ (r : Rolled). r.lines) (applied_keeps h seat moment event), ap length grown.1, length-append h.lines grown.0))
    ∙ ap (λ (r : Rolled). drop r.lines (history_after next rest).lines) (applied_keeps h seat moment event)
whole h (looks ticket ∷ rest) there = whole h rest there
whole h (reads moment ∷ rest) there = whole h rest there
whole h (pages from ∷ rest) there = whole h rest there
whole h (rolls_up_to last ∷ rest) there = roll_whole (is_worn_out (past_of h)) h last rest there (λ k le. whole k rest le)
