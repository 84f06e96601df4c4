-- Programs that were installed after a ticket change no verdict under it.
use Rattle.std.proofs.Common.{◌≡◌, ℕ, zero, suc, ◌≤◌, ◌<◌, ◌==◌, ◌⊎◌, inl, inr, Bool, true, false, List, [], ◌∷◌, take, drop, slice_get, Some, option_to_list, arith, ap, sym, ◌∙◌, subst, rules}
use Rattle.std.specs.List.{fold}
use Rattle.std.proofs.lemmas.Bool.{cases_lt, cases_order, or_left, or_right}
use Rattle.std.proofs.lemmas.List.{take-take}
use Rattle.std.proofs.lemmas.List.Folds.{list_any-append}
use Rattle.bpf_profile.specs.declared.machine.Verdict.{Verdict}
use Rattle.bpf_profile.specs.Layouts.{context_size}
use Rattle.bpf_profile.specs.Meaning.{Judges, answer_of}
use Rattle.bpf_profile.specs.Outcomes.{Outcome}
use Rattle.bpf_profile.specs.Programs.{VerifiedProgram}
use Rattle.bpf_profile.proofs.Runs.{ends_agree, verdicts_agree}
use Rattle.service_profile.specs.declared.replies.Reply.{Reply}
use Rattle.service_profile.specs.declared.replies.Reply.TheVariants as reply
use Rattle.service_profile.specs.declared.states.State.{State}
use Rattle.service_profile.specs.declared.tickets.OpenTicket.{OpenTicket}
use Rattle.service_profile.specs.Answers.{current_program}
use Rattle.service_profile.specs.Events.{EntryData, History}
use Rattle.service_profile.specs.Histories.{Stage, Past, issue_by, issue_at, is_listed, opened, passed, past_of, machine, IsLegal}
use Rattle.book.specs.Accepted.{Accepting}
use Rattle.book.specs.Laws.{IsService}
use Rattle.service_laws.specs.Promises.{numbers_issued, first_lines, newest_before, AreOfTheTicket, Finishes}
use Rattle.book.specs.Sound.{next_ticket}
use Rattle.service_laws.proofs.Endings.{number_option, numbers_step, all_given, issued_next}
use Rattle.service_laws.proofs.Issuing.{legal_there, line_follows, got_first, same_line, no_line, past_on, of_its_ticket}
use Rattle.book.proofs.Passing.{unlisted}
use Rattle.book.proofs.Accepting.{Safely}

-- ---- a number that was given stays given

stage_of : Past → EntryData → Stage
stage_of past l = record { line = l; before = past.standing; after = (machine past l.moment l.event).next }

listed_more : (past : Past) (lines : List EntryData) (ticket : ℕ) → is_listed (numbers_issued past.stages) ticket ≡ true → is_listed (numbers_issued (fold passed past lines).stages) ticket ≡ true
unfolding stage_of
listed_more past [] ticket e = e
listed_more past (l ∷ lines) ticket e =
    let more : List ℕ = option_to_list (number_option (issue_at (stage_of past l))) in
    let now : is_listed (numbers_issued (passed past l).stages) ticket ≡ true =
    ap (λ (ns : List ℕ). is_listed ns ticket) (numbers_step past.stages (stage_of past l))
    ∙ list_any-append (λ (other : ℕ). ticket == other) (numbers_issued past.stages) more
    ∙ or_left (is_listed (numbers_issued past.stages) ticket) (is_listed more ticket) e in
    listed_more (passed past l) lines ticket now

-- the line that issues a ticket gives a number that wasn't given before
new_there : (history : History) (place : ℕ) (line : EntryData) (ticket version : ℕ) (reached : State) → IsLegal history → slice_get history.lines place ≡ Some line → line.reply ≡ reply.Permitted ticket version reached
    → is_listed (numbers_issued (past_of (first_lines place history)).stages) ticket ≡ false
new_there history place line ticket version reached legal e r =
    let past : Past = past_of (first_lines place history) in
    let given = all_given (first_lines place history) (legal_there history place legal) in
    let next = issued_next past line 0 0 (line_follows history place line legal e) in
    let t : OpenTicket = record { number = ticket; version = version; period = 0; moment = 0 } in
    let same : ticket ≡ next_ticket past = next.number t (ap (λ (x : Reply). issue_by x 0 0) r) in
    subst (λ (n : ℕ). is_listed (numbers_issued past.stages) n ≡ false) (sym same) (unlisted (next_ticket past) (numbers_issued past.stages) given.below)

-- and it is given behind that line
given_there : (past : Past) (line : EntryData) (ticket version : ℕ) (reached : State) → line.reply ≡ reply.Permitted ticket version reached → is_listed (numbers_issued (passed past line).stages) ticket ≡ true
unfolding stage_of number_option
given_there past line ticket version reached r = search (rules, number_option, stage_of, or_left, numbers_step, list_any-append, or_right)

next_place : (past : Past) (lines : List EntryData) (place : ℕ) (l : EntryData) → slice_get lines place ≡ Some l → fold passed past (take (suc place) lines) ≡ passed (fold passed past (take place lines)) l
next_place past [] place l e = no_line l e
next_place past (m ∷ lines) zero l e = ap (passed past) (same_line m l e)
next_place past (m ∷ lines) (suc place) l e = next_place (passed past m) lines place l e

listed_on : (history : History) (early place ticket : ℕ) → early ≤ place → is_listed (numbers_issued (past_of (first_lines early history)).stages) ticket ≡ true → is_listed (numbers_issued (past_of (first_lines place history)).stages) ticket ≡ true
listed_on history early place ticket le e =
    subst (λ (p : Past). is_listed (numbers_issued p.stages) ticket ≡ true) (sym (past_on history early place le)) (listed_more (past_of (first_lines early history)) (drop early (take place history.lines)) ticket e)

unlike : {A : Type 0} (b : Bool) → b ≡ true → b ≡ false → A
unlike b e f = let bad : ◌≡◌ {A = Bool} true false = sym e ∙ f in cc

-- ---- the line that issued a ticket is the only one

-- a line that issues a ticket under a number that was given so far is not among the later ones
issued_before : (history : History) (common place : ℕ) (line : EntryData) (ticket version : ℕ) (reached : State) → IsLegal history → slice_get history.lines place ≡ Some line → line.reply ≡ reply.Permitted ticket version reached
    → is_listed (numbers_issued (past_of (first_lines common history)).stages) ticket ≡ true → place < common
issued_before history common place line ticket version reached legal e r listed = by_order (cases_lt place common)
  where
    by_order : (place < common) ⊎ (common ≤ place) → place < common
    by_order (inl less) = less
    by_order (inr more) = unlike (is_listed (numbers_issued (past_of (first_lines place history)).stages) ticket) (listed_on history common place ticket more listed) (new_there history place line ticket version reached legal e r)

not_after : (history : History) (early place : ℕ) (first second : EntryData) (ticket version label : ℕ) (reached led : State) → IsLegal history
    → slice_get history.lines early ≡ Some first → first.reply ≡ reply.Permitted ticket version reached → slice_get history.lines place ≡ Some second → second.reply ≡ reply.Permitted ticket label led → early < place → ⊥
not_after history early place first second ticket version label reached led legal e r f q less =
    let start : Past = opened history.rolled history.opening in
    let given = subst (λ (p : Past). is_listed (numbers_issued p.stages) ticket ≡ true) (sym (next_place start history.lines early first e)) (given_there (past_of (first_lines early history)) first ticket version reached r) in
    unlike (is_listed (numbers_issued (past_of (first_lines place history)).stages) ticket) (listed_on history (suc early) place ticket (omega (arith, less)) given) (new_there history place second ticket label led legal f q)

only_place : (history : History) (early place : ℕ) (first second : EntryData) (ticket version label : ℕ) (reached led : State) → IsLegal history
    → slice_get history.lines early ≡ Some first → first.reply ≡ reply.Permitted ticket version reached → slice_get history.lines place ≡ Some second → second.reply ≡ reply.Permitted ticket label led → early ≡ place
only_place history early place first second ticket version label reached led legal e r f q = by_order (cases_order early place)
  where
    by_order : (early ≡ place) ⊎ ((early < place) ⊎ (place < early)) → early ≡ place
    by_order (inl same) = same
    by_order (inr (inl less)) = absurd (not_after history early place first second ticket version label reached led legal e r f q less)
    by_order (inr (inr more)) = absurd (not_after history place early second first ticket label version led reached legal f q e r more)

-- ---- two histories with the same first lines

get_first : (lines : List EntryData) (count place : ℕ) (l : EntryData) → place < count → slice_get lines place ≡ Some l → slice_get (take count lines) place ≡ Some l
get_first lines zero place l less e = absurd (omega (arith, less))
get_first [] (suc count) place l less e = no_line l e
get_first (m ∷ lines) (suc count) zero l less e = e
get_first (m ∷ lines) (suc count) (suc place) l less e = get_first lines count place l (omega (arith, less)) e

newest_first : (history : History) (place common : ℕ) → place ≤ common → newest_before place history ≡ newest_before place (first_lines common history)
newest_first history place common le = ap (λ (xs : List EntryData). current_program (fold passed (opened history.rolled history.opening) xs)) (sym (take-take place common history.lines le))

newest_shared : (one other : History) (common place : ℕ) → first_lines common one ≡ first_lines common other → place ≤ common → newest_before place one ≡ newest_before place other
newest_shared one other common place same le = newest_first one place common le ∙ ap (newest_before place) same ∙ sym (newest_first other place common le)

same_versions : (r : Reply) (ticket version label : ℕ) (reached led : State) → r ≡ reply.Permitted ticket version reached → r ≡ reply.Permitted ticket label led → version ≡ label
same_versions r ticket version label reached led p q = let same : ◌≡◌ {A = Reply} (reply.Permitted ticket version reached) (reply.Permitted ticket label led) = sym p ∙ q in cc

agreed : (one other : History) (common place elsewhere ticket : ℕ) (outcome : Outcome) (v w : Verdict) (steps count version label : ℕ) → IsLegal one → IsLegal other → first_lines common one ≡ first_lines common other
    → is_listed (numbers_issued (past_of (first_lines common one)).stages) ticket ≡ true
    → AreOfTheTicket one place ticket outcome v steps version → AreOfTheTicket other elsewhere ticket outcome w count label → (v ≡ w) × (steps ≡ count) × (version ≡ label)
agreed one other common place elsewhere ticket outcome v w steps count version label legal too same listed a b =
    let listed_too = subst (λ (h : History). is_listed (numbers_issued (past_of h).stages) ticket ≡ true) same listed in
    let a_first : a.issuing < common = issued_before one common a.issuing a.line ticket version a.reached legal a.there a.permits listed in
    let b_first : b.issuing < common = issued_before other common b.issuing b.line ticket label b.reached too b.there b.permits listed_too in
    let b_shared : slice_get (take common one.lines) b.issuing ≡ Some b.line = subst (λ (h : History). slice_get h.lines b.issuing ≡ Some b.line) (sym same) (get_first other.lines common b.issuing b.line b_first b.there) in
    let b_here : slice_get one.lines b.issuing ≡ Some b.line = (got_first one.lines common b.issuing b.line b_shared).1 in
    let places : a.issuing ≡ b.issuing = only_place one a.issuing b.issuing a.line b.line ticket version label a.reached b.reached legal a.there a.permits b_here b.permits in
    let lines : a.line ≡ b.line = same_line a.line b.line (sym (subst (λ (n : ℕ). slice_get one.lines n ≡ Some a.line) places a.there) ∙ b_here) in
    let versions : version ≡ label = same_versions b.line.reply ticket version label a.reached b.reached (subst (λ (l : EntryData). l.reply ≡ reply.Permitted ticket version a.reached) lines a.permits) b.permits in
    let programs : newest_before a.issuing one ≡ newest_before b.issuing other = ap (λ (n : ℕ). newest_before n one) places ∙ newest_shared one other common b.issuing same (omega (arith, b_first)) in
    let size : ℕ = context_size (newest_before b.issuing other).layout in
    let judged : Judges size (newest_before b.issuing other).slots outcome v steps = subst (λ (p : VerifiedProgram). Judges (context_size p.layout) p.slots outcome v steps) programs a.judged in
    let slots : List _ = (newest_before b.issuing other).slots in
    (verdicts_agree size slots outcome v w steps count judged b.judged, (ends_agree size slots outcome (answer_of v) (answer_of w) steps count judged b.judged).1, versions)

pub later_ignored : (accepts : Accepting) → Safely accepts → (one other : History) (common place elsewhere ticket : ℕ) (outcome : Outcome) (v w : Verdict) (steps count version label : ℕ) → IsService accepts one → IsService accepts other → first_lines common one ≡ first_lines common other
    → is_listed (numbers_issued (past_of (first_lines common one)).stages) ticket ≡ true
    → Finishes one place ticket outcome v steps version → Finishes other elsewhere ticket outcome w count label → (v ≡ w) × (steps ≡ count) × (version ≡ label)
later_ignored accepts safely one other common place elsewhere ticket outcome v w steps count version label good fine same listed a b =
    agreed one other common place elsewhere ticket outcome v w steps count version label good.legal fine.legal same listed
    (of_its_ticket accepts safely one place ticket outcome v steps version good a)
    (of_its_ticket accepts safely other elsewhere ticket outcome w count label fine b)
