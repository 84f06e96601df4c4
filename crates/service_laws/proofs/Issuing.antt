-- A verdict is that of the program which was the newest when its ticket was issued.
use Rattle.std.proofs.Common.{◌≡◌, ℕ, zero, suc, ◌-◌, ◌≤◌, ◌<◌, ◌⊎◌, inl, inr, nat_le, List, [], ◌∷◌, ◌++◌, take, drop, slice_get, Option, Some, None, option_to_list, arith, refl, ap, sym, ◌∙◌, subst, rules}
use Rattle.std.specs.Prelude.{Contains}
use Rattle.std.specs.List.{fold, filter_map, AllByRecursion}
use Rattle.std.proofs.lemmas.List.{take-take, take-append-drop}
use Rattle.std.proofs.lemmas.List.Elements.{Contains-append_cases}
use Rattle.std.proofs.lemmas.List.Sums.{fold-append}
use Rattle.bpf_profile.specs.declared.machine.Verdict.{Verdict}
use Rattle.bpf_profile.specs.JudgedWork.{JudgedData}
use Rattle.bpf_profile.specs.Outcomes.{Outcome}
use Rattle.bpf_profile.specs.Programs.{VerifiedProgram}
use Rattle.service_profile.specs.declared.replies.Fate.{Fate}
use Rattle.service_profile.specs.declared.replies.Reply.{Reply}
use Rattle.service_profile.specs.declared.replies.Reply.TheVariants as reply
use Rattle.service_profile.specs.declared.states.State.{State}
use Rattle.service_profile.specs.declared.tickets.OpenTicket.{OpenTicket}
use Rattle.service_profile.specs.Answers.{current_program}
use Rattle.service_profile.specs.Events.{EntryData, Opening, History, finishes}
use Rattle.service_profile.specs.Histories.{Past, issue_by, issue_at, issued, install_at, install_by, programs_of, opened, passed, past_of, machine, Follows, AreLegal, IsLegal}
use Rattle.service_profile.specs.Machine.{program_from}
use Rattle.service_profile.specs.MeantVerdicts.{IsMeant}
use Rattle.book.specs.Accepted.{Accepting, IsLine}
use Rattle.book.specs.Laws.{IsService}
use Rattle.service_laws.specs.Promises.{first_lines, newest_before, Finishes, AreOfTheTicket}
use Rattle.book.proofs.Applying.{opening_kept}
use Rattle.book.proofs.Cuts.{from_last}
use Rattle.service_laws.proofs.Endings.{issued_next}
use Rattle.book.proofs.Keeping.{shape_there}
use Rattle.book.proofs.Lawful.{service_sound}
use Rattle.book.proofs.Lists.{map_with, got}
use Rattle.book.proofs.Meaning.{later_held, meant_by}
use Rattle.book.proofs.Accepting.{Safely, programs_safe, judged_safe}

-- ---- the first lines of a history

legal_first : (past : Past) (lines : List EntryData) (count : ℕ) → AreLegal past lines → AreLegal past (take count lines)
legal_first past lines zero legal = tt
legal_first past [] (suc count) legal = tt
legal_first past (l ∷ lines) (suc count) legal = (legal.0, legal_first (passed past l) lines count legal.1)

good_first : (accepts : Accepting) (lines : List EntryData) (count : ℕ) → AllByRecursion (IsLine accepts) lines → AllByRecursion (IsLine accepts) (take count lines)
good_first accepts lines zero good = tt
good_first accepts [] (suc count) good = tt
good_first accepts (l ∷ lines) (suc count) good = (good.0, good_first accepts lines count good.1)

pub legal_there : (history : History) (count : ℕ) → IsLegal history → IsLegal (first_lines count history)
unfolding IsLegal
legal_there history count legal = legal_first (opened history.rolled history.opening) history.lines count legal

service_first : (accepts : Accepting) (history : History) (count : ℕ) → IsService accepts history → IsService accepts (first_lines count history)
service_first accepts history count service = search (rules, legal_there, good_first)

pub no_line : {A : Type 0} (l : EntryData) → ◌≡◌ {A = Option EntryData} None (Some l) → A
no_line l e = cc

pub same_line : (a b : EntryData) → ◌≡◌ {A = Option EntryData} (Some a) (Some b) → a ≡ b
same_line a b e = cc

follows_first : (past : Past) (lines : List EntryData) (place : ℕ) (l : EntryData) → AreLegal past lines → slice_get lines place ≡ Some l → Follows (fold passed past (take place lines)) l
follows_first past [] place l legal e = no_line l e
follows_first past (m ∷ lines) zero l legal e = subst (Follows past) (same_line m l e) legal.0
follows_first past (m ∷ lines) (suc place) l legal e = follows_first (passed past m) lines place l legal.1 e

pub line_follows : (history : History) (place : ℕ) (l : EntryData) → IsLegal history → slice_get history.lines place ≡ Some l → Follows (past_of (first_lines place history)) l
unfolding IsLegal
line_follows history place l legal e = follows_first (opened history.rolled history.opening) history.lines place l legal e

-- a line among the first ones
pub got_first : (lines : List EntryData) (count place : ℕ) (l : EntryData) → slice_get (take count lines) place ≡ Some l → (place < count) × (slice_get lines place ≡ Some l)
got_first lines zero place l e = no_line l e
got_first [] (suc count) place l e = no_line l e
got_first (m ∷ lines) (suc count) zero l e = (omega arith, e)
got_first (m ∷ lines) (suc count) (suc place) l e = let rest = got_first lines count place l e in (omega (arith, rest.0), rest.1)

-- ---- programs stay under their versions

installed_step : (past : Past) (l : EntryData) → programs_of (passed past l) ≡ programs_of past ++ option_to_list (install_by l.event l.reply)
installed_step past l = ap (λ (ps : List VerifiedProgram). past.opening.program ∷ ps) (map_with install_at past.stages (record { line = l; before = past.standing; after = (machine past l.moment l.event).next }))

stays_under : (past : Past) (lines : List EntryData) (version : ℕ) (program : VerifiedProgram) → program_from past.opening.version (programs_of past) version ≡ Some program
    → program_from past.opening.version (programs_of (fold passed past lines)) version ≡ Some program
stays_under past [] version program e = e
stays_under past (l ∷ lines) version program e =
    let more = later_held (nat_le past.opening.version version) (programs_of past) (option_to_list (install_by l.event l.reply)) (version - past.opening.version) program e in
    stays_under (passed past l) lines version program (subst (λ (ps : List VerifiedProgram). program_from past.opening.version ps version ≡ Some program) (sym (installed_step past l)) more)

-- ---- the line that issued a ticket

pub record IsIssuedIn (past : Past) (lines : List EntryData) (t : OpenTicket) : Type 0 where
  pub place : ℕ
  pub line : EntryData
  pub there : slice_get lines place ≡ Some line
  pub reached : State
  pub permits : line.reply ≡ reply.Permitted t.number t.version reached
  pub named : program_from past.opening.version (programs_of (fold passed past (take place lines))) t.version ≡ Some (current_program (fold passed past (take place lines)))

no_ticket : {A : Type 0} (t : OpenTicket) → ◌≡◌ {A = Option OpenTicket} None (Some t) → A
no_ticket t e = cc

same_ticket : (a b : OpenTicket) → ◌≡◌ {A = Option OpenTicket} (Some a) (Some b) → a ≡ b
same_ticket a b e = cc

-- what a reply says that issues a ticket
permitted : (r : Reply) (period moment : ℕ) (t : OpenTicket) → issue_by r period moment ≡ Some t → (reached : State) × (r ≡ reply.Permitted t.number t.version reached)
permitted (reply.Permitted number version reached) period moment t e =
    let same = same_ticket (record { number = number; version = version; period = period; moment = moment }) t e in
    (reached, ap (λ (u : OpenTicket). reply.Permitted u.number u.version reached) same)
permitted (reply.Refused number) period moment t e = no_ticket t e
permitted (reply.Finished f v steps version reached) period moment t e = no_ticket t e
permitted (reply.Released reached) period moment t e = no_ticket t e
permitted (reply.Installed version budget layout) period moment t e = no_ticket t e
permitted (reply.Moved reached p) period moment t e = no_ticket t e

only_one : (o : Option OpenTicket) (t : OpenTicket) → Contains (option_to_list o) t → o ≡ Some t
only_one o t h = search rules

issued_here : (past : Past) (l : EntryData) (lines : List EntryData) (period moment : ℕ) (t : OpenTicket) → Follows past l → issue_by l.reply period moment ≡ Some t → IsIssuedIn past (l ∷ lines) t
issued_here past l lines period moment t follows e =
    let says = permitted l.reply period moment t e in
    record {
      place = 0;
      line = l;
      there = refl;
      reached = says.0;
      permits = says.1;
      named = rw ((issued_next past l period moment follows).version t e) (from_last past.opening.version past.opening.program (filter_map install_at past.stages));
    }

issued_later : (past : Past) (l : EntryData) (lines : List EntryData) (t : OpenTicket) → IsIssuedIn (passed past l) lines t → IsIssuedIn past (l ∷ lines) t
issued_later past l lines t is = record {
  place = suc is.place;
  line = is.line;
  there = is.there;
  reached = is.reached;
  permits = is.permits;
  named = is.named;
}

issued_in : (past : Past) (lines : List EntryData) (t : OpenTicket) → AreLegal past lines → Contains (issued (fold passed past lines).stages) t → Contains (issued past.stages) t ⊎ IsIssuedIn past lines t
issued_in past [] t legal listed = inl listed
issued_in past (l ∷ lines) t legal listed = by_rest (issued_in (passed past l) lines t legal.1 listed)
  where
    by_step : Contains (issued past.stages) t ⊎ Contains (option_to_list (issue_by l.reply (machine past l.moment l.event).next.period l.moment)) t → Contains (issued past.stages) t ⊎ IsIssuedIn past (l ∷ lines) t
    by_step (inl before) = inl before
    by_step (inr new) = inr (issued_here past l lines (machine past l.moment l.event).next.period l.moment t legal.0 (only_one (issue_by l.reply (machine past l.moment l.event).next.period l.moment) t new))

    by_rest : Contains (issued (passed past l).stages) t ⊎ IsIssuedIn (passed past l) lines t → Contains (issued past.stages) t ⊎ IsIssuedIn past (l ∷ lines) t
    by_rest (inl so_far) =
        by_step (Contains-append_cases (issued past.stages) (option_to_list (issue_by l.reply (machine past l.moment l.event).next.period l.moment)) t
        (subst (λ (ts : List OpenTicket). Contains ts t) (map_with issue_at past.stages (record { line = l; before = past.standing; after = (machine past l.moment l.event).next })) so_far))
    by_rest (inr later) = inr (issued_later past l lines t later)

issued_of : (history : History) (t : OpenTicket) → IsLegal history → Contains (issued (past_of history).stages) t → IsIssuedIn (opened history.rolled history.opening) history.lines t
unfolding IsLegal
issued_of history t legal listed = search (rules, issued_in)

-- ---- the verdict

same_program : (a b : VerifiedProgram) (o : Option VerifiedProgram) → o ≡ Some a → o ≡ Some b → a ≡ b
same_program a b o p q = let same : ◌≡◌ {A = Option VerifiedProgram} (Some a) (Some b) = sym p ∙ q in cc

-- what a history says at a later place, from what it says at an earlier one
pub past_on : (history : History) (early place : ℕ) → early ≤ place → past_of (first_lines place history) ≡ fold passed (past_of (first_lines early history)) (drop early (take place history.lines))
past_on history early place le =
    let start : Past = opened history.rolled history.opening in
    let rest : List EntryData = drop early (take place history.lines) in
    let whole : take early history.lines ++ rest ≡ take place history.lines = ap (λ (xs : List EntryData). xs ++ rest) (sym (take-take early place history.lines le)) ∙ take-append-drop early (take place history.lines) in
    sym (ap (λ (xs : List EntryData). fold passed start xs) whole) ∙ fold-append passed start (take early history.lines) rest

-- the newest program at the issuing line still has its version at a later place
still_named : (history : History) (place issuing version : ℕ) → issuing ≤ place
    → program_from history.opening.version (programs_of (past_of (first_lines issuing history))) version ≡ Some (newest_before issuing history)
    → program_from history.opening.version (programs_of (past_of (first_lines place history))) version ≡ Some (newest_before issuing history)
still_named history place issuing version le named =
    let program : VerifiedProgram = newest_before issuing history in
    let start : Past = opened history.rolled history.opening in
    let early : Past = past_of (first_lines issuing history) in
    let rest : List EntryData = drop issuing (take place history.lines) in
    let same : past_of (first_lines place history) ≡ fold passed early rest = past_on history issuing place le in
    let kept : early.opening.version ≡ history.opening.version = ap (λ (o : Opening). o.version) (opening_kept start (take issuing history.lines)) in
    let stays = stays_under early rest version program (subst (λ (n : ℕ). program_from n (programs_of early) version ≡ Some program) (sym kept) named) in
    subst (λ (p : Past). program_from history.opening.version (programs_of p) version ≡ Some program) (sym same)
    (subst (λ (n : ℕ). program_from n (programs_of (fold passed early rest)) version ≡ Some program) kept stays)

by_ticket : (history : History) (place : ℕ) (work : JudgedData) (ticket : ℕ) (v : Verdict) (steps version : ℕ)
    → (is_meant : IsMeant history.opening.version (programs_of (past_of (first_lines place history))) (issued (past_of (first_lines place history)).stages) work ticket v steps version)
    → IsIssuedIn (opened history.rolled history.opening) (take place history.lines) is_meant.issued → AreOfTheTicket history place ticket work.outcome v steps version
by_ticket history place work ticket v steps version is_meant is = search (rules, got_first, take-take, same_program, still_named)

finished_so : (accepts : Accepting) → Safely accepts → (history : History) (place : ℕ) (line : EntryData) (work : JudgedData) (ticket : ℕ) (f : Fate) (v : Verdict) (steps version : ℕ) (reached : State) → IsService accepts history → slice_get history.lines place ≡ Some line
    → line.event ≡ finishes work ticket → line.reply ≡ reply.Finished f v steps version reached → AreOfTheTicket history place ticket work.outcome v steps version
finished_so accepts safely history place line work ticket f v steps version reached service e event replied =
    let before : History = first_lines place history in
    let past : Past = past_of before in
    let good : IsService accepts before = service_first accepts history place service in
    let sound = service_sound accepts safely before good in
    let follows = line_follows history place line service.legal e in
    let judged = judged_safe accepts safely work ((got (IsLine accepts) history.lines place line service.lines e).event.judged work ticket event) in
    let found = meant_by past line.event (machine past line.moment line.event) work ticket f v steps version reached (programs_safe accepts safely (programs_of past) sound.programs) judged (shape_there past line sound) event (sym follows.replied ∙ replied) in
    let kept : past.opening.version ≡ history.opening.version = ap (λ (o : Opening). o.version) (opening_kept (opened history.rolled history.opening) (take place history.lines)) in
    let is_meant = subst (λ (n : ℕ). IsMeant n (programs_of past) (issued past.stages) work ticket v steps version) kept found in
    by_ticket history place work ticket v steps version is_meant (issued_of before is_meant.issued good.legal is_meant.listed)

pub of_its_ticket : (accepts : Accepting) → Safely accepts → (history : History) (place ticket : ℕ) (outcome : Outcome) (v : Verdict) (steps version : ℕ) → IsService accepts history → Finishes history place ticket outcome v steps version → AreOfTheTicket history place ticket outcome v steps version
of_its_ticket accepts safely history place ticket outcome v steps version service is =
    subst (λ (o : Outcome). AreOfTheTicket history place ticket o v steps version) is.brought
    (finished_so accepts safely history place is.line is.work ticket is.fate v steps version is.reached service is.there is.finished is.replied)
