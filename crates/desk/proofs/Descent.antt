-- Whose history it is, from call to call.
use Rattle.std.proofs.Common.{◌≡◌, ◌∙◌, ◌<◌, ◌≤◌, ◌+◌, ◌||◌, ℕ, zero, suc, nat_lt, sum, Bool, true, false, if◌then◌else◌, List, [], ◌∷◌, ◌++◌, map, length, Result, Ok, Err, String, Global, arith, refl, sym, ap, subst}
use Rattle.std.proofs.lemmas.Bool.{ltb-false}
use Rattle.std.proofs.lemmas.List.{length-map}
use Rattle.std.proofs.lemmas.List.Sums.{sum_by-append}
use Rattle.std.specs.List.{fold, AllByRecursion}
use Rattle.std.specs.Prelude.{Contains, slice_index_or, string_bytes}
use Rattle.refusals.specs.declared.RefusalNumber.{RefusalNumber}
use Rattle.refusals.specs.declared.RefusalNumber.TheVariants as refusal
use Rattle.service_profile.specs.declared.replies.Reply.{Reply}
use Rattle.service_profile.specs.Answers.{answer, line_of, with_line, IsApplied, as_documented, out_of_memory, IsCut, cuts, no_room, cut, after_cut, handed_out, held_lines, reopened, is_past_the_limit, is_some_open, is_worn_out, IsRolled, rolls, after_roll, lines_up_to}
use Rattle.service_profile.specs.Answers as answers
use Rattle.service_profile.specs.Events.{EventData, EntryData, Opening, History, history_of}
use Rattle.service_profile.specs.Histories.{Past, past_of, opened, passed, situation_of, next_line}
use Rattle.service_profile.specs.Limits.{greatest_number}
use Rattle.service_profile.specs.Machine.{is_entered, current_version}
use Rattle.book.proofs.Deciding.{decision_near}
use Rattle.service_profile.specs.FirstOpening.{first_opening_from}
use Rattle.book.specs.Good.{IsGood}
use Rattle.desk.specs.Kept.{IsOfOne, AreOfSome, most_cuts}
use Rattle.book.specs.Reopened.{IsOpeningAfter}
use Rattle.service_profile.specs.declared.configuration.Config.{Config}
use Rattle.verifier.specs.declared.verified.Verified.{Verified}
use Rattle.desk.specs.Services.{ServiceData, service_from}

-- it goes by the opening
pub of_same : (services : List ServiceData) (number : ℕ) (h after : History) → after.opening ≡ h.opening → IsOfOne services number h → IsOfOne services number after
of_same services number h after same of_ = (of_.0, of_.1, subst (λ o. IsOpeningAfter (first_opening_from of_.0.ticket of_.0.config of_.0.program) number o) (sym same) of_.2)

entered_opening : (h : History) (l : EntryData) (b : Bool) → (if b then with_line h l else h).opening ≡ h.opening
entered_opening h l true = refl
entered_opening h l false = refl

-- an event leaves the opening
pub applied_opening : (h : History) (seat moment : ℕ) (event : EventData) (r : Reply) (after : History) → IsApplied h seat moment event r after → after.opening ≡ h.opening
applied_opening h seat moment event r after (as_documented is leads) = rw leads (entered_opening h (line_of h seat moment event) (is_entered (answer h moment event).reply))
applied_opening h seat moment event r after (out_of_memory is entered same) = rw same refl

rolled_by : (h : History) (last : ℕ) (worn : Bool) → (after_roll h last (if worn then Err refusal.JournalFull else Ok (lines_up_to h last))).opening ≡ h.opening
rolled_by h last true = refl
rolled_by h last false = refl

-- a roll leaves the opening
pub rolled_opening : (h : History) (last : ℕ) (found : Result (List EntryData) RefusalNumber) (after : History) → IsRolled h last found after → after.opening ≡ h.opening
rolled_opening h last found after (rolls is leads) = rw leads (rolled_by h last (is_worn_out (past_of h)))
rolled_opening h last found after (answers.no_room lines is less r same) = rw same refl

not_refused : (lines : List EntryData) (number : RefusalNumber) → ◌≡◌ {A = Result (List EntryData) RefusalNumber} (Ok lines) (Err number) → ⊥
not_refused lines number is = cc

cut_by : (services : List ServiceData) (number : ℕ) (h : History) (lines : List EntryData) (opened : Result Opening RefusalNumber) → cut (past_of h) ≡ opened → Ok lines ≡ handed_out h opened → IsGood h → IsOfOne services number h → IsOfOne services (suc number) (after_cut h opened)
cut_by services number h lines (Ok opening) is given good of_ = (of_.0, of_.1, (h, of_.2, good, is))
cut_by services number h lines (Err refused) is given good of_ = absurd (not_refused lines refused given)

refused_cut : (h : History) (opened : Result Opening RefusalNumber) (number : RefusalNumber) → Err number ≡ handed_out h opened → after_cut h opened ≡ h
refused_cut h (Ok opening) number is = let bad : ◌≡◌ {A = Result (List EntryData) RefusalNumber} (Err number) (Ok (held_lines h)) = is in cc
refused_cut h (Err other) number is = refl

-- ---- there are no more cuts than periods

grows : (past : Past) (lines : List EntryData) → past.standing.period ≤ (fold passed past lines).standing.period
grows past [] = omega arith
grows past (line ∷ lines) =
    let one : past.standing.period ≤ (passed past line).standing.period = (decision_near (situation_of past) line.moment line.event).least in
    let rest : (passed past line).standing.period ≤ (fold passed (passed past line) lines).standing.period = grows (passed past line) lines in
    omega (arith, one, rest)

-- the opening of a cut begins a later period, which is within the limit
within : (past : Past) (opening : Opening) (period : ℕ) (version : Bool) → period ≡ suc past.standing.period → (some worn : Bool) → nat_lt greatest_number period ≡ worn → (if (worn || version) then Err refusal.JournalFull else (if some then Err refusal.TicketsOpen else Ok (reopened past))) ≡ Ok opening → (opening.period ≡ suc past.standing.period) × (opening.period ≤ greatest_number)
within past opening period version same some true test is = let bad : ◌≡◌ {A = Result Opening RefusalNumber} (Err refusal.JournalFull) (Ok opening) = is in cc
within past opening period true same some false test is = let bad : ◌≡◌ {A = Result Opening RefusalNumber} (Err refusal.JournalFull) (Ok opening) = is in cc
within past opening period false same true false test is = let bad : ◌≡◌ {A = Result Opening RefusalNumber} (Err refusal.TicketsOpen) (Ok opening) = is in cc
within past opening period false same false false test is =
    let e : ◌≡◌ {A = Result Opening RefusalNumber} (Ok (reopened past)) (Ok opening) = is in
    let o : reopened past ≡ opening = cc in
    let p : suc past.standing.period ≡ opening.period = ap (λ (k : Opening). k.period) o in
    let most : period ≤ greatest_number = ltb-false greatest_number period test in
    (sym p, omega (arith, p, same, most))

period_by : (past : Past) (opening : Opening) (line ticket : Bool) (period : ℕ) (version : Bool) → period ≡ suc past.standing.period → (some : Bool) → (if (line || (ticket || (is_past_the_limit period || version))) then Err refusal.JournalFull else (if some then Err refusal.TicketsOpen else Ok (reopened past))) ≡ Ok opening → (opening.period ≡ suc past.standing.period) × (opening.period ≤ greatest_number)
period_by past opening true ticket period version same some is = let bad : ◌≡◌ {A = Result Opening RefusalNumber} (Err refusal.JournalFull) (Ok opening) = is in cc
period_by past opening false true period version same some is = let bad : ◌≡◌ {A = Result Opening RefusalNumber} (Err refusal.JournalFull) (Ok opening) = is in cc
period_by past opening false false period version same some is = within past opening period version same some (nat_lt greatest_number period) refl is

cut_period : (past : Past) (opening : Opening) → cut past ≡ Ok opening → (opening.period ≡ suc past.standing.period) × (opening.period ≤ greatest_number)
cut_period past opening is = period_by past opening (is_past_the_limit (next_line past)) (is_past_the_limit (situation_of past).next_ticket) (suc past.standing.period) (is_past_the_limit (suc (current_version (situation_of past)))) refl (is_some_open (situation_of past).open_tickets) is

pub few_cuts : (first : Opening) (number : ℕ) (opening : Opening) → first.period ≡ 1 → IsOpeningAfter first number opening → (number + 1 ≤ opening.period) × (opening.period ≤ greatest_number)
few_cuts first zero opening one is = let e : opening.period ≡ 1 = ap (λ (o : Opening). o.period) is ∙ one in (omega (arith, e), omega (arith, e))
few_cuts first (suc number) opening one (before, of_, good, is) =
    let earlier = few_cuts first number before.opening one of_ in
    let more : before.opening.period ≤ (past_of before).standing.period = grows (opened before.rolled before.opening) before.lines in
    let next = cut_period (past_of before) opening is in
    (omega (arith, earlier.0, more, next.0), next.1)

-- behind a cut that handed out entries the history is of the same service, after one cut more
pub of_cut : (services : List ServiceData) (cuts : ℕ) (h : History) (lines : List EntryData) (after : History) → IsGood h → IsCut h (Ok lines) after → IsOfOne services cuts h → IsOfOne services (suc cuts) after
of_cut services number h lines after good (cuts is leads) of_ = subst (λ a. IsOfOne services (suc number) a) (sym leads) (cut_by services number h lines (cut (past_of h)) refl is good of_)
of_cut services number h lines after good (no_room opening is r same) of_ = absurd (not_refused lines refusal.ServiceOutOfMemory r)

-- a cut that was refused leaves the history
pub none_cut : (h : History) (number : RefusalNumber) (after : History) → IsCut h (Err number) after → after ≡ h
none_cut h number after (cuts is leads) = leads ∙ refused_cut h (cut (past_of h)) number is
none_cut h number after (no_room opening is r same) = same

-- the element behind those that are done
behind : {A B : Type 0} (f : A → B) (done : List A) (x : A) (later : List A) (other : B) → slice_index_or (map f (done ++ x ∷ later)) (length done) other ≡ f x
behind f [] x later other = refl
behind f (y ∷ done) x later other = behind f done x later other

fewer : {A B : Type 0} (f : A → B) (done : List A) (x : A) (later : List A) → length done < length (map f (done ++ x ∷ later))
fewer f [] x later = omega arith
fewer f (y ∷ done) x later = let e : length done < length (map f (done ++ x ∷ later)) = fewer f done x later in omega (arith, e)

-- the services that are opened are numbered by this first ticket
module _ (ticket : ℕ) where
  -- the history of a service that opens is of one of those that are opened
  pub opens_one : (done later : List (String Global × Config × Verified)) (part : String Global × Config × Verified) (services : List ServiceData) (whole : List (String Global × Config × Verified)) → services ≡ map (service_from ticket) whole → whole ≡ done ++ (part ∷ later) → IsOfOne services 0 (history_of (first_opening_from ticket part.1 part.2) [])
  opens_one done later part services whole offered is =
      let all : services ≡ map (service_from ticket) (done ++ part ∷ later) = offered ∙ ap (λ w. map (service_from ticket) w) is in
      let among : Contains (map (service_from ticket) (done ++ part ∷ later)) (service_from ticket part) = (length done, fewer (service_from ticket) done part later, behind (service_from ticket) done part later (service_from ticket part)) in
      (service_from ticket part, subst (λ s. Contains s (service_from ticket part)) (sym all) among, refl)

  named : (openings : List (String Global × Config × Verified)) → map (λ (s : ServiceData). s.name) (map (service_from ticket) openings) ≡ map (λ (o : String Global × Config × Verified). string_bytes o.0) openings
  named [] = refl
  named (opening ∷ openings) = ap (λ later. string_bytes opening.0 ∷ later) (named openings)

  -- what lies behind the locks has the names of the services that are opened, and as many there are
  pub names_offered : {A : Type 0} (name : A → List ℕ) (services : List ServiceData) (openings : List (String Global × Config × Verified)) (opened : List A) → services ≡ map (service_from ticket) openings → map name opened ≡ map (λ (o : String Global × Config × Verified). string_bytes o.0) openings → map (λ (s : ServiceData). s.name) services ≡ map name opened
  names_offered name services openings opened offered names = ap (λ ss. map (λ (s : ServiceData). s.name) ss) offered ∙ (named openings ∙ sym names)

  pub as_many_offered : {A : Type 0} (name : A → List ℕ) (services : List ServiceData) (openings : List (String Global × Config × Verified)) (opened : List A) → services ≡ map (service_from ticket) openings → map name opened ≡ map (λ (o : String Global × Config × Verified). string_bytes o.0) openings → length services ≡ length opened
  as_many_offered name services openings opened offered names =
      sym (length-map services (λ (s : ServiceData). s.name)) ∙ (ap length (names_offered name services openings opened offered names) ∙ length-map opened name)

-- one history more
pub one_more_of : (services : List ServiceData) (numbers : List ℕ) (histories : List History) (number : ℕ) (h : History) → AreOfSome services numbers histories → IsOfOne services number h → AreOfSome services (numbers ++ number ∷ []) (histories ++ h ∷ [])
one_more_of services [] [] number h all one = (one, tt)
one_more_of services [] (k ∷ histories) number h all one = absurd all
one_more_of services (n ∷ numbers) [] number h all one = absurd all
one_more_of services (n ∷ numbers) (k ∷ histories) number h all one = (all.0, one_more_of services numbers histories number h all.1 one)

pub sum_more : (numbers : List ℕ) (n : ℕ) → sum (numbers ++ n ∷ []) ≡ sum numbers + n
sum_more numbers n = let e : sum (numbers ++ n ∷ []) ≡ sum numbers + sum (n ∷ []) = sum_by-append (λ x. x) numbers (n ∷ []) in let one : sum (n ∷ []) ≡ n = omega arith in e ∙ ap (λ k. sum numbers + k) one

-- the token of a cut that handed out entries was left
pub has_left : (services : List ServiceData) (number left : ℕ) (h : History) (lines : List EntryData) (after : History) → IsGood h → IsCut h (Ok lines) after → IsOfOne services number h → left + number ≡ most_cuts → 1 ≤ left
has_left services number left h lines after good was of_ all =
    let next = of_cut services number h lines after good was of_ in
    let few = few_cuts (first_opening_from next.0.ticket next.0.config next.0.program) (suc number) after.opening refl next.2 in
    omega (arith, all, few.0, few.1)

pub good_more : (histories : List History) (h : History) → AllByRecursion IsGood histories → IsGood h → AllByRecursion IsGood (histories ++ h ∷ [])
good_more [] h all good = (good, tt)
good_more (k ∷ histories) h all good = (all.0, good_more histories h all.1 good)
