-- Two readings of the same bytes are one, but where two are allowed.
use Rattle.std.proofs.Common.{◌≡◌, ◌≢◌, ◌⊎◌, ℕ, ◌+◌, ◌-◌, ◌<◌, ◌≤◌, List, [], ◌∷◌, ◌++◌, length, take, drop, false, Result, Ok, Err, ap, sym, ◌∙◌, refl, arith, inl, inr, length-append, lit≤}
use Rattle.std.proofs.lemmas.List.{append-nil}
use Rattle.std.proofs.Math.Seq.{take-add, take-append_seam, drop-append_seam}
use Rattle.std.proofs.lemmas.Bool.{false≢true}
use Rattle.std.proofs.lemmas.List.Elements.{All-cons, All-nil}
use Rattle.httparse.specs.Grammar.{RequestHead, print_request, IsRequestHead, ReadsRequest, HasNoRequest, NeverHasRequest, MayBecomeRequest, EndsInTarget, crlf, IsField, is_token_byte, is_uri_byte, print_blank, print_version, print_end, print_section}
use Rattle.httparse.proofs.GrammarLemmas.{request_unique, print_request-append}
use Rattle.std.specs.Prelude.{IsTrue}
use Rattle.refusals.specs.declared.RefusalNumber.{RefusalNumber}
use Rattle.refusals.specs.declared.RefusalNumber.TheVariants as refusal
use Rattle.http_messages.specs.declared.front.Fault.{Fault}
use Rattle.http_messages.specs.Fields.{body_of, ends_connection, is_head_method}
use Rattle.http_messages.specs.Heads.{head_limit, searched, BeginsWithHead, IsHopeless, IsTooLong, IsPartOfHead}
use Rattle.http_messages.specs.Messages.{Message, BeginsWith, HasFault, IsPartOfMessage, AreMessages, no_head, Ending, closed, truncated, refused, final, IsEnding, IsInput}
use Rattle.http_messages.specs.Readings.{IsUndecided, IsOtherEnding, AreBothAllowed, has_head, is_refused, said, AreBothSaid}
use Rattle.http_messages.specs.Fronts.{IsFront, IsHeadAt}
use Rattle.http_messages.specs.declared.front.Front.{Front}
use Rattle.http_messages.specs.declared.front.Front.TheVariants as front
use Rattle.http_messages.specs.declared.front.Head.{Head}
use Rattle.httparse.specs.Spans.{span_bytes}
use Rattle.http_messages.proofs.Found.{take_all}

-- ---- what is there excludes what isn't

take_past : (xs ys : List ℕ) (n : ℕ) → take (length xs + n) (xs ++ ys) ≡ xs ++ take n ys
take_past xs ys n = rw (take-add (length xs) n (xs ++ ys), take-append_seam xs ys, drop-append_seam xs ys)

-- a head within the first n bytes is a head of these
reads_first : (n : ℕ) (input : List ℕ) (h : RequestHead) (rest : List ℕ) → ReadsRequest input h rest → length (print_request h) ≤ n
    → ReadsRequest (take n input) h (take (n - length (print_request h)) rest)
reads_first n input h rest reads fits =
    let all : n ≡ length (print_request h) + (n - length (print_request h)) = omega (arith, fits) in
    (reads.0, ap (λ k. take k input) all ∙ ap (λ z. take (length (print_request h) + (n - length (print_request h))) z) reads.1 ∙ take_past (print_request h) rest (n - length (print_request h)))

pub none_first : (n : ℕ) (input : List ℕ) (h : RequestHead) (rest : List ℕ) → ReadsRequest input h rest → length (print_request h) ≤ n → HasNoRequest (take n input) → ⊥
none_first n input h rest reads fits none = none h (take (n - length (print_request h)) rest) (reads_first n input h rest reads fits)

pub never_none : (bytes : List ℕ) → NeverHasRequest bytes → HasNoRequest bytes
never_none bytes never h rest reads = never [] h rest (rw (append-nil bytes) reads)

pub never_target : (bytes : List ℕ) → NeverHasRequest bytes → MayBecomeRequest bytes → EndsInTarget bytes
never_target bytes never (inl (more, h, reads)) = absurd (never more h [] reads)
never_target bytes never (inr target) = target

pub not_hopeless : (input : List ℕ) (h : RequestHead) (rest : List ℕ) → BeginsWithHead input h rest → IsHopeless input → ⊥
not_hopeless input h rest begins never = none_first 8192 input h rest begins.0 begins.1 (never_none (searched input) never)

pub not_too_long : (input : List ℕ) (h : RequestHead) (rest : List ℕ) → BeginsWithHead input h rest → IsTooLong input → ⊥
not_too_long input h rest begins long = none_first 8192 input h rest begins.0 begins.1 long.1

pub not_part : (input : List ℕ) (h : RequestHead) (rest : List ℕ) → BeginsWithHead input h rest → IsPartOfHead input → ⊥
not_part input h rest begins part = part.1 h rest begins.0

-- what ends within its target and is hopeless
pub long_undecided : (input : List ℕ) → IsHopeless input → IsTooLong input → IsUndecided input
long_undecided input never long = (never, never_target (searched input) never long.2)

pub part_undecided : (input : List ℕ) → IsHopeless input → IsPartOfHead input → IsUndecided input
part_undecided input never part =
    let all : searched input ≡ input = take_all 8192 input part.0 in
    (never, never_target (searched input) never (rw all part.2))

-- ---- nothing is not hopeless

-- "G / HTTP/1.1" and an empty line
abbrev least : RequestHead
least = record { blank = []; method = 71 ∷ []; target = 47 ∷ []; minor = 1; line_end = crlf; fields = []; last = crlf }

least_is : IsRequestHead least
unfolding is_token_byte lib.Utf8.encode
least_is = record {
  method = (omega arith, All-cons (λ b. IsTrue (is_token_byte b)) 71 [] refl (All-nil (λ b. IsTrue (is_token_byte b))));
  target = (omega arith, All-cons (λ b. IsTrue (is_uri_byte b)) 47 [] refl (All-nil (λ b. IsTrue (is_uri_byte b))));
  target_text = (47 ∷ [], (refl, refl));
  minor = omega arith;
  fields = All-nil IsField;
}

pub nothing_is_open : IsHopeless [] → ⊥
nothing_is_open never = never (print_request least) least [] (least_is, sym (append-nil (print_request least)))

-- a head has some bytes
pub head_is_some : (h : RequestHead) (rest : List ℕ) → ReadsRequest [] h rest → ⊥
head_is_some h rest (is, same) =
    let behind = 32 ∷ (h.target ++ 32 ∷ (print_version h.minor ++ (print_end h.line_end ++ (print_section h.fields h.last ++ rest)))) in
    let none : length {A = ℕ} [] ≡ length (print_blank h.blank) + (length h.method + length behind) =
    ap length (same ∙ print_request-append h rest) ∙ length-append (print_blank h.blank) (h.method ++ behind) ∙ ap (λ n. length (print_blank h.blank) + n) (length-append h.method behind) in
    omega (arith, none, is.method.0)

-- ---- one front of an input

-- heads of the same bytes are one, with the same behind it
pub one_head : (input : List ℕ) (h k : RequestHead) (rest left : List ℕ) → BeginsWithHead input h rest → BeginsWithHead input k left → (h ≡ k) × (rest ≡ left)
one_head input h k rest left begins other = request_unique input h k rest left begins.0 other.0

-- a head whose fields are refused
abbrev pub IsRefusedHead : List ℕ → Fault → Type 0
IsRefusedHead input fault =
    (head : RequestHead) × (rest : List ℕ) × BeginsWithHead input head rest
    × (body_of head ≡ Err fault.number) × (fault.to_head ≡ is_head_method head.method)

refused_alike : (input : List ℕ) (one other : Fault) → IsRefusedHead input one → IsRefusedHead input other → one ≡ other
refused_alike input one other (h, rest, begins, refused_is, to) (k, left, begins', refused_is', to') =
    let same : h ≡ k = (one_head input h k rest left begins begins').0 in
    let both : ◌≡◌ {A = Result ℕ RefusalNumber} (Err one.number) (Err other.number) = sym refused_is ∙ ap body_of same ∙ refused_is' in
    let number : one.number ≡ other.number = cc in
    let kind : one.to_head ≡ other.to_head = to ∙ ap (λ z. is_head_method z.method) same ∙ sym to' in
    λ i. record { number = number i; to_head = kind i }

-- no continuation of the bytes that are searched is a head, which need not be seen before the request target ends
abbrev pub AreTwoFaults : List ℕ → Fault → Fault → Type 0
AreTwoFaults input one other =
    IsUndecided input × (head_limit ≤ length input)
    × (((one ≡ no_head refusal.BadHead) × (other ≡ no_head refusal.HeadTooLarge))
    ⊎ ((other ≡ no_head refusal.BadHead) × (one ≡ no_head refusal.HeadTooLarge)))

-- the faults of one input
pub faults_agree : (input : List ℕ) (one other : Fault) → HasFault input one → HasFault input other → (one ≡ other) ⊎ AreTwoFaults input one other
faults_agree input one other (inl (is, never)) (inl (is', never')) = inl (is ∙ sym is')
faults_agree input one other (inl (is, never)) (inr (inl (is', long))) = inr (long_undecided input never long, long.0, inl (is, is'))
faults_agree input one other (inl (is, never)) (inr (inr (h, rest, begins, refused_is, to))) = absurd (not_hopeless input h rest begins never)
faults_agree input one other (inr (inl (is, long))) (inl (is', never)) = inr (long_undecided input never long, long.0, inr (is', is))
faults_agree input one other (inr (inl (is, long))) (inr (inl (is', long'))) = inl (is ∙ sym is')
faults_agree input one other (inr (inl (is, long))) (inr (inr (h, rest, begins, refused_is, to))) = absurd (not_too_long input h rest begins long)
faults_agree input one other (inr (inr (h, rest, begins, refused_is, to))) (inl (is, never)) = absurd (not_hopeless input h rest begins never)
faults_agree input one other (inr (inr (h, rest, begins, refused_is, to))) (inr (inl (is, long))) = absurd (not_too_long input h rest begins long)
faults_agree input one other (inr (inr head)) (inr (inr head')) = inl (refused_alike input one other head head')

lt_le_absurd : (n m : ℕ) → n < m → m ≤ n → ⊥
lt_le_absurd n m below above = omega (arith, below, above)

none_not_long : (n m : ℕ) → n ≡ 0 → m ≤ n → 1 ≤ m → ⊥
none_not_long n m none long some = omega (arith, none, long, some)

-- nothing is no message that is refused
pub nothing_not_refused : (input : List ℕ) (fault : Fault) → input ≡ [] → HasFault input fault → ⊥
nothing_not_refused input fault none (inl (is, never)) = nothing_is_open (rw none at never)
nothing_not_refused input fault none (inr (inl (is, long))) = none_not_long (length input) head_limit (ap length none) long.0 (lit≤ tt)
nothing_not_refused input fault none (inr (inr (h, rest, begins, refused_is, to))) = head_is_some h rest (rw none at begins.0)

-- a head that is cut short, and a message that is refused
part_or_refused : (input : List ℕ) (fault : Fault) → IsPartOfHead input → HasFault input fault → (fault ≡ no_head refusal.BadHead) × IsUndecided input
part_or_refused input fault part (inl (is, never)) = (is, part_undecided input never part)
part_or_refused input fault part (inr (inl (is, long))) = absurd (lt_le_absurd (length input) head_limit part.0 long.0)
part_or_refused input fault part (inr (inr (h, rest, begins, refused_is, to))) = absurd (not_part input h rest begins part)

-- a head with a length, and a message that is refused
head_not_refused : (input : List ℕ) (h : RequestHead) (rest : List ℕ) (size : ℕ) (fault : Fault) → BeginsWithHead input h rest → body_of h ≡ Ok size → HasFault input fault → ⊥
head_not_refused input h rest size fault begins body (inl (is, never)) = not_hopeless input h rest begins never
head_not_refused input h rest size fault begins body (inr (inl (is, long))) = not_too_long input h rest begins long
head_not_refused input h rest size fault begins body (inr (inr (k, left, begins', refused_is, to))) =
    let same : h ≡ k = (one_head input h k rest left begins begins').0 in
    let both : ◌≡◌ {A = Result ℕ RefusalNumber} (Ok size) (Err fault.number) = sym body ∙ ap body_of same ∙ refused_is in
    absurd cc

-- a message that is cut short, and one that is refused
cut_or_refused : (input : List ℕ) (fault : Fault) → IsPartOfMessage input → HasFault input fault → (fault ≡ no_head refusal.BadHead) × IsUndecided input × (length input < head_limit)
cut_or_refused input fault (some, inl part) faulty = let both = part_or_refused input fault part faulty in (both.0, both.1, part.0)
cut_or_refused input fault (some, inr (h, rest, size, begins, body, short)) faulty = absurd (head_not_refused input h rest size fault begins body faulty)

-- ---- whole messages

-- whole messages at the front of an input are one, with the same behind them
pub one_message : (input : List ℕ) (one other : Message) (rest left : List ℕ) → BeginsWith input one rest → BeginsWith input other left → (one ≡ other) × (rest ≡ left)
one_message input one other rest left (begins, body) (begins', body') =
    let same = one_head input one.head other.head (one.body ++ rest) (other.body ++ left) begins begins' in
    let both : ◌≡◌ {A = Result ℕ RefusalNumber} (Ok (length one.body)) (Ok (length other.body)) = sym body ∙ ap body_of same.0 ∙ body' in
    let sizes : length one.body ≡ length other.body = cc in
    let bodies : one.body ≡ other.body =
    sym (take-append_seam one.body rest) ∙ ap (λ z. take (length one.body) z) same.1 ∙ ap (λ n. take n (other.body ++ left)) sizes ∙ take-append_seam other.body left in
    let rests : rest ≡ left =
    sym (drop-append_seam one.body rest) ∙ ap (λ z. drop (length one.body) z) same.1 ∙ ap (λ n. drop n (other.body ++ left)) sizes ∙ drop-append_seam other.body left in
    (λ i. record { head = same.0 i; body = bodies i }, rests)

pub not_refused : (input : List ℕ) (message : Message) (rest : List ℕ) (fault : Fault) → BeginsWith input message rest → HasFault input fault → ⊥
not_refused input message rest fault begins faulty = head_not_refused input message.head (message.body ++ rest) (length message.body) fault begins.0 begins.1 faulty

pub not_cut : (input : List ℕ) (message : Message) (rest : List ℕ) → BeginsWith input message rest → IsPartOfMessage input → ⊥
not_cut input message rest begins (some, inl part) = not_part input message.head (message.body ++ rest) begins.0 part
not_cut input message rest begins (some, inr (h, left, size, begins', body, short)) =
    let same = one_head input h message.head left (message.body ++ rest) begins' begins.0 in
    let both : ◌≡◌ {A = Result ℕ RefusalNumber} (Ok size) (Ok (length message.body)) = sym body ∙ ap body_of same.0 ∙ begins.1 in
    let sizes : size ≡ length message.body = cc in
    let long : length left ≡ length message.body + length rest = ap length same.1 ∙ length-append message.body rest in
    omega (arith, sizes, long, short)

pub not_nothing : (message : Message) (rest : List ℕ) → BeginsWith [] message rest → ⊥
not_nothing message rest begins = head_is_some message.head (message.body ++ rest) begins.0.0

-- ---- one ending

refusals_agree : (input : List ℕ) (one other : Fault) → (one ≡ other) ⊎ AreTwoFaults input one other → (refused one ≡ refused other) ⊎ AreBothAllowed input (refused one) (refused other)
refusals_agree input one other (inl same) = inl (ap refused same)
refusals_agree input one other (inr (undecided, long, inl (bad, large))) = inr (undecided, inl (ap refused bad, inr (long, ap refused large)))
refusals_agree input one other (inr (undecided, long, inr (bad, large))) = inr (undecided, inr (ap refused bad, inr (long, ap refused large)))

pub endings_agree : (input : List ℕ) (one other : Ending) → IsEnding input one → IsEnding input other → (one ≡ other) ⊎ AreBothAllowed input one other
endings_agree input closed closed is is' = inl refl
endings_agree input closed truncated is is' = absurd (is'.0 is)
endings_agree input closed (refused fault) is is' = absurd (nothing_not_refused input fault is is')
endings_agree input closed (final message) is (rest, begins, ends) = absurd (not_nothing message rest (rw is at begins))
endings_agree input truncated closed is is' = absurd (is.0 is')
endings_agree input truncated truncated is is' = inl refl
endings_agree input truncated (refused fault) is is' =
    let both = cut_or_refused input fault is is' in
    inr (both.1, inr (ap refused both.0, inl (both.2, refl)))
endings_agree input truncated (final message) is (rest, begins, ends) = absurd (not_cut input message rest begins is)
endings_agree input (refused fault) closed is is' = absurd (nothing_not_refused input fault is' is)
endings_agree input (refused fault) truncated is is' =
    let both = cut_or_refused input fault is' is in
    inr (both.1, inl (ap refused both.0, inl (both.2, refl)))
endings_agree input (refused fault) (refused other) is is' = refusals_agree input fault other (faults_agree input fault other is is')
endings_agree input (refused fault) (final message) is (rest, begins, ends) = absurd (not_refused input message rest fault begins is)
endings_agree input (final message) closed (rest, begins, ends) is = absurd (not_nothing message rest (rw is at begins))
endings_agree input (final message) truncated (rest, begins, ends) is = absurd (not_cut input message rest begins is)
endings_agree input (final message) (refused fault) (rest, begins, ends) is = absurd (not_refused input message rest fault begins is)
endings_agree input (final message) (final other) (rest, begins, ends) (left, begins', ends') = inl (ap final (one_message input message other rest left begins begins').0)

-- a message that goes on is at no ending
pub goes_on_further : (input : List ℕ) (message : Message) (rest : List ℕ) (ending : Ending) → BeginsWith input message rest → ends_connection message.head ≡ false → IsEnding input ending → ⊥
goes_on_further input message rest closed begins goes is = not_nothing message rest (rw is at begins)
goes_on_further input message rest truncated begins goes is = not_cut input message rest begins is
goes_on_further input message rest (refused fault) begins goes is = not_refused input message rest fault begins is
goes_on_further input message rest (final other) begins goes (left, begins', ends) =
    let same : message ≡ other = (one_message input message other rest left begins begins').0 in
    false≢true (sym goes ∙ ap (λ m. ends_connection m.head) same ∙ ends)

-- ---- two endings

not_nothing_hopeless : (input : List ℕ) → IsHopeless input → input ≢ []
not_nothing_hopeless input never none = nothing_is_open (rw none at never)

pub undecided_either : (rest : List ℕ) (ending : Ending) → IsUndecided rest → IsOtherEnding rest ending → IsEnding rest ending
undecided_either rest ending undecided (inl (short, is)) =
    let all : searched rest ≡ rest = take_all 8192 rest short in
    rw is (not_nothing_hopeless rest undecided.0, inl (short, rw all at (never_none (searched rest) undecided.0), inr (rw all at undecided.1)))
undecided_either rest ending undecided (inr (long, is)) = rw is (inr (inl (refl, (long, never_none (searched rest) undecided.0, inr undecided.1))))

-- ---- the whole input

abbrev pub AreOneReading : List ℕ → List Message → List Message → Ending → Ending → Type 0
AreOneReading input messages others one other =
    (messages ≡ others) × ((one ≡ other) ⊎ ((rest : List ℕ) × AreMessages input messages rest × AreBothAllowed rest one other))

-- one message in front of two readings that are one
reading_more : (input behind : List ℕ) (message : Message) (messages others : List Message) (one other : Ending)
    → BeginsWith input message behind → ends_connection message.head ≡ false
    → AreOneReading behind messages others one other → AreOneReading input (message ∷ messages) (message ∷ others) one other
reading_more input behind message messages others one other begins goes (same, inl ends) = (ap (λ z. message ∷ z) same, inl ends)
reading_more input behind message messages others one other begins goes (same, inr (rest, are, both)) = (ap (λ z. message ∷ z) same, inr (rest, (behind, begins, goes, are), both))

no_more : (input rest left : List ℕ) (one other : Ending) → input ≡ rest → input ≡ left → IsEnding rest one → IsEnding left other
    → (one ≡ other) ⊎ AreBothAllowed input one other → AreOneReading input [] [] one other
no_more input rest left one other are are' is is' (inl same) = (refl, inl same)
no_more input rest left one other are are' is is' (inr both) = (refl, inr (input, refl, both))

pub inputs_agree : (input : List ℕ) (messages others : List Message) (one other : Ending) → IsInput input messages one → IsInput input others other → AreOneReading input messages others one other
inputs_agree input [] [] one other (rest, are, is) (left, are', is') =
    no_more input rest left one other are are' is is' (endings_agree input one other (rw (sym are) at is) (rw (sym are') at is'))
inputs_agree input [] (message ∷ others) one other (rest, are, is) (left, (behind, begins, goes, are'), is') = absurd (goes_on_further input message behind one begins goes (rw (sym are) at is))
inputs_agree input (message ∷ messages) [] one other (left, (behind, begins, goes, are'), is') (rest, are, is) = absurd (goes_on_further input message behind other begins goes (rw (sym are) at is))
inputs_agree input (message ∷ messages) (message' ∷ others) one other (rest, (behind, begins, goes, are), is) (left, (behind', begins', goes', are'), is') =
    let same = one_message input message message' behind behind' begins begins' in
    let here : IsInput behind others other = (left, rw (sym same.1) at are', is') in
    rw (sym same.0) (reading_more input behind message messages others one other begins goes (inputs_agree behind messages others one other (rest, are, is) here))

-- ---- the front of an input

same_heads : (bytes : List ℕ) (found other : Head) (h k : RequestHead) → IsHeadAt bytes found h → IsHeadAt bytes other k → said bytes (front.Whole found) ≡ said bytes (front.Whole other)
same_heads bytes found other h k is is' =
    let same : h ≡ k = (one_head bytes h k (drop found.size bytes) (drop other.size bytes) is.begins is'.begins).0 in
    let sizes : found.size ≡ other.size = is.size ∙ ap (λ z. length (print_request z)) same ∙ sym is'.size in
    let methods : span_bytes bytes found.method ≡ span_bytes bytes other.method = is.method ∙ ap (λ z. z.method) same ∙ sym is'.method in
    let targets : span_bytes bytes found.target ≡ span_bytes bytes other.target = is.target ∙ ap (λ z. z.target) same ∙ sym is'.target in
    let both : ◌≡◌ {A = Result ℕ RefusalNumber} (Ok found.body) (Ok other.body) = sym is.body ∙ ap body_of same ∙ is'.body in
    let bodies : found.body ≡ other.body = cc in
    let last : found.closes ≡ other.closes = is.last ∙ ap ends_connection same ∙ sym is'.last in
    λ i. has_head (methods i) (targets i) (sizes i) (bodies i) (last i)

refusals_said : (bytes : List ℕ) (one other : Fault) → (one ≡ other) ⊎ AreTwoFaults bytes one other → (is_refused one ≡ is_refused other) ⊎ AreBothSaid bytes (is_refused one) (is_refused other)
refusals_said bytes one other (inl same) = inl (ap is_refused same)
refusals_said bytes one other (inr (undecided, long, inl (bad, large))) = inr (undecided, inl (ap is_refused bad, inr (long, ap is_refused large)))
refusals_said bytes one other (inr (undecided, long, inr (bad, large))) = inr (undecided, inr (ap is_refused bad, inr (long, ap is_refused large)))

pub fronts_agree : (bytes : List ℕ) (one other : Front) → IsFront bytes one → IsFront bytes other → (said bytes one ≡ said bytes other) ⊎ AreBothSaid bytes (said bytes one) (said bytes other)
fronts_agree bytes (front.Whole found) (front.Whole other) (h, is) (k, is') = inl (same_heads bytes found other h k is is')
fronts_agree bytes (front.Whole found) (front.Refused fault) (h, is) faulty = absurd (head_not_refused bytes h (drop found.size bytes) found.body fault is.begins is.body faulty)
fronts_agree bytes (front.Whole found) front.Part (h, is) cut = absurd (not_part bytes h (drop found.size bytes) is.begins cut)
fronts_agree bytes (front.Refused fault) (front.Whole found) faulty (h, is) = absurd (head_not_refused bytes h (drop found.size bytes) found.body fault is.begins is.body faulty)
fronts_agree bytes (front.Refused one) (front.Refused other) is is' = refusals_said bytes one other (faults_agree bytes one other is is')
fronts_agree bytes (front.Refused fault) front.Part faulty cut =
    let both = part_or_refused bytes fault cut faulty in
    inr (both.1, inl (ap is_refused both.0, inl (cut.0, refl)))
fronts_agree bytes front.Part (front.Whole found) cut (h, is) = absurd (not_part bytes h (drop found.size bytes) is.begins cut)
fronts_agree bytes front.Part (front.Refused fault) cut faulty =
    let both = part_or_refused bytes fault cut faulty in
    inr (both.1, inr (ap is_refused both.0, inl (cut.0, refl)))
fronts_agree bytes front.Part front.Part cut cut' = inl refl
