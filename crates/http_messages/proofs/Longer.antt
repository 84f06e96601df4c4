-- What an input says stays, whatever follows.
use Rattle.std.proofs.Common.{◌≡◌, ◌⊎◌, ℕ, ◌+◌, ◌-◌, ◌<◌, ◌≤◌, List, [], ◌∷◌, ◌++◌, length, take, ap, sym, ◌∙◌, append_assoc, arith, inl, inr, length-append}
use Rattle.std.proofs.lemmas.Grind.{common_steps}
use Rattle.std.proofs.lemmas.Bool.{cases_lt}
use Rattle.std.proofs.lemmas.List.{append-nil, take-append-le}
use Rattle.std.proofs.Math.Seq.{take-append-add}
use Rattle.httparse.proofs.GrammarLemmas.{ReadsRequest-append}
use Rattle.http_messages.specs.declared.front.Fault.{Fault}
use Rattle.http_messages.specs.Heads.{searched, IsHopeless, IsTooLong}
use Rattle.http_messages.specs.Messages.{Message, BeginsWith, HasFault, AreMessages, IsInput, Ending, closed, truncated, refused, final}
use Rattle.http_messages.specs.Readings.{IsReadTo}
use Rattle.http_messages.proofs.OneReading.{AreOneReading, inputs_agree}

-- ---- the first n of a longer list begin with those of the list

take_whole : (n : ℕ) (xs : List ℕ) → length xs ≤ n → take n xs ≡ xs
take_whole n xs fits = grind (arith, common_steps)

take_within : (n : ℕ) (xs ys : List ℕ) → n ≤ length xs → take n (xs ++ ys) ≡ take n xs ++ take (n - length xs) ys
take_within n xs ys within =
    let none : n - length xs ≡ 0 = omega (arith, within) in
    rw none (take-append-le n xs ys within ∙ sym (append-nil (take n xs)))

take_behind : (n : ℕ) (xs ys : List ℕ) → length xs ≤ n → take n (xs ++ ys) ≡ take n xs ++ take (n - length xs) ys
take_behind n xs ys behind =
    let split : n ≡ length xs + (n - length xs) = omega (arith, behind) in
    ap (λ k. take k (xs ++ ys)) split ∙ take-append-add xs ys (n - length xs) ∙ ap (λ z. z ++ take (n - length xs) ys) (sym (take_whole n xs behind))

take_by : (n : ℕ) (xs ys : List ℕ) → (n < length xs) ⊎ (length xs ≤ n) → take n (xs ++ ys) ≡ take n xs ++ take (n - length xs) ys
take_by n xs ys (inl below) = take_within n xs ys (omega (arith, below))
take_by n xs ys (inr above) = take_behind n xs ys above

take_longer : (n : ℕ) (xs ys : List ℕ) → take n (xs ++ ys) ≡ take n xs ++ take (n - length xs) ys
take_longer n xs ys = take_by n xs ys (cases_lt n (length xs))

-- ---- one message

hopeless_stays : (input more : List ℕ) → IsHopeless input → IsHopeless (input ++ more)
hopeless_stays input more never later h rest reads =
    let all : searched (input ++ more) ++ later ≡ searched input ++ (take (8192 - length input) more ++ later) =
    ap (λ z. z ++ later) (take_longer 8192 input more) ∙ append_assoc (searched input) (take (8192 - length input) more) later in
    never (take (8192 - length input) more ++ later) h rest (rw all at reads)

too_long_stays : (input more : List ℕ) → IsTooLong input → IsTooLong (input ++ more)
too_long_stays input more long =
    let all : searched (input ++ more) ≡ searched input = take-append-le 8192 input more long.0 in
    (omega (arith, long.0, length-append input more), rw all long.1, rw all long.2)

fault_stays : (input more : List ℕ) (fault : Fault) → HasFault input fault → HasFault (input ++ more) fault
fault_stays input more fault (inl (is, never)) = inl (is, hopeless_stays input more never)
fault_stays input more fault (inr (inl (is, long))) = inr (inl (is, too_long_stays input more long))
fault_stays input more fault (inr (inr (head, rest, begins, refused_is, to))) =
    inr (inr (head, rest ++ more, (ReadsRequest-append input head rest more begins.0, begins.1), refused_is, to))

pub begins_stays : (input : List ℕ) (message : Message) (rest more : List ℕ) → BeginsWith input message rest → BeginsWith (input ++ more) message (rest ++ more)
begins_stays input message rest more begins =
    let reads = ReadsRequest-append input message.head (message.body ++ rest) more begins.0.0 in
    ((rw (append_assoc message.body rest more) at reads, begins.0.1), begins.1)

-- ---- one after another

pub messages_stay : (messages : List Message) (input rest more : List ℕ) → AreMessages input messages rest → AreMessages (input ++ more) messages (rest ++ more)
messages_stay [] input rest more same = ap (λ z. z ++ more) same
messages_stay (message ∷ later) input rest more (behind, begins, goes_on, are) =
    (behind ++ more, begins_stays input message behind more begins, goes_on, messages_stay later behind rest more are)

pub refused_stays : (input more : List ℕ) (messages : List Message) (fault : Fault) → IsInput input messages (refused fault) → IsInput (input ++ more) messages (refused fault)
refused_stays input more messages fault (rest, are, faulty) = (rest ++ more, messages_stay messages input rest more are, fault_stays rest more fault faulty)

pub final_stays : (input more : List ℕ) (messages : List Message) (message : Message) → IsInput input messages (final message) → IsInput (input ++ more) messages (final message)
final_stays input more messages message (rest, are, (behind, begins, ends)) =
    (rest ++ more, messages_stay messages input rest more are, (behind ++ more, begins_stays rest message behind more begins, ends))

-- ---- parts of one input

-- a part that was read up to an ending has the messages of the whole, and ends as it does
whole_of : (input part left : List ℕ) (messages : List Message) (ending : Ending) → input ≡ part ++ left → IsInput part messages ending → IsReadTo ending left → IsInput input messages ending
whole_of input part left messages closed is reads to = rw (is ∙ ap (λ z. part ++ z) to ∙ append-nil part) reads
whole_of input part left messages truncated is reads to = rw (is ∙ ap (λ z. part ++ z) to ∙ append-nil part) reads
whole_of input part left messages (refused fault) is reads to = rw is (refused_stays part left messages fault reads)
whole_of input part left messages (final message) is reads to = rw is (final_stays part left messages message reads)

pub parts_agree : (input part left piece rest : List ℕ) (messages others : List Message) (one other : Ending)
    → input ≡ part ++ left → IsInput part messages one → IsReadTo one left
    → input ≡ piece ++ rest → IsInput piece others other → IsReadTo other rest
    → AreOneReading input messages others one other
parts_agree input part left piece rest messages others one other is reads to is' reads' to' =
    inputs_agree input messages others one other (whole_of input part left messages one is reads to) (whole_of input piece rest others other is' reads' to')
