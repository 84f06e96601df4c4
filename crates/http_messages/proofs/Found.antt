-- Heads that were found in the first bytes of an input.
use Rattle.std.proofs.Common.{◌≡◌, ℕ, ◌-◌, ◌<◌, ◌≤◌, List, ◌++◌, length, take, drop, Result, Ok, Err, ap, ◌∙◌, refl, arith, inr, length-append}
use Rattle.std.proofs.lemmas.Grind.{common_steps}
use Rattle.std.proofs.lemmas.List.{take-append-drop, take-append-le, drop-append-le}
use Rattle.httparse.specs.Grammar.{RequestHead, print_request, ReadsRequest, HasNoRequest, MayBecomeRequest}
use Rattle.httparse.specs.Spans.{IsRequestAt, IsRequestWithin, IsWithin, span_bytes}
use Rattle.httparse.specs.declared.spans.HeaderSpan.{HeaderSpan}
use Rattle.httparse.specs.declared.spans.RequestSpans.{RequestSpans}
use Rattle.httparse.specs.declared.spans.Span.{Span}
use Rattle.httparse.proofs.GrammarLemmas.{ReadsRequest-append}
use Rattle.refusals.specs.declared.RefusalNumber.{RefusalNumber}
use Rattle.http_messages.specs.declared.front.Head.{Head}
use Rattle.http_messages.specs.Fields.{body_size, fields_of}
use Rattle.http_messages.specs.Fronts.{IsFront, IsHeadAt, front_of, front_with}
use Rattle.http_messages.specs.Heads.{head_limit, searched, IsPartOfHead, IsTooLong}

-- a span within the first bytes covers the same, whatever follows
pub span-append : (bytes more : List ℕ) (n : ℕ) (s : Span) → IsWithin n s → n ≤ length bytes → span_bytes (bytes ++ more) s ≡ span_bytes bytes s
span-append bytes more n s within fits =
    let seam : drop s.start (bytes ++ more) ≡ drop s.start bytes ++ more = drop-append-le s.start bytes more (omega (arith, within.0, within.1, fits)) in
    rw seam (take-append-le (s.end - s.start) (drop s.start bytes) more (grind (arith, common_steps, within.0, within.1, fits)))

-- a head lies within the bytes that begin with it
pub head_fits : (bytes : List ℕ) (h : RequestHead) (rest : List ℕ) → ReadsRequest bytes h rest → length (print_request h) ≤ length bytes
head_fits bytes h rest reads = let whole = ap length reads.1 ∙ length-append (print_request h) rest in omega arith

-- what was found stays, whatever follows
pub found-append : (bytes more : List ℕ) (found : Head) (h : RequestHead) → IsHeadAt bytes found h → IsHeadAt (bytes ++ more) found h
found-append bytes more found h is =
    let fits : found.size ≤ length bytes = rw is.size (head_fits bytes h (drop found.size bytes) is.begins.0) in
    let seam : drop found.size (bytes ++ more) ≡ drop found.size bytes ++ more = drop-append-le found.size bytes more fits in
    record {
      begins = (rw seam (ReadsRequest-append bytes h (drop found.size bytes) more is.begins.0), is.begins.1);
      size = is.size;
      method_in = is.method_in;
      method = span-append bytes more found.size found.method is.method_in fits ∙ is.method;
      target_in = is.target_in;
      target = span-append bytes more found.size found.target is.target_in fits ∙ is.target;
      body = is.body;
      last = is.last;
    }

-- ---- the front of an input, from what was searched

found_head : (bytes : List ℕ) (headers : List HeaderSpan) (spans : RequestSpans) (h : RequestHead) (fields : List (List ℕ × List ℕ)) (size : ℕ)
    → IsRequestWithin bytes headers spans → IsRequestAt bytes headers spans h → length bytes ≤ head_limit → fields ≡ fields_of h → body_size fields ≡ Ok size
    → IsFront bytes (front_with bytes spans fields (Ok size))
found_head bytes headers spans h fields size within is short same body = (
  h,
  record {
    begins = (is.reads, omega (arith, head_fits bytes h (drop spans.len bytes) is.reads));
    size = is.len;
    method_in = within.method;
    method = is.method;
    target_in = within.path;
    target = is.path;
    body = rw same at body;
    last = rw (is.version, same) refl;
  },
)

refused_head : (bytes more : List ℕ) (headers : List HeaderSpan) (spans : RequestSpans) (h : RequestHead) (fields : List (List ℕ × List ℕ)) (number : RefusalNumber)
    → IsRequestAt bytes headers spans h → length bytes ≤ head_limit → fields ≡ fields_of h → body_size fields ≡ Err number
    → IsFront (bytes ++ more) (front_with bytes spans fields (Err number))
refused_head bytes more headers spans h fields number is short same body =
    let reads = ReadsRequest-append bytes h (drop spans.len bytes) more is.reads in
    let fits : length (print_request h) ≤ head_limit = omega (arith, head_fits bytes h (drop spans.len bytes) is.reads) in
    inr (inr (h, drop spans.len bytes ++ more, (reads, fits), rw same at body, rw is.method refl))

front_more : (bytes more : List ℕ) (headers : List HeaderSpan) (spans : RequestSpans) (h : RequestHead) (fields : List (List ℕ × List ℕ)) (size : Result ℕ RefusalNumber)
    → IsRequestWithin bytes headers spans → IsRequestAt bytes headers spans h → length bytes ≤ head_limit → fields ≡ fields_of h → body_size fields ≡ size
    → IsFront (bytes ++ more) (front_with bytes spans fields size)
front_more bytes more headers spans h fields (Ok size) within is short same body =
    let found = found_head bytes headers spans h fields size within is short same body in
    (found.0, found-append bytes more _ found.0 found.1)
front_more bytes more headers spans h fields (Err number) within is short same body = refused_head bytes more headers spans h fields number is short same body

-- the front of an input, where the first n bytes were searched and have a head
pub front_of_input : (n : ℕ) (input : List ℕ) (headers : List HeaderSpan) (spans : RequestSpans) (h : RequestHead) (fields : List (List ℕ × List ℕ))
    → n ≤ head_limit → IsRequestWithin (take n input) headers spans → IsRequestAt (take n input) headers spans h → fields ≡ fields_of h
    → IsFront input (front_of (take n input) spans fields)
front_of_input n input headers spans h fields low within is same =
    let short : length (take n input) ≤ head_limit = grind (arith, common_steps, low) in
    rw take-append-drop at (front_more (take n input) (drop n input) headers spans h fields (body_size fields) within is short same refl)

-- ---- no head in what was searched

pub take_all : (n : ℕ) (xs : List ℕ) → length xs < n → take n xs ≡ xs
take_all n xs h = grind (arith, common_steps)

pub part_of_head : (input seen : List ℕ) → seen ≡ searched input → length input < head_limit → HasNoRequest seen → MayBecomeRequest seen → IsPartOfHead input
part_of_head input seen same low none may =
    let all : seen ≡ input = same ∙ take_all 8192 input low in
    (low, rw all at none, rw all at may)

pub too_long : (input seen : List ℕ) → seen ≡ searched input → head_limit ≤ length input → HasNoRequest seen → MayBecomeRequest seen → IsTooLong input
too_long input seen same high none may = (high, rw same at none, rw same at may)
