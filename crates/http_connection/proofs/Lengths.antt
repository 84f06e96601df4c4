-- How long a part of a message is at most.
use Rattle.std.proofs.Common.{◌≡◌, ◌≤◌, ◌+◌, ℕ, List, ◌++◌, length, nat_lt, Bool, true, false, Option, Some, None, Result, Ok, Err, unwrap_or, if◌then◌else◌, inl, inr, refl, subst, arith}
use Rattle.std.proofs.lemmas.Bool.{ltb-false}
use Rattle.std.proofs.lemmas.List.{length-append}
use Rattle.std.specs.List.{list_any}
use Rattle.httparse.specs.Grammar.{RequestHead, print_request}
use Rattle.refusals.specs.declared.RefusalNumber.{RefusalNumber}
use Rattle.refusals.specs.declared.RefusalNumber.TheVariants as refusal
use Rattle.http_messages.specs.Fields.{body_limit, body_of, field_limit, fields_of, is_transfer_coding, size_of, within_limit}
use Rattle.http_messages.specs.Lengths.{length_from}
use Rattle.http_connection.specs.Serving.{IsUnfinished}

-- what is left where neither reason to refuse holds
neither : (one two : Bool) (x y : RefusalNumber) (rest : Result ℕ RefusalNumber) (size : ℕ) → (if one then Err x else (if two then Err y else rest)) ≡ Ok size → rest ≡ Ok size
neither true two x y rest size is = absurd (let e : ◌≡◌ {A = Result ℕ RefusalNumber} (Err x) (Ok size) = is in cc)
neither false true x y rest size is = absurd (let e : ◌≡◌ {A = Result ℕ RefusalNumber} (Err y) (Ok size) = is in cc)
neither false false x y rest size is = is

not_over : (n size : ℕ) (over : Bool) → nat_lt body_limit n ≡ over → (if over then Err refusal.BodyTooLarge else Ok n) ≡ Ok size → size ≤ body_limit
not_over n size true h is = absurd (let e : ◌≡◌ {A = Result ℕ RefusalNumber} (Err refusal.BodyTooLarge) (Ok size) = is in cc)
not_over n size false h is =
    let same : n ≡ size = (let e : ◌≡◌ {A = Result ℕ RefusalNumber} (Ok n) (Ok size) = is in cc) in
    subst (λ m. m ≤ body_limit) same (ltb-false body_limit n h)

within : (n size : ℕ) → within_limit n ≡ Ok size → size ≤ 65536
within n size is = not_over n size (nat_lt body_limit n) refl is

size_within : (seen : Option (Option ℕ)) (size : ℕ) → size_of seen ≡ Ok size → size ≤ 65536
size_within None size is = absurd (let e : ◌≡◌ {A = Result ℕ RefusalNumber} (Err refusal.BadContentLength) (Ok size) = is in cc)
size_within (Some seen) size is = within (unwrap_or seen 0) size is

body_within : (head : RequestHead) (size : ℕ) → body_of head ≡ Ok size → size ≤ 65536
body_within head size is =
    size_within (length_from None (fields_of head)) size
    (neither (nat_lt field_limit (length (fields_of head))) (list_any is_transfer_coding (fields_of head)) refusal.HeadTooLarge refusal.TransferCoding (size_of (length_from None (fields_of head))) size is)

length_of : (bytes first rest : List ℕ) → bytes ≡ first ++ rest → length bytes ≡ length first + length rest
length_of bytes first rest is = rw is (length-append first rest)

pub unfinished_is_short : (unread : List ℕ) → IsUnfinished unread → length unread ≤ 73728
unfinished_is_short unread (inl none) = rw none (omega arith)
unfinished_is_short unread (inr (some, inl part)) = omega (arith, part.0)
unfinished_is_short unread (inr (some, inr (head, rest, size, begins, is, short))) =
    let whole : length unread ≡ length (print_request head) + length rest = length_of unread (print_request head) rest begins.0.1 in
    omega (arith, whole, begins.1, short, body_within head size is)
