-- What is known of a message from its first bytes.
use Rattle.std.specs.Prelude.{◌≡◌, ◌==◌, ◌||◌, ℕ, List, length, drop, Result, Ok, Err}
use Rattle.std.specs.List.{list_any}
use Rattle.httparse.specs.Grammar.{RequestHead, print_request}
use Rattle.httparse.specs.Spans.{span_bytes, IsWithin}
use Rattle.httparse.specs.declared.spans.RequestSpans.{RequestSpans}
use Rattle.refusals.specs.declared.RefusalNumber.{RefusalNumber}
use Rattle.http_messages.specs.declared.front.Front.{Front}
use Rattle.http_messages.specs.declared.front.Front.TheVariants as front
use Rattle.http_messages.specs.declared.front.Head.{Head}
use Rattle.http_messages.specs.Fields.{body_of, body_size, ends_connection, is_close, is_head_method}
use Rattle.http_messages.specs.Heads.{BeginsWithHead, IsPartOfHead}
use Rattle.http_messages.specs.Messages.{HasFault}

-- the bytes begin with a head, and the offsets and numbers are those of its parts
pub record IsHeadAt (bytes : List ℕ) (found : Head) (head : RequestHead) : Type 0 where
  pub begins : BeginsWithHead bytes head (drop found.size bytes)
  pub size : found.size ≡ length (print_request head)
  pub method_in : IsWithin found.size found.method
  pub method : span_bytes bytes found.method ≡ head.method
  pub target_in : IsWithin found.size found.target
  pub target : span_bytes bytes found.target ≡ head.target
  pub body : body_of head ≡ Ok found.body
  pub last : found.closes ≡ ends_connection head

-- what the bytes are as the front of a message
abbrev pub IsFront : List ℕ → Front → Type 0
IsFront bytes (front.Whole found) = (head : RequestHead) × IsHeadAt bytes found head
IsFront bytes (front.Refused fault) = HasFault bytes fault
IsFront bytes front.Part = IsPartOfHead bytes

-- ---- what the parser's offsets say, for the proofs

abbrev pub front_with : List ℕ → RequestSpans → List (List ℕ × List ℕ) → Result ℕ RefusalNumber → Front
front_with bytes spans fields (Ok size) =
    front.Whole (record {
      method = spans.method;
      target = spans.path;
      size = spans.len;
      body = size;
      closes = spans.version == 0 || list_any is_close fields;
    })
front_with bytes spans fields (Err number) = front.Refused (record { number = number; to_head = is_head_method (span_bytes bytes spans.method) })

abbrev pub front_of : List ℕ → RequestSpans → List (List ℕ × List ℕ) → Front
front_of bytes spans fields = front_with bytes spans fields (body_size fields)
