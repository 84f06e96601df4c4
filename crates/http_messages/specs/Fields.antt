-- What the fields of a head say of the message and of its connection.
use Rattle.std.specs.Prelude.{ℕ, ◌==◌, ◌&&◌, ◌||◌, Bool, List, map, length, Option, Some, None, Result, Ok, Err, unwrap_or, nat_lt, if◌then◌else◌, codes}
use Rattle.std.specs.List.{list_any}
use Rattle.std.specs.Str.{bytes_eq}
use Rattle.httparse.specs.Grammar.{RequestHead}
use Rattle.httparse.specs.Spans.{name_and_value}
use Rattle.refusals.specs.declared.RefusalNumber.{RefusalNumber}
use Rattle.refusals.specs.declared.RefusalNumber.TheVariants as refusal
use Rattle.http_messages.specs.Lengths.{is_named, length_from}

-- how many fields a head may have
abbrev pub field_limit : ℕ
field_limit = 32

-- how many bytes a body may have
abbrev pub body_limit : ℕ
body_limit = 65536

-- the names and the values of a head's fields, in order
abbrev pub fields_of : RequestHead → List (List ℕ × List ℕ)
fields_of head = map name_and_value head.fields

-- the body is coded for its transfer (RFC 9112, section 6.1), whatever the coding is
abbrev pub is_transfer_coding : List ℕ × List ℕ → Bool
is_transfer_coding field = is_named (codes "transfer-encoding") field.0

-- the connection is to end behind the message (RFC 9112, section 9.6), where that is all that the field asks for
abbrev pub is_close : List ℕ × List ℕ → Bool
is_close field = is_named (codes "connection") field.0 && is_named (codes "close") field.1

-- no further read is made behind the message: it is one of HTTP/1.0, or a field asks for it
abbrev pub ends_connection : RequestHead → Bool
ends_connection head = head.minor == 0 || list_any is_close (fields_of head)

-- the method is HEAD, so that an answer has no body (RFC 9110, section 9.3.2)
abbrev pub is_head_method : List ℕ → Bool
is_head_method method = bytes_eq method (codes "HEAD")

-- ---- the body

abbrev pub within_limit : ℕ → Result ℕ RefusalNumber
within_limit size = if nat_lt body_limit size then Err refusal.BodyTooLarge else Ok size

abbrev pub size_of : Option (Option ℕ) → Result ℕ RefusalNumber
size_of None = Err refusal.BadContentLength
size_of (Some seen) = within_limit (unwrap_or seen 0)

-- how many bytes the body has, or the first reason why the fields are refused
abbrev pub body_size : List (List ℕ × List ℕ) → Result ℕ RefusalNumber
body_size fields =
    if nat_lt field_limit (length fields) then Err refusal.HeadTooLarge
    else (if list_any is_transfer_coding fields then Err refusal.TransferCoding
    else size_of (length_from None fields))

-- the same of a head
abbrev pub body_of : RequestHead → Result ℕ RefusalNumber
body_of head = body_size (fields_of head)
