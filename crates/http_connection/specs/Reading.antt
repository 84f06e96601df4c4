-- Bytes that are read ahead of the messages that they make.
use Rattle.std.specs.Prelude.{◌≡◌, ◌≤◌, ◌<◌, ◌+◌, ℕ, List, ◌++◌, length, slice_range, Option, Ok}
use Rattle.std.specs.Io.KnownBytes.{Consumes}
use Rattle.httparse.specs.Grammar.{RequestHead}
use Rattle.http_messages.specs.declared.front.Head.{Head}
use Rattle.http_messages.specs.Fields.{body_of}
use Rattle.http_messages.specs.Fronts.{IsHeadAt}
use Rattle.http_messages.specs.Heads.{BeginsWithHead}
use Rattle.http_messages.specs.Messages.{Message}

-- more bytes were taken off what a reader has left, and stand behind those that were unread
abbrev pub ReadsMore : Option (List ℕ) → Option (List ℕ) → List ℕ → List ℕ → Type 0
ReadsMore before after unread new = (more : List ℕ) × Consumes before after more × (new ≡ unread ++ more)

-- the bytes begin with a message, whose head was found
abbrev pub message_of : List ℕ → Head → RequestHead → Message
message_of bytes found head = record { head = head; body = slice_range bytes found.size (found.size + found.body) }

-- the bytes begin with a whole message, of which this is known
abbrev pub IsWholeAt : List ℕ → Head → Type 0
IsWholeAt bytes found = (head : RequestHead) × IsHeadAt bytes found head × (found.size + found.body ≤ length bytes)

-- the bytes begin with the head of a message that has so many bytes in all, of which these are the first; 0 says nothing
abbrev pub IsAwaited : List ℕ → ℕ → Type 0
IsAwaited bytes awaited =
    0 < awaited → (head : RequestHead) × (rest : List ℕ) × (size : ℕ) × BeginsWithHead bytes head rest × (body_of head ≡ Ok size) × (awaited + length rest ≡ length bytes + size)
