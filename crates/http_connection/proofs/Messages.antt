-- A head that was found, with its whole body, is a message.
use Rattle.std.proofs.Common.{◌≡◌, ℕ, ◌+◌, ◌≤◌, List, ◌++◌, length, drop, slice_range, Ok, ap, sym, ◌∙◌, arith}
use Rattle.std.proofs.lemmas.Grind.{common_steps}
use Rattle.std.proofs.lemmas.List.{take-append-drop}
use Rattle.httparse.specs.Grammar.{RequestHead}
use Rattle.http_messages.specs.declared.front.Head.{Head}
use Rattle.http_messages.specs.Fronts.{IsHeadAt}
use Rattle.http_messages.specs.Messages.{BeginsWith}
use Rattle.http_connection.specs.Reading.{message_of}

halves : (bytes : List ℕ) (a b : ℕ) → drop a bytes ≡ slice_range bytes a (a + b) ++ drop (a + b) bytes
halves bytes a b = grind (arith, common_steps, take-append-drop b (drop a bytes))

body_length : (bytes : List ℕ) (a b : ℕ) → a + b ≤ length bytes → length (slice_range bytes a (a + b)) ≡ b
body_length bytes a b fits = grind (arith, common_steps)

pub begins_with : (bytes : List ℕ) (found : Head) (head : RequestHead) → IsHeadAt bytes found head → found.size + found.body ≤ length bytes
    → BeginsWith bytes (message_of bytes found head) (drop (found.size + found.body) bytes)
begins_with bytes found head is fits = (
  (rw (halves bytes found.size found.body) at is.begins.0, is.begins.1),
  is.body ∙ ap Ok (sym (body_length bytes found.size found.body fits)),
)
