-- The head at the front of an input (RFC 9112, sections 2 and 3), by the grammar of httparse.
use Rattle.std.specs.Prelude.{◌<◌, ◌≤◌, ℕ, List, length, take}
use Rattle.httparse.specs.Grammar.{RequestHead, print_request, ReadsRequest, HasNoRequest, NeverHasRequest, MayBecomeRequest}

-- how many bytes of a message are searched for its head
abbrev pub head_limit : ℕ
head_limit = 8192

-- how many fields there is room for in the search: more than the bytes that are searched can hold
abbrev pub field_room : ℕ
field_room = 4096

-- the bytes that are searched for a head
abbrev pub searched : List ℕ → List ℕ
searched input = take head_limit input

-- the input is this head, within the bytes that are searched, and then the rest
abbrev pub BeginsWithHead : List ℕ → RequestHead → List ℕ → Type 0
BeginsWithHead input head rest = ReadsRequest input head rest × (length (print_request head) ≤ head_limit)

-- no continuation of the bytes that are searched has a head
abbrev pub IsHopeless : List ℕ → Type 0
IsHopeless input = NeverHasRequest (searched input)

-- the bytes that are searched are all there and have no head, though more could make one
abbrev pub IsTooLong : List ℕ → Type 0
IsTooLong input = (head_limit ≤ length input) × HasNoRequest (searched input) × MayBecomeRequest (searched input)

-- the input has no head yet, and more bytes can make one within those that are searched
abbrev pub IsPartOfHead : List ℕ → Type 0
IsPartOfHead input = (length input < head_limit) × HasNoRequest input × MayBecomeRequest input
