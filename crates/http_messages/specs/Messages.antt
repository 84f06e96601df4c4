-- The messages of an input: each is a head and as many bytes as its length says, one after another.
use Rattle.std.specs.Prelude.{◌≡◌, ◌≢◌, ◌⊎◌, ◌<◌, ℕ, List, [], ◌∷◌, ◌++◌, length, true, false, Ok, Err}
use Rattle.httparse.specs.Grammar.{RequestHead}
use Rattle.refusals.specs.declared.RefusalNumber.{RefusalNumber}
use Rattle.refusals.specs.declared.RefusalNumber.TheVariants as refusal
use Rattle.http_messages.specs.declared.front.Fault.{Fault}
use Rattle.http_messages.specs.Fields.{body_of, ends_connection, is_head_method}
use Rattle.http_messages.specs.Heads.{BeginsWithHead, IsHopeless, IsTooLong, IsPartOfHead}

-- a head, and a body of as many bytes as the head says
pub record Message : Type 0 where
  pub head : RequestHead
  pub body : List ℕ

-- the input is this message and then the rest
abbrev pub BeginsWith : List ℕ → Message → List ℕ → Type 0
BeginsWith input message rest = BeginsWithHead input message.head (message.body ++ rest) × (body_of message.head ≡ Ok (length message.body))

-- why a message without a head is refused
abbrev pub no_head : RefusalNumber → Fault
no_head number = record { number = number; to_head = false }

-- the message at the front of an input is refused: it never has a head, it has none within the limit, or its fields are refused
abbrev pub HasFault : List ℕ → Fault → Type 0
HasFault input fault =
    ((fault ≡ no_head refusal.BadHead) × IsHopeless input)
    ⊎ (((fault ≡ no_head refusal.HeadTooLarge) × IsTooLong input)
    ⊎ ((head : RequestHead) × (rest : List ℕ) × BeginsWithHead input head rest
    × (body_of head ≡ Err fault.number) × (fault.to_head ≡ is_head_method head.method)))

-- a head is there, but not yet the whole body
abbrev pub IsPartOfBody : List ℕ → Type 0
IsPartOfBody input = (head : RequestHead) × (rest : List ℕ) × (size : ℕ) × BeginsWithHead input head rest × (body_of head ≡ Ok size) × (length rest < size)

-- a message has begun, and isn't whole
abbrev pub IsPartOfMessage : List ℕ → Type 0
IsPartOfMessage input = (input ≢ []) × (IsPartOfHead input ⊎ IsPartOfBody input)

-- ---- one after another

-- the input is these messages, none of which ends the connection, and then the rest
abbrev pub AreMessages : List ℕ → List Message → List ℕ → Type 0
AreMessages input [] rest = input ≡ rest
AreMessages input (message ∷ later) rest =
    (behind : List ℕ) × BeginsWith input message behind × (ends_connection message.head ≡ false) × AreMessages behind later rest

-- what comes behind messages that don't end the connection: nothing, a part of a message, a message that is refused, or one that ends the connection
pub data Ending : Type 0 where
  closed truncated : Ending
  refused : Fault → Ending
  final : Message → Ending

abbrev pub IsEnding : List ℕ → Ending → Type 0
IsEnding input closed = input ≡ []
IsEnding input truncated = IsPartOfMessage input
IsEnding input (refused fault) = HasFault input fault
IsEnding input (final message) = (rest : List ℕ) × BeginsWith input message rest × (ends_connection message.head ≡ true)

-- the messages of an input, and how it ends
abbrev pub IsInput : List ℕ → List Message → Ending → Type 0
IsInput input messages ending = (rest : List ℕ) × AreMessages input messages rest × IsEnding rest ending
