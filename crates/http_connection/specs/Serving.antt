-- What is written for the messages of an input, by any responder and any clock.
use Rattle.std.specs.Prelude.{◌≡◌, ◌⊎◌, ℕ, List, [], ◌∷◌, ◌++◌, Option}
use Rattle.std.specs.Io.KnownBytes.{Appends}
use Rattle.counted_io.specs.Counting.{AppendsPart}
use Rattle.http_messages.specs.declared.front.Fault.{Fault}
use Rattle.http_messages.specs.Messages.{Message, BeginsWith, AreMessages, IsInput, IsPartOfMessage, Ending, closed, truncated, refused, final}
use Rattle.http_connection.specs.declared.ended.Ended.{Ended}
use Rattle.http_connection.specs.declared.ended.Ended.TheVariants as ended
use Rattle.http_connection.specs.Requests.{HttpRequestData, request_of}

-- no whole message stands in the bytes, nor one that is refused: nothing, or a part of a message
abbrev pub IsUnfinished : List ℕ → Type 0
IsUnfinished bytes = (bytes ≡ []) ⊎ IsPartOfMessage bytes

-- refusal is the text of the answer to a message that is refused; responds relates a state, a moment and a request to the text of the answer and the state after it; ticks relates a clock's state to the moment that it reads and the state after it
module _ {S C : Type 0} (refusal : Fault → List ℕ) (responds : S → ℕ → HttpRequestData → List ℕ → S → Type 0) (ticks : C → ℕ → C → Type 0) where
  -- the messages are answered with this text in order, each at the moment of one reading of the clock
  abbrev pub AreAnswered : S → C → List Message → List ℕ → S → C → Type 0
  AreAnswered state clock [] text after later = (text ≡ []) × (after ≡ state) × (later ≡ clock)
  AreAnswered state clock (message ∷ messages) text after later =
      (moment : ℕ) × (next : S) × (read : C) × (first : List ℕ) × (rest : List ℕ)
      × ticks clock moment read × responds state moment (request_of message) first next × (text ≡ first ++ rest)
      × AreAnswered next read messages rest after later

  -- the same, and then what is written for the message behind which no further read is made
  abbrev pub AreAnsweredToEnd : S → C → List Message → Ending → List ℕ → S → C → Type 0
  AreAnsweredToEnd state clock messages (refused fault) text after later =
      (first : List ℕ) × AreAnswered state clock messages first after later × (text ≡ first ++ refusal fault)
  AreAnsweredToEnd state clock messages (final message) text after later = AreAnswered state clock (messages ++ message ∷ []) text after later
  AreAnsweredToEnd state clock messages closed text after later = ⊥
  AreAnsweredToEnd state clock messages truncated text after later = ⊥

  -- ---- what was written for the bytes that were read, by how serving ended

  -- each message was answered, and the input ended so
  abbrev pub IsWhole : Ending → List ℕ → S → C → S → C → Option (List ℕ) → Option (List ℕ) → Type 0
  IsWhole ending bytes state clock after later before written =
      (messages : List Message) × (text : List ℕ)
      × IsInput bytes messages ending × AreAnswered state clock messages text after later × Appends before written text

  -- each message was answered, up to one behind which no further read is made
  abbrev pub HasFinished : List ℕ → S → C → S → C → Option (List ℕ) → Option (List ℕ) → Type 0
  HasFinished bytes state clock after later before written =
      (messages : List Message) × (ending : Ending) × (text : List ℕ)
      × IsInput bytes messages ending × AreAnsweredToEnd state clock messages ending text after later × Appends before written text

  -- each whole message was answered, and nothing was done for the bytes behind them, which are no whole message
  abbrev pub IsInterrupted : List ℕ → S → C → S → C → Option (List ℕ) → Option (List ℕ) → Type 0
  IsInterrupted bytes state clock after later before written =
      (messages : List Message) × (rest : List ℕ) × (text : List ℕ)
      × AreMessages bytes messages rest × IsUnfinished rest × AreAnswered state clock messages text after later × Appends before written text

  -- the answers of some first messages, or of all up to one behind which no further read is made
  abbrev pub IsText : List ℕ → S → C → List ℕ → S → C → Type 0
  IsText bytes state clock text after later =
      ((messages : List Message) × (rest : List ℕ) × AreMessages bytes messages rest × AreAnswered state clock messages text after later)
      ⊎ ((messages : List Message) × (ending : Ending) × IsInput bytes messages ending × AreAnsweredToEnd state clock messages ending text after later)

  -- what was asked is done, and a beginning of the answers' text was written
  abbrev pub IsWrittenInPart : List ℕ → S → C → S → C → Option (List ℕ) → Option (List ℕ) → Type 0
  IsWrittenInPart bytes state clock after later before written =
      (text : List ℕ) × IsText bytes state clock text after later × AppendsPart before written text

  -- there was no memory for the answer to the next message: what it asks was not done, or it was done and the answer is lost
  abbrev pub IsLost : List ℕ → S → C → S → C → Type 0
  IsLost bytes state clock after later =
      ((after ≡ state) × (later ≡ clock))
      ⊎ ((message : Message) × (rest : List ℕ) × (moment : ℕ) × BeginsWith bytes message rest × ticks clock moment later
      × ((after ≡ state) ⊎ ((lost : List ℕ) × responds state moment (request_of message) lost after)))

  -- the messages before it were answered
  abbrev pub IsOutOfMemory : List ℕ → S → C → S → C → Option (List ℕ) → Option (List ℕ) → Type 0
  IsOutOfMemory bytes state clock after later before written =
      (messages : List Message) × (rest : List ℕ) × (text : List ℕ) × (last : S) × (read : C)
      × AreMessages bytes messages rest × AreAnswered state clock messages text last read × Appends before written text
      × IsLost rest last read after later

  -- what was written for the bytes that were read, and what was done, by how serving ended
  abbrev pub IsServed : Ended → List ℕ → S → C → S → C → Option (List ℕ) → Option (List ℕ) → Type 0
  IsServed ended.Closed bytes state clock after later before written = IsWhole closed bytes state clock after later before written
  IsServed ended.Truncated bytes state clock after later before written = IsWhole truncated bytes state clock after later before written
  IsServed ended.Finished bytes state clock after later before written = HasFinished bytes state clock after later before written
  IsServed ended.ReadFailed bytes state clock after later before written = IsInterrupted bytes state clock after later before written
  IsServed ended.WriteFailed bytes state clock after later before written = IsWrittenInPart bytes state clock after later before written
  IsServed ended.OutOfMemory bytes state clock after later before written = IsOutOfMemory bytes state clock after later before written
