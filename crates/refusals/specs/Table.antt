-- The table of refusals: number, name and HTTP status of each (RFC 9110, section 15).
use Rattle.std.specs.Prelude.{ℕ, Bool, true, false, List, codes}
use Rattle.refusals.specs.declared.RefusalNumber.{RefusalNumber}
use Rattle.refusals.specs.declared.RefusalNumber.TheVariants as is

pub record Row : Type 0 where
  pub number : ℕ
  pub name : List ℕ
  pub status : ℕ
  pub is_answered : Bool

abbrev pub answered : ℕ → List ℕ → ℕ → Row
answered number name status = record { number = number; name = name; status = status; is_answered = true }

-- a refusal that HTTP never answers: in an answer it would be a fault of the server (section 15.6.1)
abbrev pub unanswered : ℕ → List ℕ → Row
unanswered number name = record { number = number; name = name; status = 500; is_answered = false }

abbrev pub row_of : RefusalNumber → Row
row_of is.Length = answered 1 (codes "Length") 422
row_of is.UnknownOpcode = answered 2 (codes "UnknownOpcode") 422
row_of is.BadField = answered 3 (codes "BadField") 422
row_of is.BadRegister = answered 4 (codes "BadRegister") 422
row_of is.BadTail = answered 5 (codes "BadTail") 422
row_of is.LeftOut = answered 6 (codes "LeftOut") 422
row_of is.BackJump = answered 7 (codes "BackJump") 422
row_of is.JumpOut = answered 8 (codes "JumpOut") 422
row_of is.IntoTail = answered 9 (codes "IntoTail") 422
row_of is.FallsOff = answered 10 (codes "FallsOff") 422
row_of is.Unreachable = answered 11 (codes "Unreachable") 422
row_of is.UnsetRegister = answered 12 (codes "UnsetRegister") 422
row_of is.PointerUsed = answered 13 (codes "PointerUsed") 422
row_of is.BadPointerSum = answered 14 (codes "BadPointerSum") 422
row_of is.NotPointer = answered 15 (codes "NotPointer") 422
row_of is.OutOfBounds = answered 16 (codes "OutOfBounds") 422
row_of is.Misaligned = answered 17 (codes "Misaligned") 422
row_of is.ContextWrite = answered 18 (codes "ContextWrite") 422
row_of is.UnsetStack = answered 19 (codes "UnsetStack") 422
row_of is.HelperUnknown = answered 20 (codes "HelperUnknown") 422
row_of is.HelperArgument = answered 21 (codes "HelperArgument") 422
row_of is.AnswerRange = answered 22 (codes "AnswerRange") 422
row_of is.ProgramOutOfMemory = answered 23 (codes "OutOfMemory") 503
row_of is.CallNotPermitted = answered 31 (codes "CallNotPermitted") 503
row_of is.BulkheadFull = answered 32 (codes "BulkheadFull") 429
row_of is.NoTicket = answered 33 (codes "NoTicket") 409
row_of is.TicketSpent = answered 34 (codes "TicketSpent") 409
row_of is.Stranger = answered 35 (codes "Stranger") 409
row_of is.VersionsFull = answered 36 (codes "VersionsFull") 503
row_of is.JournalFull = answered 37 (codes "JournalFull") 503
row_of is.ServiceOutOfMemory = answered 38 (codes "OutOfMemory") 503
row_of is.TicketsOpen = answered 39 (codes "TicketsOpen") 409
row_of is.UnknownWord = unanswered 41 (codes "UnknownWord")
row_of is.BadOperand = unanswered 42 (codes "BadOperand")
row_of is.BadNumber = unanswered 43 (codes "BadNumber")
row_of is.BadTextLength = unanswered 44 (codes "BadLength")
row_of is.AssemblerOutOfMemory = unanswered 45 (codes "OutOfMemory")
row_of is.BadHex = unanswered 46 (codes "BadHex")
row_of is.BadConfig = unanswered 47 (codes "BadConfig")
row_of is.Listen = unanswered 48 (codes "Listen")
row_of is.BadHead = answered 51 (codes "BadHead") 400
row_of is.HeadTooLarge = answered 52 (codes "HeadTooLarge") 431
row_of is.BodyTooLarge = answered 53 (codes "BodyTooLarge") 413
row_of is.BadContentLength = answered 54 (codes "BadLength") 400
row_of is.TransferCoding = answered 55 (codes "TransferCoding") 501
row_of is.NoRoute = answered 56 (codes "NoRoute") 404
row_of is.WrongMethod = answered 57 (codes "WrongMethod") 405
row_of is.BadJson = answered 58 (codes "BadJson") 400
row_of is.BadValue = answered 59 (codes "BadField") 422
row_of is.NoService = answered 60 (codes "NoService") 404
row_of is.Truncated = unanswered 61 (codes "Truncated")
row_of is.Busy = unanswered 71 (codes "Busy")
row_of is.SeatsFull = unanswered 72 (codes "SeatsFull")
row_of is.SeatsMissing = unanswered 73 (codes "SeatsMissing")

abbrev pub number_of : RefusalNumber → ℕ
number_of r = (row_of r).number

abbrev pub name_of : RefusalNumber → List ℕ
name_of r = (row_of r).name

abbrev pub status_of : RefusalNumber → ℕ
status_of r = (row_of r).status

abbrev pub is_answered : RefusalNumber → Bool
is_answered r = (row_of r).is_answered
