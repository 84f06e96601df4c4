-- No two refusals have one number.
use Rattle.std.proofs.Common.{◌≡◌, refl, ap, sym, ◌∙◌, ℕ, List, [], ◌∷◌, Option, Some, None, ◌==◌, cond}
use Rattle.refusals.specs.declared.RefusalNumber.{RefusalNumber}
use Rattle.refusals.specs.declared.RefusalNumber.TheVariants as is
use Rattle.refusals.specs.Table.{number_of}

abbrev among : List RefusalNumber → ℕ → Option RefusalNumber
among [] n = None
among (r ∷ rs) n = cond (number_of r == n) (Some r) (among rs n)

abbrev every : List RefusalNumber
every = is.Length ∷ is.UnknownOpcode ∷ is.BadField ∷ is.BadRegister ∷ is.BadTail ∷ is.LeftOut ∷ is.BackJump ∷ is.JumpOut ∷ is.IntoTail ∷ is.FallsOff ∷ is.Unreachable ∷ is.UnsetRegister ∷ is.PointerUsed ∷ is.BadPointerSum ∷ is.NotPointer ∷ is.OutOfBounds ∷ is.Misaligned ∷ is.ContextWrite ∷ is.UnsetStack ∷ is.HelperUnknown ∷ is.HelperArgument ∷ is.AnswerRange ∷ is.ProgramOutOfMemory ∷ is.CallNotPermitted ∷ is.BulkheadFull ∷ is.NoTicket ∷ is.TicketSpent ∷ is.Stranger ∷ is.VersionsFull ∷ is.JournalFull ∷ is.ServiceOutOfMemory ∷ is.TicketsOpen ∷ is.UnknownWord ∷ is.BadOperand ∷ is.BadNumber ∷ is.BadTextLength ∷ is.AssemblerOutOfMemory ∷ is.BadHex ∷ is.BadConfig ∷ is.Listen ∷ is.BadHead ∷ is.HeadTooLarge ∷ is.BodyTooLarge ∷ is.BadContentLength ∷ is.TransferCoding ∷ is.NoRoute ∷ is.WrongMethod ∷ is.BadJson ∷ is.BadValue ∷ is.NoService ∷ is.Truncated ∷ is.Busy ∷ is.SeatsFull ∷ is.SeatsMissing ∷ []

found : (r : RefusalNumber) → among every (number_of r) ≡ Some r
found is.Length = refl
found is.UnknownOpcode = refl
found is.BadField = refl
found is.BadRegister = refl
found is.BadTail = refl
found is.LeftOut = refl
found is.BackJump = refl
found is.JumpOut = refl
found is.IntoTail = refl
found is.FallsOff = refl
found is.Unreachable = refl
found is.UnsetRegister = refl
found is.PointerUsed = refl
found is.BadPointerSum = refl
found is.NotPointer = refl
found is.OutOfBounds = refl
found is.Misaligned = refl
found is.ContextWrite = refl
found is.UnsetStack = refl
found is.HelperUnknown = refl
found is.HelperArgument = refl
found is.AnswerRange = refl
found is.ProgramOutOfMemory = refl
found is.CallNotPermitted = refl
found is.BulkheadFull = refl
found is.NoTicket = refl
found is.TicketSpent = refl
found is.Stranger = refl
found is.VersionsFull = refl
found is.JournalFull = refl
found is.ServiceOutOfMemory = refl
found is.TicketsOpen = refl
found is.UnknownWord = refl
found is.BadOperand = refl
found is.BadNumber = refl
found is.BadTextLength = refl
found is.AssemblerOutOfMemory = refl
found is.BadHex = refl
found is.BadConfig = refl
found is.Listen = refl
found is.BadHead = refl
found is.HeadTooLarge = refl
found is.BodyTooLarge = refl
found is.BadContentLength = refl
found is.TransferCoding = refl
found is.NoRoute = refl
found is.WrongMethod = refl
found is.BadJson = refl
found is.BadValue = refl
found is.NoService = refl
found is.Truncated = refl
found is.Busy = refl
found is.SeatsFull = refl
found is.SeatsMissing = refl

-- refusals with one number are one
pub number_of-injective : (a b : RefusalNumber) → number_of a ≡ number_of b → a ≡ b
number_of-injective a b e =
    let both : Some a ≡ Some b = sym (found a) ∙ ap (among every) e ∙ found b in
    cc
