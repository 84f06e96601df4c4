-- What the program's words ask for of a classifier, and how that ends.
use Rattle.std.specs.Prelude.{◌≡◌, ◌⊎◌, ℕ, List, [], ◌∷◌, ◌++◌, length, slice_index_or, codes, Option, ⊤}
use Rattle.std.specs.Borrow.{Bor}
use Rattle.std.specs.Io.KnownBytes.{Appends}
use Rattle.bpf_profile.specs.declared.layout.Layout.{Layout}
use Rattle.bpf_profile.specs.declared.layout.Layout.TheVariants as layout
use Rattle.classifier_commands.specs.declared.answer.Answer.{Answer}
use Rattle.classifier_commands.specs.declared.answer.Answer.TheVariants as answer
use Rattle.classifier_commands.specs.declared.answer.CommandRefusal.{CommandRefusal}
use Rattle.classifier_commands.specs.declared.error.CommandError.{CommandError}
use Rattle.classifier_commands.specs.declared.error.CommandError.TheVariants as error
use Rattle.classifier_commands.specs.declared.commands.Request.{Request}
use Rattle.classifier_commands.specs.declared.commands.Request.TheVariants as request
use Rattle.classifier_commands.specs.declared.commands.Status.{Status}
use Rattle.classifier_commands.specs.declared.commands.Status.TheVariants as status
use Rattle.classifier_commands.specs.Answers.{IsAllOf, IsAccepted, IsFaulty, IsVerifyAnswer, IsJudgeAnswer}
use Rattle.classifier_commands.specs.Assembling.{IsAssembled, IsAssemblyRefused, IsDisassembled, IsDisassemblyRefused}
use Rattle.classifier_commands.specs.Text.{answer_text}

-- a `&[&str]`
abbrev pub Words : Type 0
Words = List (Bor (List ℕ))

-- the text of a word, which is empty past the end
abbrev pub word : Words → ℕ → List ℕ
word words i = (slice_index_or words i (record { ref_ptr = (0, 0); now = [] })).now

-- there are two words, and the first is the name
abbrev pub Names : Words → List ℕ → Type 0
Names words name = (length words ≡ 2) × (word words 0 ≡ name)

-- there are three words, and these are the first and the last
abbrev pub NamesWith : Words → List ℕ → List ℕ → Type 0
NamesWith words name last = (length words ≡ 3) × (word words 0 ≡ name) × (word words 2 ≡ last)

-- the words are the name, a program and the number of this layout; without a number it is layout 1
abbrev pub NamesFor : Words → List ℕ → Layout → Type 0
NamesFor words name layout.One = Names words name ⊎ NamesWith words name (codes "1")
NamesFor words name layout.Two = NamesWith words name (codes "2")

-- the words are the name and a program, for one of the layouts
abbrev pub NamesForAny : Words → List ℕ → Type 0
NamesForAny words name = NamesFor words name layout.One ⊎ NamesFor words name layout.Two

-- there is one word, the name
abbrev pub NamesAlone : Words → List ℕ → Type 0
NamesAlone words name = (length words ≡ 1) × (word words 0 ≡ name)

abbrev pub NamesNone : Words → Type 0
NamesNone words = (¬ (NamesForAny words (codes "judge"))) × (¬ (NamesForAny words (codes "verify"))) × (¬ (NamesAlone words (codes "asm"))) × (¬ (Names words (codes "dis")))

-- the words ask for this
abbrev pub IsRequest : Words → Request → Type 0
IsRequest words (request.Judge program layout) = NamesFor words (codes "judge") layout × (program.now ≡ word words 1)
IsRequest words (request.Verify program layout) = NamesFor words (codes "verify") layout × (program.now ≡ word words 1)
IsRequest words request.Assemble = NamesAlone words (codes "asm")
IsRequest words (request.Disassemble program) = Names words (codes "dis") × (program.now ≡ word words 1)

-- input is asked for: by `judge` with a program that is accepted on records of its layout, and by `asm`
abbrev pub AsksForInput : Words → Type 0
AsksForInput words = ((layout : Layout) × NamesFor words (codes "judge") layout × IsAccepted layout (word words 1)) ⊎ NamesAlone words (codes "asm")

-- the request asks for input
abbrev pub WantsInput : Request → Type 0
WantsInput (request.Judge program layout) = IsAccepted layout program.now
WantsInput (request.Verify program layout) = ⊥
WantsInput request.Assemble = ⊤
WantsInput (request.Disassemble program) = ⊥

-- the words are those of `judge` or `verify` with a program that is refused on records of its layout
abbrev pub NamesFaulty : Words → Type 0
NamesFaulty words = (layout : Layout) × (NamesFor words (codes "judge") layout ⊎ NamesFor words (codes "verify") layout) × IsFaulty layout (word words 1)

-- the request is one to verify a program, which is refused
abbrev pub HasFault : Request → Type 0
HasFault (request.Judge program layout) = IsFaulty layout program.now
HasFault (request.Verify program layout) = IsFaulty layout program.now
HasFault request.Assemble = ⊥
HasFault (request.Disassemble program) = ⊥

-- the line that wrong words are answered with
abbrev pub usage : List ℕ
usage = codes "usage: sidecar judge|asm|dis|verify|replay|serve\n"

abbrev pub status_of : Answer → Status
status_of (answer.Judged verdict steps budget) = status.Done
status_of (answer.Accepted budget slots) = status.Done
status_of (answer.Refused fault) = status.Refused

abbrev pub code_of : Status → ℕ
code_of status.Done = 0
code_of status.Refused = 1
code_of status.WrongArguments = 2
code_of status.UsageFailed = 2
code_of status.ReadFailed = 1
code_of status.WriteFailed = 1
code_of status.OutOfMemory = 1
code_of status.TooLong = 1

-- how a command ends that failed
abbrev pub status_of_error : CommandError → Status
status_of_error error.ReadFailed = status.ReadFailed
status_of_error error.WriteFailed = status.WriteFailed
status_of_error error.OutOfMemory = status.OutOfMemory

-- the command's answer was printed: it is done, or refused
abbrev pub IsSettled : Status → Type 0
IsSettled ended = (ended ≡ status.Done) ⊎ (ended ≡ status.Refused)

-- an answer was printed as a line, and the command ends with its status
abbrev pub IsPrinted : Answer → Status → Option (List ℕ) → Option (List ℕ) → Type 0
IsPrinted answered ended before after = (ended ≡ status_of answered) × Appends before after (answer_text answered ++ 10 ∷ [])

abbrev pub HasJudged : Layout → List ℕ → Option (List ℕ) → Status → Option (List ℕ) → Option (List ℕ) → Type 0
HasJudged layout program known ended before after = (answered : Answer) × IsJudgeAnswer layout program known answered × IsPrinted answered ended before after

abbrev pub HasVerified : Layout → List ℕ → Status → Option (List ℕ) → Option (List ℕ) → Type 0
HasVerified layout program ended before after = (answered : Answer) × IsVerifyAnswer layout program answered × IsPrinted answered ended before after

-- the hexadecimal of the program that the text stands for, as a line, or the text's refusal
abbrev pub HasAssembled : Option (List ℕ) → Status → Option (List ℕ) → Option (List ℕ) → Type 0
HasAssembled known ended before after =
    (text : List ℕ) × IsAllOf known text
    × (((hex : List ℕ) × IsAssembled text hex × (ended ≡ status.Done) × Appends before after (hex ++ 10 ∷ []))
    ⊎ ((fault : CommandRefusal) × IsAssemblyRefused text fault × IsPrinted (answer.Refused fault) ended before after))

-- the lines of the program, or its refusal
abbrev pub HasDisassembled : List ℕ → Status → Option (List ℕ) → Option (List ℕ) → Type 0
HasDisassembled program ended before after =
    ((lines : List ℕ) × IsDisassembled program lines × (ended ≡ status.Done) × Appends before after lines)
    ⊎ ((fault : CommandRefusal) × IsDisassemblyRefused program fault × IsPrinted (answer.Refused fault) ended before after)

-- what was asked for was done, where the reader has these bytes
abbrev pub IsDone : Request → Option (List ℕ) → Status → Option (List ℕ) → Option (List ℕ) → Type 0
IsDone (request.Judge program layout) known ended before after = HasJudged layout program.now known ended before after
IsDone (request.Verify program layout) known ended before after = HasVerified layout program.now ended before after
IsDone request.Assemble known ended before after = HasAssembled known ended before after
IsDone (request.Disassemble program) known ended before after = HasDisassembled program.now ended before after

-- what the words ask for was done, where the reader has these bytes
abbrev pub HasAnswered : Words → Option (List ℕ) → Status → Option (List ℕ) → Option (List ℕ) → Type 0
HasAnswered words known ended before after =
    ((layout : Layout) × NamesFor words (codes "judge") layout × HasJudged layout (word words 1) known ended before after)
    ⊎ ((layout : Layout) × NamesFor words (codes "verify") layout × HasVerified layout (word words 1) ended before after)
    ⊎ (NamesAlone words (codes "asm") × HasAssembled known ended before after)
    ⊎ (Names words (codes "dis") × HasDisassembled (word words 1) ended before after)
