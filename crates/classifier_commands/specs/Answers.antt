-- What the commands answer.
use Rattle.std.specs.Prelude.{◌≡◌, ◌⊎◌, ℕ, List, length, Option, Some, None}
use Rattle.serde_json.specs.Data.{Data}
use Rattle.refusals.specs.declared.RefusalNumber.TheVariants.{ProgramOutOfMemory, BadHex, BadJson, BadValue}
use Rattle.bpf_profile.specs.declared.layout.Layout.{Layout}
use Rattle.bpf_profile.specs.Layouts.{context_size}
use Rattle.bpf_profile.specs.Meaning.{Judges}
use Rattle.bpf_profile.specs.Outcomes.{Outcome}
use Rattle.bpf_profile.specs.Safety.{IsSafe}
use Rattle.bpf_profile.specs.SpellingFaults.{Fault}
use Rattle.texts.specs.Outcomes.{outcome_of}
use Rattle.texts.specs.JsonText.{json_of}
use Rattle.bpf_profile.specs.Programs.{VerifiedProgram}
use Rattle.verifier.specs.Verifying.{IsVerification, IsRefused}
use Rattle.classifier_commands.specs.declared.answer.Answer.{Answer}
use Rattle.classifier_commands.specs.declared.answer.Answer.TheVariants as answer
use Rattle.classifier_commands.specs.declared.answer.CommandRefusal.{CommandRefusal}
use Rattle.texts.specs.Hexadecimal.{hex_of}

-- ---- programs

-- the text is hexadecimal of this program, which flow and analysis accept on records of the layout; its budget is that of its flow, and with it the program is safe
abbrev pub IsAdmitted : Layout → List ℕ → VerifiedProgram → Type 0
IsAdmitted layout text program =
    (bytes : List ℕ) × (hex_of text ≡ Some bytes) × IsVerification bytes program × (program.layout ≡ layout) × IsSafe (context_size layout) program.slots program.budget

-- the text is hexadecimal of a program that is accepted on records of the layout
abbrev pub IsAccepted : Layout → List ℕ → Type 0
IsAccepted layout text = (program : VerifiedProgram) × IsAdmitted layout text program

-- why the text is no program that is accepted: memory ran out, it is no hexadecimal, or its bytes are refused for their first fault
abbrev pub IsTextRefused : Layout → List ℕ → CommandRefusal → Type 0
IsTextRefused layout text fault =
    (fault.number ≡ ProgramOutOfMemory)
    ⊎ ((fault.number ≡ BadHex) × (hex_of text ≡ None))
    ⊎ ((bytes : List ℕ) × (hex_of text ≡ Some bytes) × IsRefused layout bytes (record { slot = fault.place; number = fault.number }))

-- the text is hexadecimal of bytes that are refused on records of the layout, for their first fault
abbrev pub IsFaulty : Layout → List ℕ → Type 0
IsFaulty layout text = (bytes : List ℕ) × (hex_of text ≡ Some bytes) × (fault : Fault) × IsRefused layout bytes fault

-- what `verify` answers
abbrev pub IsVerifyAnswer : Layout → List ℕ → Answer → Type 0
IsVerifyAnswer layout text (answer.Judged verdict steps budget) = ⊥
IsVerifyAnswer layout text (answer.Accepted budget count) = (program : VerifiedProgram) × IsAdmitted layout text program × (budget ≡ program.budget) × (count ≡ length program.slots)
IsVerifyAnswer layout text (answer.Refused fault) = IsTextRefused layout text fault

-- ---- outcomes

-- the text is the JSON of this outcome
abbrev pub IsOutcomeRead : List ℕ → Outcome → Type 0
IsOutcomeRead text outcome = (d : Data) × (json_of text ≡ Some d) × (outcome_of d ≡ Some outcome)

-- why the text is no outcome: it is no JSON, or that is no outcome
abbrev pub IsOutcomeRefused : List ℕ → CommandRefusal → Type 0
IsOutcomeRefused text fault =
    ((fault.number ≡ BadJson) × (json_of text ≡ None))
    ⊎ ((d : Data) × (fault.number ≡ BadValue) × (json_of text ≡ Some d) × (outcome_of d ≡ None))

-- what a program's slots, with their budget, answer to the text of an outcome, of which the program sees as much as its layout has
abbrev pub IsJudgement : VerifiedProgram → List ℕ → Answer → Type 0
IsJudgement program text (answer.Judged verdict steps budget) =
    (outcome : Outcome) × IsOutcomeRead text outcome × Judges (context_size program.layout) program.slots outcome verdict steps × (budget ≡ program.budget)
IsJudgement program text (answer.Accepted budget count) = ⊥
IsJudgement program text (answer.Refused fault) = IsOutcomeRefused text fault

-- bytes that were read are those that the reader had, where it is known what it had
abbrev pub IsAllOf : Option (List ℕ) → List ℕ → Type 0
IsAllOf None text = Unit {0}
IsAllOf (Some known) text = text ≡ known

-- what a program answers to the outcome that is read
abbrev pub IsReadJudgement : VerifiedProgram → Option (List ℕ) → Answer → Type 0
IsReadJudgement program known answered = (read : List ℕ) × IsAllOf known read × IsJudgement program read answered

-- a program that is admitted answers so to the outcome that is read
abbrev pub IsAnswered : Layout → List ℕ → Option (List ℕ) → Answer → Type 0
IsAnswered layout text known answered = (program : VerifiedProgram) × IsAdmitted layout text program × IsReadJudgement program known answered

-- what `judge` answers: a refused program comes first
abbrev pub IsJudgeAnswer : Layout → List ℕ → Option (List ℕ) → Answer → Type 0
IsJudgeAnswer layout text known (answer.Refused fault) = IsTextRefused layout text fault ⊎ IsAnswered layout text known (answer.Refused fault)
IsJudgeAnswer layout text known answered = IsAnswered layout text known answered
