-- What `asm` and `dis` answer.
use Rattle.std.specs.Prelude.{◌≡◌, ◌⊎◌, ℕ, ◌+◌, ◌==◌, List, length, take, filter, Some, None, Err}
use Rattle.std.specs.Str.{IsUtf8, IsValidUpTo}
use Rattle.hex.specs.Hex.{encode_lower}
use Rattle.refusals.specs.declared.RefusalNumber.TheVariants.{ProgramOutOfMemory, AssemblerOutOfMemory, UnknownWord, BadHex}
use Rattle.bpf_profile.specs.declared.slot.Slot.{Slot}
use Rattle.bpf_profile.specs.Spelling.{Spells}
use Rattle.bpf_profile.specs.SpellingFaults.{first_fault}
use Rattle.bpf_asm.specs.Assembly.{Assembles, assembly_of}
use Rattle.bpf_asm.specs.Canonical.{text_of}
use Rattle.classifier_commands.specs.declared.answer.CommandRefusal.{CommandRefusal}
use Rattle.texts.specs.Hexadecimal.{hex_of}

-- the line of the byte at an index: one more than there are line feeds before it
abbrev pub line_at : List ℕ → ℕ → ℕ
line_at text index = length (filter (λ byte. byte == 10) (take index text)) + 1

-- ---- asm

abbrev pub IsHexadecimalOf : List Slot → List ℕ → Type 0
IsHexadecimalOf slots hex = (bytes : List ℕ) × Spells bytes slots × (hex ≡ encode_lower bytes)

-- the hexadecimal of the program that the text stands for
abbrev pub IsTextAssembled : List ℕ → List ℕ → Type 0
IsTextAssembled text hex = (slots : List Slot) × Assembles text slots × IsHexadecimalOf slots hex

-- the text's first fault, or no memory
abbrev pub IsTextFault : List ℕ → CommandRefusal → Type 0
IsTextFault text fault = (fault.number ≡ AssemblerOutOfMemory) ⊎ (assembly_of text ≡ Err (record { line = fault.place; kind = fault.number }))

abbrev pub IsAssembled : List ℕ → List ℕ → Type 0
IsAssembled bytes hex = IsUtf8 bytes × IsTextAssembled bytes hex

-- bytes that are no UTF-8 are an unknown word at the line of the first bad byte
abbrev pub IsAssemblyRefused : List ℕ → CommandRefusal → Type 0
IsAssemblyRefused bytes fault =
    ((¬ (IsUtf8 bytes)) × (fault.number ≡ UnknownWord) × (index : ℕ) × IsValidUpTo bytes index × (fault.place ≡ line_at bytes index))
    ⊎ (IsUtf8 bytes × IsTextFault bytes fault)

-- ---- dis

abbrev pub IsDecoded : List ℕ → List Slot → Type 0
IsDecoded text slots = (bytes : List ℕ) × (hex_of text ≡ Some bytes) × Spells bytes slots

-- the canonical text of the program that the hexadecimal spells
abbrev pub IsDisassembled : List ℕ → List ℕ → Type 0
IsDisassembled text lines = (slots : List Slot) × IsDecoded text slots × (lines ≡ text_of slots)

-- why the text spells no program: memory ran out, it is no hexadecimal, or its bytes have a first fault
abbrev pub IsDisassemblyRefused : List ℕ → CommandRefusal → Type 0
IsDisassemblyRefused text fault =
    (fault.number ≡ ProgramOutOfMemory)
    ⊎ ((fault.number ≡ BadHex) × (hex_of text ≡ None))
    ⊎ ((bytes : List ℕ) × (hex_of text ≡ Some bytes) × (first_fault bytes ≡ Some (record { slot = fault.place; number = fault.number })))
