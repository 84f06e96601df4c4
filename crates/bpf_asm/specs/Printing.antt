-- The operands of an instruction as they are printed, one after another.
use Rattle.std.specs.Prelude.{ℕ, List, [], ◌++◌, codes, decimal}
use Rattle.bpf_asm.specs.declared.printing.OperandText.{OperandText}
use Rattle.bpf_asm.specs.declared.printing.OperandText.TheVariants as text
use Rattle.bpf_asm.specs.declared.printing.OperandsText.{OperandsText}
use Rattle.bpf_asm.specs.declared.printing.OperandsText.TheVariants as texts
use Rattle.bpf_asm.specs.Canonical.{register_text, immediate_text, offset_text, place_text, then}

-- one operand
abbrev pub shown : OperandText → List ℕ
shown (text.Register register) = register_text register
shown (text.Immediate word) = immediate_text word
shown (text.Offset word) = offset_text word
shown (text.Place base offset) = place_text base offset
shown (text.Natural number) = decimal number

-- all of them, with the blank before them
abbrev pub all_shown : OperandsText → List ℕ
all_shown texts.Zero = []
all_shown (texts.One first) = codes " " ++ shown first
all_shown (texts.Two first second) = codes " " ++ then (shown first) (shown second)
all_shown (texts.Three first second third) = codes " " ++ then (shown first) (then (shown second) (shown third))
