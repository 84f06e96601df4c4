-- The canonical text of a program stands for that program and for no other.
use Rattle.std.proofs.Common.{◌≡◌, ◌↔◌, sym, subst, ℕ, List}
use Rattle.bpf_profile.specs.declared.slot.Slot.{Slot}
use Rattle.bpf_profile.specs.Spelling.{IsProgram}
use Rattle.bpf_asm.specs.Assembly.{Assembles}
use Rattle.bpf_asm.specs.Canonical.{text_of}
use Rattle.bpf_asm.proofs.Printed.{text_assembles}
use Rattle.bpf_asm.proofs.Relation.{one_program}

pub canonical_text_returns : (slots other : List Slot) → IsProgram slots → (Assembles (text_of slots) other ↔ (other ≡ slots))
canonical_text_returns slots other program = (
  λ is. one_program (text_of slots) other slots is (text_assembles slots program),
  λ same. subst (Assembles (text_of slots)) (sym same) (text_assembles slots program),
)

-- a text that is a program's canonical one stands for it
pub stands_for : (text : List ℕ) (slots : List Slot) → IsProgram slots → text ≡ text_of slots → Assembles text slots
stands_for text slots program same = subst (λ (t : List ℕ). Assembles t slots) (sym same) (text_assembles slots program)
