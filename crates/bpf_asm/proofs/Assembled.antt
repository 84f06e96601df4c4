-- What a text stands for is a program.
use Rattle.std.proofs.Common.{sym, subst, ℕ, ◌<◌, ◌≤◌, List, length}
use Rattle.bpf_profile.specs.declared.slot.Slot.{Slot}
use Rattle.bpf_profile.specs.Limits.{most_slots}
use Rattle.bpf_profile.specs.Spelling.{IsProgram}
use Rattle.bpf_asm.specs.Assembly.{Assembles, lines_of, small_letters}
use Rattle.bpf_asm.proofs.Admitted.{statements_good}
use Rattle.bpf_asm.proofs.Programs.{statements_are_program}

pub is_program : (text : List ℕ) (slots : List Slot) → Assembles text slots → IsProgram slots
is_program text slots is =
    let good = statements_good (lines_of (small_letters text)) is.statements is.lines in
    subst IsProgram (sym is.whole)
    (statements_are_program is.statements good (subst (λ (xs : List Slot). 0 < length xs) is.whole is.some) (subst (λ (xs : List Slot). length xs ≤ most_slots) is.whole is.few))
