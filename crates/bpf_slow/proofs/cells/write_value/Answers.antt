use Rattle.std.proofs.Common.{◌∙◌, ℕ, List, refl, ap, length, map, take}
use Rattle.bpf_profile.specs.declared.machine.Cell.TheVariants as cell
use Rattle.bpf_slow.proofs.Bytes.{lowest_bytes}
use Rattle.bpf_slow.proofs.cells.write_value.Goals as goal

pub returns-in-Number : goal.returns-in-Number
returns-in-Number c =
    let lowest = ap (map cell.Byte) (lowest_bytes 0 (length c.args.room.now) 8 c.in-Number.number c.requires) in
    let bytes = ap (λ (bytes : List ℕ). map cell.Byte (take (length c.args.room.now) bytes)) c.to_le_bytes.ensures in
    rw c.in-Number.is (refl, c.write_bytes.ensures ∙ bytes ∙ lowest)
