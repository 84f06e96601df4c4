use Rattle.std.proofs.Common.{◌+◌, ◌-◌, ◌*◌, ◌%◌, ◌^◌, ◌<◌, ◌≤◌, ◌∙◌, ℕ, ap, arith}
use Rattle.std.proofs.lemmas.Nat.{pow_pos, shl_whole}
use Rattle.bpf_profile.specs.Words.{bytes_in}
use Rattle.stack_track.proofs.masks.bits_at.Goals as goal

pub returns : goal.returns
returns c =
    let some = pow_pos (bytes_in c.args.size) in
    let small : 2 ^ bytes_in c.args.size - 1 < 2 ^ bytes_in c.args.size = omega (arith, some) in
    let within : bytes_in c.args.size + c.args.place % 8 ≤ 8 = omega (arith, c.requires) in
    ap (λ (ones : ℕ). ones * 2 ^ (c.args.place % 8) % 2 ^ 8) c.ones.ensures ∙ shl_whole (2 ^ bytes_in c.args.size - 1) (bytes_in c.args.size) (c.args.place % 8) 8 small within
