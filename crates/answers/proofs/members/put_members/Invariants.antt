use Rattle.std.proofs.Common.{map, flat_map, take}
use Rattle.answers.specs.Members.{field_of}
use Rattle.answers.specs.Writing.{Adds, field_tokens}
use Rattle.answers.proofs.members.put_members.Given as goal

-- the first members are written
abbrev pub invariant-loop-member : goal.invariant-loop-member
invariant-loop-member l = Adds (flat_map field_tokens (map field_of (take l.member-index l.members))) l.fn.out l.out
