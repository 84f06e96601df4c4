-- A flat instruction may cross threads: all that it holds are numbers and what enums of plain variants name.
use mathlib.Core.Nat.{ℕ, zero, suc}
use mathlib.Core.List.{List, [], ◌∷◌}
use denote.RattleType.{RattleType}
use denote.Enum.Declared as enum
use denote.Param.Send.{IsSend, IsSync, EachSend, EachSync, enum_send, enum_sync, sendable}
use Rattle.bpf_flat.specs.contracts.flat.Code as code
use Rattle.bpf_flat.specs.contracts.flat.Flat as flat

-- so many variants that hold nothing; a search over all codes breaks off
abbrev plain : ℕ → List (List RattleType)
plain zero = []
plain (suc count) = [] ∷ plain count

plain_send : (count : ℕ) → EachSend (plain count)
plain_send zero = tt
plain_send (suc count) = (tt, plain_send count)

plain_sync : (count : ℕ) → EachSync (plain count)
plain_sync zero = tt
plain_sync (suc count) = (tt, plain_sync count)

code_send : IsSend (code.the_field).row
code_send = enum_send (enum.shape code.the_type) (plain_send 130)

code_sync : IsSync (code.the_field).row
code_sync = enum_sync (enum.shape code.the_type) (plain_sync 130)

pub flat_send : IsSend flat.the_row
flat_send = search (sendable, code_send) depth 40 fits 20000

pub flat_sync : IsSync flat.the_row
flat_sync = search (sendable, code_sync) depth 40 fits 20000
