use Rattle.std.proofs.Common.{◌∷◌, take, flat_map}
use Rattle.json.specs.Token.{begin_array}
use Rattle.answers.specs.Entries.{entry_data}
use Rattle.answers.specs.Writing.{Adds, tokens_of}
use Rattle.answers.proofs.pages.put_entries.Given as goal

-- the first entries are written
abbrev pub invariant-loop-line : goal.invariant-loop-line
invariant-loop-line l = Adds (begin_array ∷ flat_map (λ line. tokens_of (entry_data line)) (take l.line-index l.lines)) l.fn.out l.out
