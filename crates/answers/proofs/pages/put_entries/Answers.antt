use Rattle.std.proofs.Common.{take_all, List, ◌∷◌, flat_map, OnOk, subst, sym}
use Rattle.json.specs.Token.{Token, begin_array, end_array}
use Rattle.answers.specs.Entries.{entry_data}
use Rattle.answers.specs.Writing.{Adds, tokens_of}
use Rattle.answers.proofs.Listed.{entries_tokens, adds_last}
use Rattle.answers.proofs.pages.put_entries.Goals as goal

pub returns : goal.returns
returns c =
    let each : List Token = flat_map (λ line. tokens_of (entry_data line)) c.args.lines.now in
    let whole = take_all c.loop-line.line-index c.args.lines.now c.loop-line-test.false in
    let all : Adds (begin_array ∷ each) c.args.out.now c.loop-line.out = rw whole at c.loop-line.invariant in
    subst (λ (ts : List Token). OnOk c.end_array.result (Adds (begin_array ∷ ts) c.args.out.now c.end_array.new.self)) (sym (entries_tokens c.args.lines.now)) (adds_last c.end_array.result c.args.out.now c.loop-line.out c.end_array.new.self (begin_array ∷ each) end_array all c.end_array.ensures)
