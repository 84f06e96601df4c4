use Rattle.std.proofs.Common.{sym, ap, ◌∙◌, subst, ◌≡◌, map, reverse}
use Rattle.std.specs.List.{AllByRecursion}
use Rattle.std.proofs.lemmas.List.{reverse-reverse}
use Rattle.slot_desk.specs.Seats.{SeatData, IsTallied}
use Rattle.slot_desk.specs.Slots.{known_of, table_of}
use Rattle.slot_desk.specs.Closing.{traces_row}
use Rattle.slot_desk.specs.Gathering.{all_added}
use Rattle.slot_desk.proofs.closing.gather.Goals as goal

pub gather_reversed-requires-clause-here : goal.gather_reversed-requires-clause-here
gather_reversed-requires-clause-here c =
    let twice : reverse c.reverse.new.self.items ≡ c.args.seats.items = ap reverse c.reverse.ensures.items ∙ reverse-reverse c.args.seats.items in
    subst (AllByRecursion (λ (seat : SeatData). seat.tables ≡ map table_of c.args.slots.now)) (sym twice) c.requires.here

pub returns-clause-known : goal.returns-clause-known
returns-clause-known c =
    let twice : reverse c.reverse.new.self.items ≡ c.args.seats.items = ap reverse c.reverse.ensures.items ∙ reverse-reverse c.args.seats.items in
    c.gather_reversed.ensures.known ∙ ap (λ seats. all_added (map known_of c.args.slots.now) (map traces_row seats)) twice

pub returns-clause-tallied : goal.returns-clause-tallied
returns-clause-tallied c =
    let twice : reverse c.reverse.new.self.items ≡ c.args.seats.items = ap reverse c.reverse.ensures.items ∙ reverse-reverse c.args.seats.items in
    subst (AllByRecursion IsTallied) twice c.gather_reversed.ensures.tallied
