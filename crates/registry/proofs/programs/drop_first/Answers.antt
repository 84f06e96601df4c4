use Rattle.std.proofs.Common.{map, drop, take, ap, sym, arith, ◌≡◌, ◌-◌, length, ◌∙◌}
use Rattle.std.proofs.lemmas.List.{drop-map, take-append-le, length-drop, take_all}
use Rattle.std.specs.Arc.{arc_value}
use Rattle.registry.proofs.programs.drop_first.Goals as goal

pub returns-clause-programs : goal.returns-clause-programs
returns-clause-programs c =
    let items = c.args.programs.now.items in
    let count = c.args.count in
    let left : length (drop count items) ≡ length items - count = length-drop count items in
    ap (map arc_value)
    (c.truncate.ensures.items
    ∙ ap (take (c.len.result - count)) c.rotate_left.ensures.items
    ∙ take-append-le (c.len.result - count) (drop count items) (take count items) (omega (arith, left, c.len.ensures, c.args.programs.now.ok.0))
    ∙ take_all (c.len.result - count) (drop count items) (omega (arith, left, c.len.ensures, c.args.programs.now.ok.0)))
    ∙ sym (drop-map arc_value count items)
