use Rattle.std.proofs.Common.{◌≡◌, ◌∙◌, ◌<◌, inl, inr, ⊎_elim, sym, ap, ℕ, List, [], ◌∷◌, length, map, arith}
use Rattle.std.proofs.lemmas.Result.{err_from_is_err_and}
use Rattle.bpf_asm.specs.Assembly.{with_lines, lines_of, small_letters}
use Rattle.bpf_asm.proofs.Letters.{lines_small, first_small}
use Rattle.bpf_asm.proofs.Lines.{line_read, last_read, line_fails, some_line, at_none, at_some}
use Rattle.bpf_asm.proofs.assembly.slots_of.Goals as goal

pub returns-in_err-push_line : goal.returns-in_err-push_line
returns-in_err-push_line c =
    let p = err_from_is_err_and c.from_residual.result c.from_residual.ensures.1 in
    let line = c.cut_line.result.0.now in
    let first = some_line c.cut_line.result.1 (lines_of c.lines.rest.now) line (λ more. lines_of more.now) (λ more. length more.now < length c.lines.rest.now) c.cut_line.ensures in
    rw (p.1, p.2) (⊎_elim (λ e. inl e) (λ e. inr (sym c.lines.invariant.0 ∙ ap (with_lines c.lines.number c.lines.slots.items) (first_small c.lines.rest.now line first.0 first.1)
    ∙ line_fails c.lines.number c.lines.slots.items (small_letters line) (map small_letters first.0) _ e)) c.in_err-push_line.ensures)

pub returns-in_default : goal.returns-in_default
returns-in_default c =
    let line = c.cut_line.result.0.now in
    let last = at_none c.cut_line.result.1 (lines_of c.lines.rest.now ≡ line ∷ []) _ c.in_default.is c.cut_line.ensures in
    sym c.lines.invariant.0 ∙ ap (with_lines c.lines.number c.lines.slots.items) (first_small c.lines.rest.now line [] last)
    ∙ last_read c.lines.number c.lines.slots.items c.push_line.new.slots.items (small_letters line) c.in_ok-push_line.ensures

pub lines-preserved : goal.lines-preserved
lines-preserved c =
    let rest = c.lines.rest.now in
    let line = c.cut_line.result.0.now in
    let more = c.in-Some.more.now in
    let first = at_some c.cut_line.result.1 c.in-Some.more (lines_of rest ≡ line ∷ [])
    (λ more. (lines_of rest ≡ line ∷ lines_of more.now) × (length more.now < length rest)) c.in-Some.is c.cut_line.ensures in
    let small : lines_of (small_letters rest) ≡ small_letters line ∷ lines_of (small_letters more) =
    first_small rest line (lines_of more) first.0 ∙ ap (λ (ls : List (List ℕ)). small_letters line ∷ ls) (sym (lines_small more)) in (
      sym (line_read c.lines.number c.lines.slots.items c.push_line.new.slots.items (small_letters line) (lines_of (small_letters more)) c.in_ok-push_line.ensures)
          ∙ ap (with_lines c.lines.number c.lines.slots.items) (sym small) ∙ c.lines.invariant.0,
      omega (arith, first.1, c.lines.invariant.1),
    )
