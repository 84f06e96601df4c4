use Rattle.std.proofs.Common.{◌∙◌, inl, inr, ⊎_elim, sym, ap, subst, List, ℕ, [], Ok, arith}
use Rattle.std.proofs.lemmas.Bool.{eqb-true, eqb-false}
use Rattle.std.proofs.lemmas.Result.{err_from_is_err_and}
use Rattle.bpf_asm.specs.Assembly.{with_lines, lines_of, small_letters, Assembles}
use Rattle.bpf_asm.proofs.Relation.{read_slots, no_program, no_slots, nil_from_none, one_program}
use Rattle.bpf_asm.proofs.Returning.{stands_for}
use Rattle.bpf_asm.proofs.Assembled.{is_program}
use Rattle.bpf_asm.proofs.assembly.assemble.Goals as goal

pub returns-in_err-slots-clause-refused : goal.returns-in_err-slots-clause-refused
returns-in_err-slots-clause-refused c =
    let p = err_from_is_err_and c.from_residual.result c.from_residual.ensures.1 in
    let same = sym c.as_bytes.ensures.value in
    rw (p.1, p.2) (⊎_elim (λ e. inl e) (λ e. inr (no_program c.args.text.now _ (ap (λ (xs : List ℕ). with_lines 1 [] (lines_of (small_letters xs))) same ∙ e))) c.in_err-slots.ensures)

pub returns-then-is_empty-clause-refused : goal.returns-then-is_empty-clause-refused
returns-then-is_empty-clause-refused c =
    let same = sym c.as_bytes.ensures.value in
    let none = eqb-true _ 0 (sym c.is_empty.ensures ∙ c.if-is_empty.true) in
    let nil = nil_from_none c.in_ok-slots.slots.items (omega (arith, c.in_ok-slots.slots.ok.0)) in
    inr (no_slots c.args.text.now (ap (λ (xs : List ℕ). with_lines 1 [] (lines_of (small_letters xs))) same ∙ c.in_ok-slots.ensures ∙ ap Ok nil))

pub returns-clause-program : goal.returns-clause-program
returns-clause-program c =
    let same = sym c.as_bytes.ensures.value in
    let some = eqb-false _ 0 (sym c.is_empty.ensures ∙ c.if-is_empty.false) in
    subst (Assembles c.args.text.now) (sym c.from_slots.ensures) (read_slots c.args.text.now c.in_ok-slots.slots.items (ap (λ (xs : List ℕ). with_lines 1 [] (lines_of (small_letters xs))) same ∙ c.in_ok-slots.ensures) (omega (arith, c.in_ok-slots.slots.ok.0)))

pub from_slots-requires : goal.from_slots-requires
from_slots-requires c =
    let same = sym c.as_bytes.ensures.value in
    let some = eqb-false _ 0 (sym c.is_empty.ensures ∙ c.if-is_empty.false) in
    is_program c.args.text.now c.in_ok-slots.slots.items (read_slots c.args.text.now c.in_ok-slots.slots.items (ap (λ (xs : List ℕ). with_lines 1 [] (lines_of (small_letters xs))) same ∙ c.in_ok-slots.ensures) (omega (arith, c.in_ok-slots.slots.ok.0)))

pub returns-in_err-slots-clause-round_trip : goal.returns-in_err-slots-clause-round_trip
returns-in_err-slots-clause-round_trip c =
    let p = err_from_is_err_and c.from_residual.result c.from_residual.ensures.1 in
    let same = sym c.as_bytes.ensures.value in
    λ slots program is.
    rw (p.1, p.2) (⊎_elim (λ e. e) (λ e. absurd (no_program c.args.text.now _ (ap (λ (xs : List ℕ). with_lines 1 [] (lines_of (small_letters xs))) same ∙ e) slots (stands_for c.args.text.now slots program is))) c.in_err-slots.ensures)

pub returns-then-is_empty-clause-round_trip : goal.returns-then-is_empty-clause-round_trip
returns-then-is_empty-clause-round_trip c =
    let same = sym c.as_bytes.ensures.value in
    let none = eqb-true _ 0 (sym c.is_empty.ensures ∙ c.if-is_empty.true) in
    let nil = nil_from_none c.in_ok-slots.slots.items (omega (arith, c.in_ok-slots.slots.ok.0)) in
    λ slots program is. absurd (no_slots c.args.text.now (ap (λ (xs : List ℕ). with_lines 1 [] (lines_of (small_letters xs))) same ∙ c.in_ok-slots.ensures ∙ ap Ok nil) slots (stands_for c.args.text.now slots program is))

pub returns-clause-round_trip : goal.returns-clause-round_trip
returns-clause-round_trip c =
    let same = sym c.as_bytes.ensures.value in
    let some = eqb-false _ 0 (sym c.is_empty.ensures ∙ c.if-is_empty.false) in
    let read = read_slots c.args.text.now c.in_ok-slots.slots.items (ap (λ (xs : List ℕ). with_lines 1 [] (lines_of (small_letters xs))) same ∙ c.in_ok-slots.ensures) (omega (arith, c.in_ok-slots.slots.ok.0)) in
    λ slots program is. c.from_slots.ensures ∙ one_program c.args.text.now c.in_ok-slots.slots.items slots read (stands_for c.args.text.now slots program is)
