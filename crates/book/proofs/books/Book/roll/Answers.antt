use Rattle.std.proofs.Common.{◌≡◌, ◌+◌, ◌≤◌, min, length, List, arith, ap, sym, ◌∙◌, Ok, Err, refl, subst, rules}
use Rattle.std.proofs.lemmas.List.{length-take-le}
use Rattle.refusals.specs.declared.RefusalNumber.TheVariants as refusal
use Rattle.service_profile.specs.Answers.{is_worn_out, IsRolled, held_lines}
use Rattle.service_profile.specs.Events.{EntryData, History}
use Rattle.service_profile.specs.Histories.{past_of}
use Rattle.book.specs.Books.{rolled_of, opening_of, journal, all_lines}
use Rattle.book.proofs.Applying.{line_fits}
use Rattle.book.proofs.Openings.{line_least}
use Rattle.book.proofs.Journals.{all_count, all_held}
use Rattle.book.proofs.Rolls.{lines_stay, handed_count, rolled_there, rolled_told, rolled_by, counts, rolled_well, no_room_there}
use Rattle.book.proofs.books.Book.roll.Goals as goal

pub overflow_add-self-inside : goal.overflow_add-self-inside
overflow_add-self-inside c = omega (arith, line_fits _ _ _ _ _ c.self.invariant.0, all_count c.self.inside.handed.items c.self.inside.entries.items c.self.inside.rolled c.self.invariant.1)

pub overflow_sub-self-inside : goal.overflow_sub-self-inside
overflow_sub-self-inside c = omega (arith, line_least _ _ _ _ _ c.self.invariant.0)

pub overflow_add-self : goal.overflow_add-self
overflow_add-self c =
    omega (arith, line_fits _ _ _ _ _ c.self.invariant.0, all_count c.self.inside.handed.items c.self.inside.entries.items c.self.inside.rolled c.self.invariant.1, c.min-count.ensures, c.len.ensures, c.self.inside.entries.ok.0)

pub invariant_of-self : goal.invariant_of-self
invariant_of-self c =
    let fresh = ap (λ (h : History). is_worn_out (past_of h)) c.self.view_is ∙ sym (sym c.if-is_worn_out.false ∙ c.is_worn_out.ensures) in
    let few : c.min-count.result ≤ length c.self.inside.entries.items = omega (arith, c.min-count.ensures, c.len.ensures, c.self.inside.entries.ok.0) in
    let stay = lines_stay c.self.inside.handed.items c.in-Ok.handed c.self.inside.entries.items c.split.new.entries.items c.min-count.result c.in-Ok.ensures.handed c.in-Ok.ensures.stays in
    let all = ap (λ ps. all_lines ps c.split.new.entries.items) c.and-self-inside.ensures ∙ stay in
    let length_ : length c.in-Ok.handed.items ≡ c.min-count.result = ap length c.in-Ok.ensures.handed ∙ length-take-le c.min-count.result c.self.inside.entries.items few in (
      rolled_there c.self.inside.start c.self.inside.service c.drop_unneeded.new.self _ _ _ c.self.inside.rolled c.min-count.result c.self.invariant.0 fresh (omega (arith, few, all_count c.self.inside.handed.items c.self.inside.entries.items c.self.inside.rolled c.self.invariant.1)) c.drop_unneeded.ensures.stands c.drop_unneeded.ensures.refused c.drop_unneeded.ensures.config all,
      rw c.and-self-inside.ensures (handed_count c.self.inside.handed.items c.in-Ok.handed c.self.inside.rolled c.min-count.result c.self.invariant.1 length_),
    )

pub returns-in-Ok-clause-rolled : goal.returns-in-Ok-clause-rolled
returns-in-Ok-clause-rolled c =
    let counted = counts c.self.inside.start.line c.self.inside.rolled (length c.self.inside.entries.items) (length (all_lines c.self.inside.handed.items c.self.inside.entries.items)) c.args.last c.saturating_sub-passed.result c.min-count.result
    (line_least _ _ _ _ _ c.self.invariant.0) (all_count c.self.inside.handed.items c.self.inside.entries.items c.self.inside.rolled c.self.invariant.1) c.saturating_sub-passed.ensures (c.min-count.ensures ∙ ap (min c.saturating_sub-passed.result) (c.len.ensures ∙ c.self.inside.entries.ok.0)) in
    let before : History = journal (opening_of c.self.inside.service.config c.self.inside.start) (all_lines c.self.inside.handed.items c.self.inside.entries.items) (rolled_of c.self.inside.rolled c.self.inside.service c.self.inside.start) in
    let fresh = ap (λ (h : History). is_worn_out (past_of h)) c.self.view_is ∙ sym (sym c.if-is_worn_out.false ∙ c.is_worn_out.ensures) in
    let held : held_lines before ≡ c.self.inside.entries.items = sym (all_held c.self.inside.handed.items c.self.inside.entries.items c.self.inside.rolled c.self.invariant.1) in
    let stay = lines_stay c.self.inside.handed.items c.in-Ok.handed c.self.inside.entries.items c.split.new.entries.items c.min-count.result c.in-Ok.ensures.handed c.in-Ok.ensures.stays in
    let all = ap (λ ps. all_lines ps c.split.new.entries.items) c.and-self-inside.ensures ∙ stay in
    let after : History = journal (opening_of c.drop_unneeded.new.self.config c.self.inside.start) (all_lines c.and-self-inside.result.items c.split.new.entries.items) (rolled_of (c.self.inside.rolled + c.min-count.result) c.drop_unneeded.new.self c.self.inside.start) in
    let told = rolled_told c.self.inside.start c.self.inside.service c.drop_unneeded.new.self (all_lines c.self.inside.handed.items c.self.inside.entries.items) _ _ c.min-count.result c.self.invariant.0.situated c.drop_unneeded.ensures.stands in
    let same : after ≡ rolled_by c.min-count.result before = rw (c.drop_unneeded.ensures.config, all, told) refl in
    subst (λ (h : History). IsRolled h c.args.last (Ok c.in-Ok.handed.items) after) c.self.view_is
    (rolled_well before after c.args.last c.min-count.result c.in-Ok.handed.items c.self.inside.entries.items fresh counted held c.in-Ok.ensures.handed same)

pub returns-in-Ok-clause-legal_after : goal.returns-in-Ok-clause-legal_after
returns-in-Ok-clause-legal_after c =
    let fresh = ap (λ (h : History). is_worn_out (past_of h)) c.self.view_is ∙ sym (sym c.if-is_worn_out.false ∙ c.is_worn_out.ensures) in
    let few : c.min-count.result ≤ length c.self.inside.entries.items = omega (arith, c.min-count.ensures, c.len.ensures, c.self.inside.entries.ok.0) in
    let stay = lines_stay c.self.inside.handed.items c.in-Ok.handed c.self.inside.entries.items c.split.new.entries.items c.min-count.result c.in-Ok.ensures.handed c.in-Ok.ensures.stays in
    let all = ap (λ ps. all_lines ps c.split.new.entries.items) c.and-self-inside.ensures ∙ stay in
    (rolled_there c.self.inside.start c.self.inside.service c.drop_unneeded.new.self _ _ _ c.self.inside.rolled c.min-count.result c.self.invariant.0 fresh (omega (arith, few, all_count c.self.inside.handed.items c.self.inside.entries.items c.self.inside.rolled c.self.invariant.1)) c.drop_unneeded.ensures.stands c.drop_unneeded.ensures.refused c.drop_unneeded.ensures.config all).legal

pub returns-in-Ok-clause-sound_after : goal.returns-in-Ok-clause-sound_after
returns-in-Ok-clause-sound_after c =
    let fresh = ap (λ (h : History). is_worn_out (past_of h)) c.self.view_is ∙ sym (sym c.if-is_worn_out.false ∙ c.is_worn_out.ensures) in
    let few : c.min-count.result ≤ length c.self.inside.entries.items = omega (arith, c.min-count.ensures, c.len.ensures, c.self.inside.entries.ok.0) in
    let stay = lines_stay c.self.inside.handed.items c.in-Ok.handed c.self.inside.entries.items c.split.new.entries.items c.min-count.result c.in-Ok.ensures.handed c.in-Ok.ensures.stays in
    let all = ap (λ ps. all_lines ps c.split.new.entries.items) c.and-self-inside.ensures ∙ stay in
    (rolled_there c.self.inside.start c.self.inside.service c.drop_unneeded.new.self _ _ _ c.self.inside.rolled c.min-count.result c.self.invariant.0 fresh (omega (arith, few, all_count c.self.inside.handed.items c.self.inside.entries.items c.self.inside.rolled c.self.invariant.1)) c.drop_unneeded.ensures.stands c.drop_unneeded.ensures.refused c.drop_unneeded.ensures.config all).sound

pub returns-in-Err-clause-rolled : goal.returns-in-Err-clause-rolled
returns-in-Err-clause-rolled c =
    let counted = counts c.self.inside.start.line c.self.inside.rolled (length c.self.inside.entries.items) (length (all_lines c.self.inside.handed.items c.self.inside.entries.items)) c.args.last c.saturating_sub-passed.result c.min-count.result
    (line_least _ _ _ _ _ c.self.invariant.0) (all_count c.self.inside.handed.items c.self.inside.entries.items c.self.inside.rolled c.self.invariant.1) c.saturating_sub-passed.ensures (c.min-count.ensures ∙ ap (min c.saturating_sub-passed.result) (c.len.ensures ∙ c.self.inside.entries.ok.0)) in
    let before : History = journal (opening_of c.self.inside.service.config c.self.inside.start) (all_lines c.self.inside.handed.items c.self.inside.entries.items) (rolled_of c.self.inside.rolled c.self.inside.service c.self.inside.start) in
    let fresh = ap (λ (h : History). is_worn_out (past_of h)) c.self.view_is ∙ sym (sym c.if-is_worn_out.false ∙ c.is_worn_out.ensures) in
    let held : held_lines before ≡ c.self.inside.entries.items = sym (all_held c.self.inside.handed.items c.self.inside.entries.items c.self.inside.rolled c.self.invariant.1) in
    let after : History = journal (opening_of c.self.inside.service.config c.self.inside.start) (all_lines c.self.inside.handed.items c.split.new.entries.items) (rolled_of c.self.inside.rolled c.self.inside.service c.self.inside.start) in
    let kept = ap (λ es. es.items) c.in-Err.ensures.err in
    let same : after ≡ before = ap (λ (ls : List EntryData). journal (opening_of c.self.inside.service.config c.self.inside.start) (all_lines c.self.inside.handed.items ls) (rolled_of c.self.inside.rolled c.self.inside.service c.self.inside.start)) kept in
    subst (λ (h : History). IsRolled h c.args.last (Err refusal.ServiceOutOfMemory) after) c.self.view_is
    (no_room_there before after c.args.last c.min-count.result c.self.inside.entries.items fresh counted held c.in-Err.ensures.some same)

pub returns-then-is_worn_out-clause-rolled : goal.returns-then-is_worn_out-clause-rolled
returns-then-is_worn_out-clause-rolled c = search rules
