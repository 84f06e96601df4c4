use Rattle.std.proofs.Common.{List, ◌≡◌, ℕ, ◌+◌, [], ◌∷◌, ◌++◌, length, arith, refl, ap, sym, ◌∙◌, subst}
use Rattle.service_profile.specs.declared.configuration.ConfigParts.{ConfigParts}
use Rattle.refusals.specs.declared.RefusalNumber.TheVariants as refusal
use Rattle.service_profile.specs.declared.replies.Reply.TheVariants as reply
use Rattle.service_profile.specs.Answers.{IsApplied}
use Rattle.service_profile.specs.Events.{EntryData, Rolled, line, History}
use Rattle.service_profile.specs.Histories.{past_of, situation_of}
use Rattle.service_profile.specs.Machine.{Situation, decision}
use Rattle.book.specs.Books.{rolled_of, opening_of, journal, all_lines}
use Rattle.book.specs.Effects.{planned}
use Rattle.book.specs.Accepted.{seen}
use Rattle.book.specs.Situations.{StandsFor}
use Rattle.book.proofs.Applying.{decided_so, unentered_there, lacking_there, situated, notes_there, can_follow, plan_installs, line_fits, refused_fits, held_fits, taken_there, kept_there, rolled_is, book_told, where_ok, where_err, word_there, applied_there}
use Rattle.book.proofs.Journals.{all_count, held_is, all_with}
use Rattle.book.proofs.books.Book.apply.Goals as goal

pub decide-plan-requires-clause-situation : goal.decide-plan-requires-clause-situation
decide-plan-requires-clause-situation c = situated _ _ _ _ _ c.self.invariant.0

pub decide-plan-requires-clause-held : goal.decide-plan-requires-clause-held
decide-plan-requires-clause-held c = omega (arith, held_fits _ _ _ _ _ c.self.invariant.0, held_is c.self.inside.handed.items c.self.inside.entries.items c.self.inside.rolled c.self.invariant.1, c.len.ensures, c.self.inside.entries.ok.0)

pub follow-requires-clause-situation : goal.follow-requires-clause-situation
follow-requires-clause-situation c =
    let s : Situation = situation_of (past_of (journal (opening_of c.self.inside.service.config c.self.inside.start) (all_lines c.self.inside.handed.items c.self.inside.entries.items) (rolled_of c.self.inside.rolled c.self.inside.service c.self.inside.start))) in
    let planned_ = c.decide-plan.ensures s (subst (λ (n : ℕ). StandsFor c.self.inside.service n s) (sym (c.len.ensures ∙ c.self.inside.entries.ok.0 ∙ sym (held_is c.self.inside.handed.items c.self.inside.entries.items c.self.inside.rolled c.self.invariant.1))) c.self.invariant.0.situated) (notes_there _ _ _ c.args.moment c.max-moment.result _ _ c.self.invariant.0 c.max-moment.ensures)
    ∙ ap (λ (parts : ConfigParts). planned parts c.max-moment.result (seen c.args.event) (decision s c.max-moment.result (seen c.args.event))) c.self.invariant.0.situated.configured in
    can_follow _ _ _ _ _ c.args.moment c.max-moment.result (seen c.args.event) c.decide-plan.result c.self.invariant.0 c.max-moment.ensures planned_

pub follow-requires-clause-installs : goal.follow-requires-clause-installs
follow-requires-clause-installs c =
    let s : Situation = situation_of (past_of (journal (opening_of c.self.inside.service.config c.self.inside.start) (all_lines c.self.inside.handed.items c.self.inside.entries.items) (rolled_of c.self.inside.rolled c.self.inside.service c.self.inside.start))) in
    let planned_ = c.decide-plan.ensures s (subst (λ (n : ℕ). StandsFor c.self.inside.service n s) (sym (c.len.ensures ∙ c.self.inside.entries.ok.0 ∙ sym (held_is c.self.inside.handed.items c.self.inside.entries.items c.self.inside.rolled c.self.invariant.1))) c.self.invariant.0.situated) (notes_there _ _ _ c.args.moment c.max-moment.result _ _ c.self.invariant.0 c.max-moment.ensures)
    ∙ ap (λ (parts : ConfigParts). planned parts c.max-moment.result (seen c.args.event) (decision s c.max-moment.result (seen c.args.event))) c.self.invariant.0.situated.configured in
    plan_installs _ _ _ _ _ c.max-moment.result (seen c.args.event) c.decide-plan.result c.self.invariant.0 planned_

pub follow-requires-clause-refused : goal.follow-requires-clause-refused
follow-requires-clause-refused c = refused_fits _ _ _ _ _ c.self.invariant.0

pub overflow_add-number : goal.overflow_add-number
overflow_add-number c = omega (arith, line_fits _ _ _ _ _ c.self.invariant.0, all_count c.self.inside.handed.items c.self.inside.entries.items c.self.inside.rolled c.self.invariant.1)

pub overflow_add-number-2 : goal.overflow_add-number-2
overflow_add-number-2 c = omega (arith, line_fits _ _ _ _ _ c.self.invariant.0, all_count c.self.inside.handed.items c.self.inside.entries.items c.self.inside.rolled c.self.invariant.1, c.len-2.ensures, c.follow.new.entries.ok.0, ap length c.follow.ensures.entries)

-- ---- without memory

pub invariant_of-self : goal.invariant_of-self
invariant_of-self c =
    let lacks = sym c.if-is_err.ensures.value in
    (book_told _ c.self.inside.start c.follow.new.service _ _ _ (kept_there c.self.inside.start _ c.follow.new.service _ _ _ _ c.self.invariant.0 (where_err c.follow.result lacks c.follow.ensures.unchanged) (where_err c.follow.result lacks c.follow.ensures.refused_unchanged) c.follow.ensures.config (ap (all_lines c.self.inside.handed.items) c.follow.ensures.entries)), c.self.invariant.1)

-- ---- with a line more

pub invariant_of-self-2 : goal.invariant_of-self-2
invariant_of-self-2 c =
    let s : Situation = situation_of (past_of (journal (opening_of c.self.inside.service.config c.self.inside.start) (all_lines c.self.inside.handed.items c.self.inside.entries.items) (rolled_of c.self.inside.rolled c.self.inside.service c.self.inside.start))) in
    let planned_ = c.decide-plan.ensures s (subst (λ (n : ℕ). StandsFor c.self.inside.service n s) (sym (c.len.ensures ∙ c.self.inside.entries.ok.0 ∙ sym (held_is c.self.inside.handed.items c.self.inside.entries.items c.self.inside.rolled c.self.invariant.1))) c.self.invariant.0.situated) (notes_there _ _ _ c.args.moment c.max-moment.result _ _ c.self.invariant.0 c.max-moment.ensures)
    ∙ ap (λ (parts : ConfigParts). planned parts c.max-moment.result (seen c.args.event) (decision s c.max-moment.result (seen c.args.event))) c.self.invariant.0.situated.configured in
    let numbered : c.self.inside.start.line + c.self.inside.rolled + c.len-2.result ≡ c.self.inside.start.line + length (all_lines c.self.inside.handed.items c.self.inside.entries.items) = omega (arith, c.len-2.ensures, c.follow.new.entries.ok.0, ap length c.follow.ensures.entries, all_count c.self.inside.handed.items c.self.inside.entries.items c.self.inside.rolled c.self.invariant.1) in
    let grown : c.push_reserved.new.self.items ≡ c.self.inside.entries.items ++ line (c.self.inside.start.line + c.self.inside.rolled + c.len-2.result) c.args.seat (seen c.args.event) c.max-moment.result c.decide-plan.result.decision.reply ∷ [] =
    rw (c.push_reserved.ensures.items, c.follow.ensures.entries, c.new-entry.ensures) refl in
    let items : all_lines c.self.inside.handed.items c.push_reserved.new.self.items ≡ all_lines c.self.inside.handed.items c.self.inside.entries.items ++ line (c.self.inside.start.line + c.self.inside.rolled + c.len-2.result) c.args.seat (seen c.args.event) c.max-moment.result c.decide-plan.result.decision.reply ∷ [] = ap (all_lines c.self.inside.handed.items) grown ∙ all_with c.self.inside.handed.items c.self.inside.entries.items _ in
    let word = word_there _ _ _ _ _ c.args.moment c.max-moment.result c.self.invariant.0 c.ranges.moment.fits c.max-moment.ensures in
    let fits = sym c.if-is_err.ensures.value in (
      book_told _ c.self.inside.start c.follow.new.service _ _ _ (taken_there c.self.inside.start _ c.follow.new.service _ _ _ _ _ c.args.seat c.args.moment c.max-moment.result c.args.event c.decide-plan.result c.self.invariant.0 numbered c.max-moment.ensures planned_
          (sym c.if-not-is_entered.ensures) word c.ranges.seat.fits c.know_event.ensures (where_ok c.follow.result fits c.follow.ensures.stands) (where_ok c.follow.result fits c.follow.ensures.refused) c.follow.ensures.config items),
      c.self.invariant.1,
    )

pub returns-clause-legal_after : goal.returns-clause-legal_after
returns-clause-legal_after c =
    let s : Situation = situation_of (past_of (journal (opening_of c.self.inside.service.config c.self.inside.start) (all_lines c.self.inside.handed.items c.self.inside.entries.items) (rolled_of c.self.inside.rolled c.self.inside.service c.self.inside.start))) in
    let planned_ = c.decide-plan.ensures s (subst (λ (n : ℕ). StandsFor c.self.inside.service n s) (sym (c.len.ensures ∙ c.self.inside.entries.ok.0 ∙ sym (held_is c.self.inside.handed.items c.self.inside.entries.items c.self.inside.rolled c.self.invariant.1))) c.self.invariant.0.situated) (notes_there _ _ _ c.args.moment c.max-moment.result _ _ c.self.invariant.0 c.max-moment.ensures)
    ∙ ap (λ (parts : ConfigParts). planned parts c.max-moment.result (seen c.args.event) (decision s c.max-moment.result (seen c.args.event))) c.self.invariant.0.situated.configured in
    let numbered : c.self.inside.start.line + c.self.inside.rolled + c.len-2.result ≡ c.self.inside.start.line + length (all_lines c.self.inside.handed.items c.self.inside.entries.items) = omega (arith, c.len-2.ensures, c.follow.new.entries.ok.0, ap length c.follow.ensures.entries, all_count c.self.inside.handed.items c.self.inside.entries.items c.self.inside.rolled c.self.invariant.1) in
    let grown : c.push_reserved.new.self.items ≡ c.self.inside.entries.items ++ line (c.self.inside.start.line + c.self.inside.rolled + c.len-2.result) c.args.seat (seen c.args.event) c.max-moment.result c.decide-plan.result.decision.reply ∷ [] =
    rw (c.push_reserved.ensures.items, c.follow.ensures.entries, c.new-entry.ensures) refl in
    let items : all_lines c.self.inside.handed.items c.push_reserved.new.self.items ≡ all_lines c.self.inside.handed.items c.self.inside.entries.items ++ line (c.self.inside.start.line + c.self.inside.rolled + c.len-2.result) c.args.seat (seen c.args.event) c.max-moment.result c.decide-plan.result.decision.reply ∷ [] = ap (all_lines c.self.inside.handed.items) grown ∙ all_with c.self.inside.handed.items c.self.inside.entries.items _ in
    let word = word_there _ _ _ _ _ c.args.moment c.max-moment.result c.self.invariant.0 c.ranges.moment.fits c.max-moment.ensures in
    let fits = sym c.if-is_err.ensures.value in
    (book_told _ c.self.inside.start c.follow.new.service _ _ _ (taken_there c.self.inside.start _ c.follow.new.service _ _ _ _ _ c.args.seat c.args.moment c.max-moment.result c.args.event c.decide-plan.result c.self.invariant.0 numbered c.max-moment.ensures planned_
    (sym c.if-not-is_entered.ensures) word c.ranges.seat.fits c.know_event.ensures (where_ok c.follow.result fits c.follow.ensures.stands) (where_ok c.follow.result fits c.follow.ensures.refused) c.follow.ensures.config items)).legal

pub returns-clause-sound_after : goal.returns-clause-sound_after
returns-clause-sound_after c =
    let s : Situation = situation_of (past_of (journal (opening_of c.self.inside.service.config c.self.inside.start) (all_lines c.self.inside.handed.items c.self.inside.entries.items) (rolled_of c.self.inside.rolled c.self.inside.service c.self.inside.start))) in
    let planned_ = c.decide-plan.ensures s (subst (λ (n : ℕ). StandsFor c.self.inside.service n s) (sym (c.len.ensures ∙ c.self.inside.entries.ok.0 ∙ sym (held_is c.self.inside.handed.items c.self.inside.entries.items c.self.inside.rolled c.self.invariant.1))) c.self.invariant.0.situated) (notes_there _ _ _ c.args.moment c.max-moment.result _ _ c.self.invariant.0 c.max-moment.ensures)
    ∙ ap (λ (parts : ConfigParts). planned parts c.max-moment.result (seen c.args.event) (decision s c.max-moment.result (seen c.args.event))) c.self.invariant.0.situated.configured in
    let numbered : c.self.inside.start.line + c.self.inside.rolled + c.len-2.result ≡ c.self.inside.start.line + length (all_lines c.self.inside.handed.items c.self.inside.entries.items) = omega (arith, c.len-2.ensures, c.follow.new.entries.ok.0, ap length c.follow.ensures.entries, all_count c.self.inside.handed.items c.self.inside.entries.items c.self.inside.rolled c.self.invariant.1) in
    let grown : c.push_reserved.new.self.items ≡ c.self.inside.entries.items ++ line (c.self.inside.start.line + c.self.inside.rolled + c.len-2.result) c.args.seat (seen c.args.event) c.max-moment.result c.decide-plan.result.decision.reply ∷ [] =
    rw (c.push_reserved.ensures.items, c.follow.ensures.entries, c.new-entry.ensures) refl in
    let items : all_lines c.self.inside.handed.items c.push_reserved.new.self.items ≡ all_lines c.self.inside.handed.items c.self.inside.entries.items ++ line (c.self.inside.start.line + c.self.inside.rolled + c.len-2.result) c.args.seat (seen c.args.event) c.max-moment.result c.decide-plan.result.decision.reply ∷ [] = ap (all_lines c.self.inside.handed.items) grown ∙ all_with c.self.inside.handed.items c.self.inside.entries.items _ in
    let word = word_there _ _ _ _ _ c.args.moment c.max-moment.result c.self.invariant.0 c.ranges.moment.fits c.max-moment.ensures in
    let fits = sym c.if-is_err.ensures.value in
    (book_told _ c.self.inside.start c.follow.new.service _ _ _ (taken_there c.self.inside.start _ c.follow.new.service _ _ _ _ _ c.args.seat c.args.moment c.max-moment.result c.args.event c.decide-plan.result c.self.invariant.0 numbered c.max-moment.ensures planned_
    (sym c.if-not-is_entered.ensures) word c.ranges.seat.fits c.know_event.ensures (where_ok c.follow.result fits c.follow.ensures.stands) (where_ok c.follow.result fits c.follow.ensures.refused) c.follow.ensures.config items)).sound

pub returns-clause-applied : goal.returns-clause-applied
returns-clause-applied c =
    let s : Situation = situation_of (past_of (journal (opening_of c.self.inside.service.config c.self.inside.start) (all_lines c.self.inside.handed.items c.self.inside.entries.items) (rolled_of c.self.inside.rolled c.self.inside.service c.self.inside.start))) in
    let planned_ = c.decide-plan.ensures s (subst (λ (n : ℕ). StandsFor c.self.inside.service n s) (sym (c.len.ensures ∙ c.self.inside.entries.ok.0 ∙ sym (held_is c.self.inside.handed.items c.self.inside.entries.items c.self.inside.rolled c.self.invariant.1))) c.self.invariant.0.situated) (notes_there _ _ _ c.args.moment c.max-moment.result _ _ c.self.invariant.0 c.max-moment.ensures)
    ∙ ap (λ (parts : ConfigParts). planned parts c.max-moment.result (seen c.args.event) (decision s c.max-moment.result (seen c.args.event))) c.self.invariant.0.situated.configured in
    let numbered : c.self.inside.start.line + c.self.inside.rolled + c.len-2.result ≡ c.self.inside.start.line + length (all_lines c.self.inside.handed.items c.self.inside.entries.items) = omega (arith, c.len-2.ensures, c.follow.new.entries.ok.0, ap length c.follow.ensures.entries, all_count c.self.inside.handed.items c.self.inside.entries.items c.self.inside.rolled c.self.invariant.1) in
    let grown : c.push_reserved.new.self.items ≡ c.self.inside.entries.items ++ line (c.self.inside.start.line + c.self.inside.rolled + c.len-2.result) c.args.seat (seen c.args.event) c.max-moment.result c.decide-plan.result.decision.reply ∷ [] =
    rw (c.push_reserved.ensures.items, c.follow.ensures.entries, c.new-entry.ensures) refl in
    let items : all_lines c.self.inside.handed.items c.push_reserved.new.self.items ≡ all_lines c.self.inside.handed.items c.self.inside.entries.items ++ line (c.self.inside.start.line + c.self.inside.rolled + c.len-2.result) c.args.seat (seen c.args.event) c.max-moment.result c.decide-plan.result.decision.reply ∷ [] = ap (all_lines c.self.inside.handed.items) grown ∙ all_with c.self.inside.handed.items c.self.inside.entries.items _ in
    let decided = decided_so c.self.inside.service.config c.max-moment.result (seen c.args.event) (decision s c.max-moment.result (seen c.args.event)) c.decide-plan.result planned_ in
    let there = applied_there _ c.self.inside.service _ _ _ _ c.args.seat c.args.moment c.max-moment.result c.args.event c.decide-plan.result.decision c.self.invariant.0 numbered c.max-moment.ensures decided (sym c.if-not-is_entered.ensures) in
    let word = word_there _ _ _ _ _ c.args.moment c.max-moment.result c.self.invariant.0 c.ranges.moment.fits c.max-moment.ensures in
    let fits = sym c.if-is_err.ensures.value in
    let taken_ = taken_there c.self.inside.start _ c.follow.new.service _ _ _ _ _ c.args.seat c.args.moment c.max-moment.result c.args.event c.decide-plan.result c.self.invariant.0 numbered c.max-moment.ensures planned_
    (sym c.if-not-is_entered.ensures) word c.ranges.seat.fits c.know_event.ensures (where_ok c.follow.result fits c.follow.ensures.stands) (where_ok c.follow.result fits c.follow.ensures.refused) c.follow.ensures.config items in
    let rolled_ = rolled_is _ c.self.inside.start c.follow.new.service _ _ _ taken_ in
    let after : journal (opening_of c.self.inside.service.config c.self.inside.start) (all_lines c.self.inside.handed.items c.self.inside.entries.items ++ line (c.self.inside.start.line + c.self.inside.rolled + c.len-2.result) c.args.seat (seen c.args.event) c.max-moment.result c.decide-plan.result.decision.reply ∷ []) (rolled_of c.self.inside.rolled c.self.inside.service c.self.inside.start)
    ≡ journal (opening_of c.follow.new.service.config c.self.inside.start) (all_lines c.self.inside.handed.items c.push_reserved.new.self.items) (rolled_of c.self.inside.rolled c.follow.new.service c.self.inside.start) =
    ap (λ (ls : List EntryData). journal (opening_of c.self.inside.service.config c.self.inside.start) ls (rolled_of c.self.inside.rolled c.self.inside.service c.self.inside.start)) (sym items)
    ∙ ap (λ (parts : ConfigParts). journal (opening_of parts c.self.inside.start) (all_lines c.self.inside.handed.items c.push_reserved.new.self.items) (rolled_of c.self.inside.rolled c.self.inside.service c.self.inside.start)) (sym c.follow.ensures.config)
    ∙ ap (λ (r : Rolled). journal (opening_of c.follow.new.service.config c.self.inside.start) (all_lines c.self.inside.handed.items c.push_reserved.new.self.items) r) rolled_ in
    subst (λ (h : History). IsApplied h c.args.seat c.args.moment (seen c.args.event) c.decide-plan.result.decision.reply (journal (opening_of c.follow.new.service.config c.self.inside.start) (all_lines c.self.inside.handed.items c.push_reserved.new.self.items) (rolled_of c.self.inside.rolled c.follow.new.service c.self.inside.start))) c.self.view_is
    (subst (λ (h : History). IsApplied (journal (opening_of c.self.inside.service.config c.self.inside.start) (all_lines c.self.inside.handed.items c.self.inside.entries.items) (rolled_of c.self.inside.rolled c.self.inside.service c.self.inside.start)) c.args.seat c.args.moment (seen c.args.event) c.decide-plan.result.decision.reply h) after there)

-- ---- where nothing is entered

pub returns-then-not-is_entered-clause-applied : goal.returns-then-not-is_entered-clause-applied
returns-then-not-is_entered-clause-applied c =
    let s : Situation = situation_of (past_of (journal (opening_of c.self.inside.service.config c.self.inside.start) (all_lines c.self.inside.handed.items c.self.inside.entries.items) (rolled_of c.self.inside.rolled c.self.inside.service c.self.inside.start))) in
    let planned_ = c.decide-plan.ensures s (subst (λ (n : ℕ). StandsFor c.self.inside.service n s) (sym (c.len.ensures ∙ c.self.inside.entries.ok.0 ∙ sym (held_is c.self.inside.handed.items c.self.inside.entries.items c.self.inside.rolled c.self.invariant.1))) c.self.invariant.0.situated) (notes_there _ _ _ c.args.moment c.max-moment.result _ _ c.self.invariant.0 c.max-moment.ensures)
    ∙ ap (λ (parts : ConfigParts). planned parts c.max-moment.result (seen c.args.event) (decision s c.max-moment.result (seen c.args.event))) c.self.invariant.0.situated.configured in
    let decided = decided_so c.self.inside.service.config c.max-moment.result (seen c.args.event) (decision s c.max-moment.result (seen c.args.event)) c.decide-plan.result planned_ in
    let there = unentered_there _ _ _ _ _ c.args.seat c.args.moment c.max-moment.result (seen c.args.event) c.decide-plan.result.decision c.self.invariant.0 c.max-moment.ensures decided (sym c.if-not-is_entered.ensures) in
    subst (λ (h : History). IsApplied h c.args.seat c.args.moment (seen c.args.event) c.decide-plan.result.decision.reply h) c.self.view_is there

pub returns-then-is_err-clause-applied : goal.returns-then-is_err-clause-applied
returns-then-is_err-clause-applied c =
    let s : Situation = situation_of (past_of (journal (opening_of c.self.inside.service.config c.self.inside.start) (all_lines c.self.inside.handed.items c.self.inside.entries.items) (rolled_of c.self.inside.rolled c.self.inside.service c.self.inside.start))) in
    let planned_ = c.decide-plan.ensures s (subst (λ (n : ℕ). StandsFor c.self.inside.service n s) (sym (c.len.ensures ∙ c.self.inside.entries.ok.0 ∙ sym (held_is c.self.inside.handed.items c.self.inside.entries.items c.self.inside.rolled c.self.invariant.1))) c.self.invariant.0.situated) (notes_there _ _ _ c.args.moment c.max-moment.result _ _ c.self.invariant.0 c.max-moment.ensures)
    ∙ ap (λ (parts : ConfigParts). planned parts c.max-moment.result (seen c.args.event) (decision s c.max-moment.result (seen c.args.event))) c.self.invariant.0.situated.configured in
    let decided = decided_so c.self.inside.service.config c.max-moment.result (seen c.args.event) (decision s c.max-moment.result (seen c.args.event)) c.decide-plan.result planned_ in
    let there = lacking_there _ _ _ _ _ c.args.seat c.args.moment c.max-moment.result (seen c.args.event) c.decide-plan.result.decision c.self.invariant.0 c.max-moment.ensures decided (sym c.if-not-is_entered.ensures) in
    let lacks = sym c.if-is_err.ensures.value in
    let rolled_ = rolled_is _ c.self.inside.start c.follow.new.service _ _ _ (kept_there c.self.inside.start _ c.follow.new.service _ _ _ _ c.self.invariant.0 (where_err c.follow.result lacks c.follow.ensures.unchanged) (where_err c.follow.result lacks c.follow.ensures.refused_unchanged) c.follow.ensures.config (ap (all_lines c.self.inside.handed.items) c.follow.ensures.entries)) in
    let after : journal (opening_of c.self.inside.service.config c.self.inside.start) (all_lines c.self.inside.handed.items c.self.inside.entries.items) (rolled_of c.self.inside.rolled c.self.inside.service c.self.inside.start) ≡ journal (opening_of c.follow.new.service.config c.self.inside.start) (all_lines c.self.inside.handed.items c.follow.new.entries.items) (rolled_of c.self.inside.rolled c.follow.new.service c.self.inside.start) =
    ap ((λ (ls : List EntryData). journal (opening_of c.self.inside.service.config c.self.inside.start) (all_lines c.self.inside.handed.items ls) (rolled_of c.self.inside.rolled c.self.inside.service c.self.inside.start))) (sym c.follow.ensures.entries) ∙ ap (λ (parts : ConfigParts). journal (opening_of parts c.self.inside.start) (all_lines c.self.inside.handed.items c.follow.new.entries.items) (rolled_of c.self.inside.rolled c.self.inside.service c.self.inside.start)) (sym c.follow.ensures.config)
    ∙ ap (λ (r : Rolled). journal (opening_of c.follow.new.service.config c.self.inside.start) (all_lines c.self.inside.handed.items c.follow.new.entries.items) r) rolled_ in
    subst (λ (h : History). IsApplied h c.args.seat c.args.moment (seen c.args.event) (reply.Refused refusal.ServiceOutOfMemory) (journal (opening_of c.follow.new.service.config c.self.inside.start) (all_lines c.self.inside.handed.items c.follow.new.entries.items) (rolled_of c.self.inside.rolled c.follow.new.service c.self.inside.start))) c.self.view_is
    (subst (λ (h : History). IsApplied (journal (opening_of c.self.inside.service.config c.self.inside.start) (all_lines c.self.inside.handed.items c.self.inside.entries.items) (rolled_of c.self.inside.rolled c.self.inside.service c.self.inside.start)) c.args.seat c.args.moment (seen c.args.event) (reply.Refused refusal.ServiceOutOfMemory) h) after there)

pub returns-then-is_err-clause-legal_after : goal.returns-then-is_err-clause-legal_after
returns-then-is_err-clause-legal_after c =
    let lacks = sym c.if-is_err.ensures.value in
    (book_told _ c.self.inside.start c.follow.new.service _ _ _ (kept_there c.self.inside.start _ c.follow.new.service _ _ _ _ c.self.invariant.0 (where_err c.follow.result lacks c.follow.ensures.unchanged) (where_err c.follow.result lacks c.follow.ensures.refused_unchanged) c.follow.ensures.config (ap (all_lines c.self.inside.handed.items) c.follow.ensures.entries))).legal

pub returns-then-is_err-clause-sound_after : goal.returns-then-is_err-clause-sound_after
returns-then-is_err-clause-sound_after c =
    let lacks = sym c.if-is_err.ensures.value in
    (book_told _ c.self.inside.start c.follow.new.service _ _ _ (kept_there c.self.inside.start _ c.follow.new.service _ _ _ _ c.self.invariant.0 (where_err c.follow.result lacks c.follow.ensures.unchanged) (where_err c.follow.result lacks c.follow.ensures.refused_unchanged) c.follow.ensures.config (ap (all_lines c.self.inside.handed.items) c.follow.ensures.entries))).sound
