use Rattle.std.proofs.Common.{rules, ap, subst, ◌≡◌}
use lib.ListN.{get_elem?}
use Rattle.book_slot.specs.Origins.{IsOf}
use Rattle.book_slot.specs.Courses.{IsCourseOf, EachBegins, IsMadeBy}
use Rattle.book_slot.specs.Places.{SlotData}
use Rattle.book_slot.proofs.Views.{same_at}
use Rattle.book_slot.proofs.Keeps.{closes, last_good}
use Rattle.book_slot.proofs.slots.Slot.finish.Goals as goal

pub returns-clause-good : goal.returns-clause-good
returns-clause-good c =
    let f = c.close_with-closed.ensures.values.2 in
    let d = c.self.inside.dealer.me.0 in
    let k = c.self.invariant.3 in
    let full : d.parts ≡ 129 = search rules in
    let done = closes f.0 _ d f.1.0 f.1.1 k.1 k.2 k.3 full in
    let there = f.4 0 done.0.last (ap (λ l. get_elem? l 0) done.2) in
    let same : done.0.last ≡ c.take-book.result = same_at _ 0 _ _ there c.take-book.ensures.value in
    subst (λ h. IsOf c.args.self.origin h) same (subst (λ (s : SlotData). IsOf s.origin done.0.last) c.self.view_is (last_good _ done.0 done.1))

pub returns-clause-known : goal.returns-clause-known
returns-clause-known c =
    let f = c.close_with-closed.ensures.values.2 in
    let d = c.self.inside.dealer.me.0 in
    let k = c.self.invariant.3 in
    let full : d.parts ≡ 129 = search rules in
    let done = closes f.0 _ d f.1.0 f.1.1 k.1 k.2 k.3 full in
    let there = f.4 0 done.0.last (ap (λ l. get_elem? l 0) done.2) in
    let same : done.0.last ≡ c.take-book.result = same_at _ 0 _ _ there c.take-book.ensures.value in
    (done.0, same, subst (λ (s : SlotData). IsCourseOf s.origin done.0) c.self.view_is done.1, subst (λ (s : SlotData). EachBegins done.0 s.known) c.self.view_is done.3, subst (λ (s : SlotData). IsMadeBy s.origin done.0 s.known) c.self.view_is done.4)
