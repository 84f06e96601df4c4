use Rattle.std.proofs.Common.{◌≡◌, ◌+◌, ◌∙◌, ℕ, List, [], ◌∷◌, ◌++◌, length, map, sum, ap, rules, arith, sym, subst}
use Rattle.std.proofs.lemmas.List.{map-append}
use Rattle.std.specs.List.{AllByRecursion}
use Rattle.service_profile.specs.Events.{History}
use Rattle.book.specs.Good.{IsGood}
use Rattle.desk.specs.Kept.{IsKept, AreOfSome, last_number}
use Rattle.desk.proofs.Descent.{one_more_of, sum_more, good_more}
use Rattle.desk.proofs.closing.merge_services.Goals as goal

pub loop-service-preserved : goal.loop-service-preserved
loop-service-preserved g c =
    let before = c.loop-service.invariant in
    let history : History = c.into_inner.result in
    let kept : IsKept g.M.Offered.services history c.into_parts-book.result.1.parts c.into_parts-book.result.1.amount c.into_parts-book.result.2.parts c.into_parts-book.result.2.amount = c.into_parts-book.ensures.kept in
    let items : c.push_reserved.new.self.items ≡ c.loop-service.books.items ++ history ∷ [] = c.push_reserved.ensures.items ∙ ap (λ (h : History). c.loop-service.books.items ++ h ∷ []) c.into_parts-book.ensures.book in
    let fewer : length c.loop-service.services.items ≡ length c.pop.new.self.items + 1 = search rules in
    let numbers : List ℕ = before.cuts.0 in
    let number : ℕ = kept.of_service.0 in
    let lasts : sum (map last_number c.push_reserved.new.self.items) ≡ sum (map last_number c.loop-service.books.items) + last_number history =
    ap (λ hs. sum (map last_number hs)) items ∙ (ap sum (map-append last_number c.loop-service.books.items (history ∷ [])) ∙ sum_more (map last_number c.loop-service.books.items) (last_number history)) in
    let all : sum (numbers ++ number ∷ []) ≡ sum numbers + number = sum_more numbers number in
    let of_ : AreOfSome g.M.Offered.services (numbers ++ number ∷ []) c.push_reserved.new.self.items =
    subst (λ hs. AreOfSome g.M.Offered.services (numbers ++ number ∷ []) hs) (sym items) (one_more_of g.M.Offered.services numbers c.loop-service.books.items number history before.cuts.1 kept.of_service.1) in
    record {
      entry_parts = omega (arith, before.entry_parts, fewer, c.merge.ensures.parts, kept.one_part.0);
      entries = omega (arith, before.entries, fewer, c.merge.ensures.amount, kept.counted, lasts);
      cut_parts = omega (arith, before.cut_parts, fewer, c.merge-in-Some.ensures.parts, kept.one_part.1);
      cuts = (numbers ++ number ∷ [], of_, omega (arith, before.cuts.2, fewer, c.merge-in-Some.ensures.amount, kept.of_service.2, all));
      count = search rules;
      room = search rules;
      good = subst (λ hs. AllByRecursion IsGood hs) (sym items) (good_more c.loop-service.books.items history before.good kept.good);
    }
