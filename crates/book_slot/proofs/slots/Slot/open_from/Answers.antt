use Rattle.std.proofs.Common.{rules, sym, subst, ap, ◌≡◌, ◌∷◌, [], List}
use Rattle.service_profile.specs.Events.{History}
use Rattle.atomic_table.specs.Table.{opening}
use Rattle.book_slot.specs.Rules.{Kept, dealer, origin_of}
use Rattle.book_slot.proofs.Keeps.{begins}
use Rattle.book_slot.proofs.slots.Slot.open_from.Goals as goal

pub new-requires-2 : goal.new-requires-2
new-requires-2 c =
    let first : History = c.in_ok-book.book in
    let e = c.in_ok-book.ensures in
    let items : c.push.new.self.items ≡ first ∷ [] = search rules in
    let key : c.and-origin.result.items ≡ first ∷ [] = search rules in
    subst (λ (k : List History). Kept (origin_of k) (opening (1 ∷ []) c.push.new.self.items (dealer (origin_of k) 1 129 []))) (sym key)
    (subst (λ (l : List History). Kept (origin_of (first ∷ [])) (opening (1 ∷ []) l (dealer (origin_of (first ∷ [])) 1 129 []))) (sym items) (begins first (record { legal = e.legal; sound = e.sound }) (ap (λ (h : History). h.lines) e.opened)))
