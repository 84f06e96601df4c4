use Rattle.std.proofs.Common.{rules, ◌≡◌, ◌∙◌, ◌++◌, ◌∷◌, [], List, ap, sym, subst, map, reverse, append_assoc}
use Rattle.std.proofs.lemmas.List.{reverse-append}
use Rattle.service_profile.specs.Events.{History}
use Rattle.slot_desk.specs.Closing.{last_of}
use Rattle.slot_desk.specs.Gathering.{Finished}
use Rattle.slot_desk.proofs.closing.+finish_all.Goals as goal

-- the course of the book that is taken comes first
pub returns-in-Some : goal.returns-in-Some
returns-in-Some t c =
    let f = c.finish_all.ensures in
    let k = c.finish.ensures.known in
    let books : List History = c.args.books.now.items in
    let split : c.args.slots.items ≡ c.pop.new.self.items ++ c.in-Some.slot ∷ [] = search rules in
    let turned : reverse c.args.slots.items ≡ c.in-Some.slot ∷ reverse c.pop.new.self.items = ap reverse split ∙ reverse-append c.pop.new.self.items (c.in-Some.slot ∷ []) in
    let pushed : c.push_reserved.new.self.items ≡ books ++ c.finish.result ∷ [] = search rules in
    let items : c.finish_all.new.books.items ≡ books ++ map last_of (k.0 ∷ f.0) =
    f.1 ∙ (ap (λ l. l ++ map last_of f.0) pushed ∙ (append_assoc books (c.finish.result ∷ []) (map last_of f.0) ∙ ap (λ h. books ++ h ∷ map last_of f.0) (sym k.1))) in
    (k.0 ∷ f.0, items, subst (Finished (k.0 ∷ f.0)) (sym turned) (k.2, k.3, k.4, f.2))
