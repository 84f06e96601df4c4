use Rattle.std.proofs.Common.{◌≡◌, ◌∙◌, ℕ, List, Bor, length, ap, sym}
use Rattle.std.proofs.lemmas.List.{length-map}
use Rattle.http_front.proofs.answering.write_list.Goals as goal

pub services_body-requires : goal.services_body-requires
services_body-requires g c =
    let text : Bor (List ℕ) → List ℕ = λ name. name.now in
    let same : c.deref.result.now ≡ c.in_ok-names.names.items = c.deref.ensures.value in
    c.requires ∙ (ap length (sym c.in_ok-names.ensures) ∙ (length-map c.in_ok-names.names.items text ∙ ap length (sym same)))
