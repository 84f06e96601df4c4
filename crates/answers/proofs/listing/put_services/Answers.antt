use Rattle.std.proofs.Common.{◌<◌, ◌∙◌, ℕ, List, Bor, length, map, Some, ap, sym, arith}
use Rattle.std.proofs.lemmas.List.{length-map}
use Rattle.std.proofs.lemmas.Option.{slice_get-get_or, slice_get-map}
use Rattle.std.specs.Prelude.{option_map}
use Rattle.service.specs.Asked.{response_data}
use Rattle.answers.proofs.Listed.{services_then, services_end}
use Rattle.answers.proofs.listing.put_services.Goals as goal

pub loop-place-preserved : goal.loop-place-preserved
loop-place-preserved c =
    let text : Bor (List ℕ) → List ℕ = λ name. name.now in
    let names = c.args.names.now in
    let responses = c.args.responses.now in
    let place = c.loop-place.place in
    let within : place < length names = c.loop-place-test.true in
    let beyond : place < length responses = omega (arith, within, c.requires) in (
      omega (arith, within),
      services_then place (map text names) (map response_data responses) _ _ c.args.out.now c.loop-place.out c.put_service.new.out
          (slice_get-map text names place ∙ ap (option_map text) (slice_get-get_or names place _ within))
          (slice_get-map response_data responses place ∙ ap (option_map response_data) (slice_get-get_or responses place _ beyond ∙ ap (λ response. Some response) (sym c.index-responses-place.is)))
          c.loop-place.invariant.1 c.in_ok-put_service.ensures,
    )

pub returns : goal.returns
returns c =
    let text : Bor (List ℕ) → List ℕ = λ name. name.now in
    let names = c.args.names.now in
    let responses = c.args.responses.now in
    services_end c.end_array.result c.loop-place.place (map text names) (map response_data responses) c.args.out.now c.loop-place.out c.end_array.new.self
    (omega (arith, c.loop-place-test.false, length-map names text)) (omega (arith, c.loop-place-test.false, c.requires, length-map responses response_data))
    c.loop-place.invariant.1 c.end_array.ensures
