use Rattle.std.proofs.Common.{◌≡◌, ◌<◌, ◌∙◌, ◌++◌, ◌∷◌, ◌+◌, [], length, map, ap, refl, sym, subst, arith}
use Rattle.std.proofs.lemmas.List.{map-append, length-map}
use Rattle.service.specs.Asked.{read, response_data}
use Rattle.http_front.specs.Answered.{AreRead}
use Rattle.http_front.proofs.Services.{read_more}
use Rattle.http_front.proofs.listing.read_services.Goals as goal

pub loop-responses-init : goal.loop-responses-init
loop-responses-init g c =
    let first = c.args.answerer.now in
    let none : c.args.responses.now.items ≡ [] = c.requires.none in
    record {
      read = subst (λ held. AreRead g.A.Answerer.answers first 0 c.args.moment (map response_data held) first) (sym none) refl;
      names = refl;
      within = (let empty : length c.args.responses.now.items ≡ 0 = ap length none in omega (arith, empty));
      room = c.requires.room;
    }

pub ask-response-requires : goal.ask-response-requires
ask-response-requires g c =
    let within : c.len-place.result < c.count.result = omega (arith, c.loop-responses-test.true, c.len.ensures, c.len-place.ensures) in
    record { held = c.count.ensures.held c.len-place.result within }

pub push_reserved-requires : goal.push_reserved-requires
push_reserved-requires g c =
    let names = ap length c.loop-responses.invariant.names in
    omega (arith, c.loop-responses-test.true, c.len.ensures, c.count.ensures.count, names, c.loop-responses.invariant.room)

pub loop-responses-preserved : goal.loop-responses-preserved
loop-responses-preserved g c =
    let before = c.loop-responses.invariant in
    let answers = g.A.Answerer.answers in
    let first = c.args.answerer.now in
    let held = c.loop-responses.responses.items in
    let given = c.ask-response.result in
    let after = c.ask-response.new.self in
    let moment = c.args.moment in
    let names = ap length before.names in
    let items : c.push_reserved.new.self.items ≡ held ++ given ∷ [] = c.push_reserved.ensures.items in
    let place : c.len-place.result ≡ 0 + length (map response_data held) = omega (arith, c.len-place.ensures, c.loop-responses.responses.ok.0, length-map held response_data) in
    let told : map response_data c.push_reserved.new.self.items ≡ map response_data held ++ response_data given ∷ [] = ap (map response_data) items ∙ map-append response_data held (given ∷ []) in
    let asked = subst (λ p. answers c.loop-responses.answerer p moment read (response_data given) after) place c.ask-response.ensures.answered in
    let more = read_more answers moment first 0 (map response_data held) c.loop-responses.answerer (response_data given) after before.read asked in
    record {
      read = subst (λ all. AreRead answers first 0 moment all after) (sym told) more;
      names = c.ask-response.ensures.names ∙ before.names;
      within = omega (arith, c.push_reserved.ensures.len, c.push_reserved.new.self.ok.0, c.loop-responses.responses.ok.0, c.loop-responses-test.true, c.len.ensures, c.count.ensures.count, names);
      room = omega (arith, c.push_reserved.ensures.capacity, before.room);
    }

pub loop-responses-smaller : goal.loop-responses-smaller
loop-responses-smaller g c =
    let names = ap length c.loop-responses.invariant.names in
    omega (arith, c.push_reserved.ensures.len, c.push_reserved.new.self.ok.0, c.loop-responses.responses.ok.0, c.loop-responses-test.true, c.len.ensures, c.count.ensures.count, names)

pub returns-clause-all : goal.returns-clause-all
returns-clause-all g c =
    let names = ap length c.loop-responses.invariant.names in
    omega (arith, c.loop-responses.invariant.within, c.loop-responses-test.false, c.len.ensures, c.loop-responses.responses.ok.0, c.count.ensures.count, names)
