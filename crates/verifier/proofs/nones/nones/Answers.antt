use Rattle.std.proofs.Common.{◌≡◌, ℕ, ◌++◌, List, [], ◌∷◌, length, Option, None, ap, ◌∙◌, arith}
use Rattle.std.proofs.lemmas.List.{replicate_more, length-replicate}
use Rattle.std.specs.Prelude.{replicate}
use Rattle.verifier.proofs.Refused.{no_value}
use Rattle.verifier.proofs.nones.nones.Goals as goal

pub loop-place-preserved : goal.loop-place-preserved
loop-place-preserved g c = record {
  nones = c.push_reserved.ensures.items ∙ (ap (λ (items : List (Option g.row.T.Denot)). items ++ (None ∷ [])) c.loop-place.invariant.nones ∙ replicate_more c.loop-place._place None);
  room = (let kept = c.push_reserved.ensures.capacity in let room = c.loop-place.invariant.room in omega (arith, kept, room));
}

pub push_reserved-requires : goal.push_reserved-requires
push_reserved-requires g c =
    let long = c.loop-place.list.ok.0 in
    let filled = ap (λ (items : List (Option g.row.T.Denot)). length items) c.loop-place.invariant.nones ∙ length-replicate c.loop-place._place None in
    let room = c.loop-place.invariant.room in
    omega (arith, long, filled, room)

pub returns-in_err-list : goal.returns-in_err-list
returns-in_err-list g c = no_value c.from_residual.result _ _ c.from_residual.ensures.1

pub returns : goal.returns
returns g c =
    let all : c.loop-place._place ≡ c.args.count = omega arith in
    c.loop-place.invariant.nones ∙ ap (λ (n : ℕ). replicate {A = Option g.row.T.Denot} n None) all
