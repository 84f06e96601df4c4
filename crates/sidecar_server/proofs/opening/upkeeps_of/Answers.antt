use Rattle.std.proofs.Common.{◌≡◌, ◌∙◌, ◌<◌, ◌+◌, ◌++◌, ◌∷◌, [], ap, refl, sym, arith, length, take, suc}
use Rattle.std.proofs.Math.Seq.{take-length}
use Rattle.sidecar_server.specs.Opened.{logged_by, upkeeps_from}
use Rattle.sidecar_server.proofs.Openings.{upkeeps_more}
use Rattle.sidecar_server.proofs.opening.upkeeps_of.Goals as goal

pub loop-place-init : goal.loop-place-init
loop-place-init c = (omega (arith), c.new-upkeeps.ensures.items)

pub loop-place-preserved : goal.loop-place-preserved
loop-place-preserved c =
    let within : c.loop-place.place < length c.args.settings.now.services.items = omega (arith, c.loop-place-test.true, c.len-place-end.ensures, c.args.settings.now.services.ok.0) in
    let next : c.loop-place.place + 1 ≡ suc c.loop-place.place = omega (arith) in
    let more = upkeeps_more c.args.settings.now.logging 0 c.loop-place.place c.loop-place.place c.args.settings.now.services.items c.index.result.now (omega (arith)) within c.index.ensures in (
      omega (arith, within),
      c.in_ok-push.ensures.items ∙ (ap (λ before. before ++ c.logged.result ∷ []) c.loop-place.invariant.1 ∙ (ap (λ upkeep. upkeeps_from c.args.settings.now.logging 0 (take c.loop-place.place c.args.settings.now.services.items) ++ upkeep ∷ []) c.logged.ensures ∙ (sym more ∙ ap (λ n. upkeeps_from c.args.settings.now.logging 0 (take n c.args.settings.now.services.items)) (sym next)))),
    )

pub returns : goal.returns
returns c =
    let all : c.loop-place.place ≡ length c.args.settings.now.services.items = omega (arith, c.loop-place-test.false, c.loop-place.invariant.0, c.len-place-end.ensures, c.args.settings.now.services.ok.0) in
    c.loop-place.invariant.1 ∙ ap (upkeeps_from c.args.settings.now.logging 0) (ap (λ n. take n c.args.settings.now.services.items) all ∙ take-length c.args.settings.now.services.items)
