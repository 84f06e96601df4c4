use Rattle.std.proofs.Common.{◌+◌, ◌∷◌, [], ◌++◌, inl, inr, refl, sym, ◌∙◌, arith}
use Rattle.std.proofs.lemmas.List.{length-append}
use Rattle.service.proofs.Aging.{released_more}
use Rattle.service.proofs.upkeep.release_overdue.Goals as goal

pub loop-release-init : goal.loop-release-init
loop-release-init g c = (c.requires.fits, [], refl, refl)

pub call-shown-requires : goal.call-shown-requires
call-shown-requires g c = record { fits = c.loop-release.invariant.0 }

pub returns-in_default-clause-released : goal.returns-in_default-clause-released
returns-in_default-clause-released g c =
    let now = c.loop-release.invariant in
    (now.1, (c.loop-release.book, now.2, inr (omega (arith, now.3, c.loop-release-test.true), (c.call-shown.result, c.call-shown.ensures.called, sym c.overdue.ensures ∙ c.in_default.is))))

pub loop-release-preserved : goal.loop-release-preserved
loop-release-preserved g c =
    let now = c.loop-release.invariant in (
      c.call-reply.ensures.fits,
      now.1 ++ c.call-reply.result ∷ [],
      released_more (g.B.BookCalls.calls c.args.place.now) c.args.upkeep.max_ticket_age c.args.moment c.args.book.now c.loop-release.book c.call-reply.new.self now.1 c.call-reply.result now.2
          (c.call-shown.result, c.call-shown.new.self, c.in-Some.ticket, c.call-shown.ensures.called, sym c.overdue.ensures ∙ c.in-Some.is, c.call-reply.ensures.called),
      omega (arith, now.3, length-append now.1 (c.call-reply.result ∷ [])),
    )

pub returns-clause-released : goal.returns-clause-released
returns-clause-released g c =
    let now = c.loop-release.invariant in
    (now.1, (c.loop-release.book, now.2, inl (omega (arith, now.3, c.loop-release-test.false, c.loop-release.auto._release-end), refl)))

pub returns-clause-fits : goal.returns-clause-fits
returns-clause-fits g c = c.loop-release.invariant.0
