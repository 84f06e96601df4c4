use Rattle.std.proofs.Common.{String, Global, ◌≡◌, ◌∙◌, ◌++◌, [], ◌∷◌, length, map, replicate, ap, refl}
use Rattle.std.specs.Prelude.{string_bytes}
use Rattle.std.specs.Vec.Iter.{into_iter_items}
use Rattle.service_profile.specs.declared.configuration.Config.{Config}
use Rattle.verifier.specs.declared.verified.Verified.{Verified}
use Rattle.slot_desk.specs.Dealing.{name_of, first_from}
use Rattle.slot_desk.specs.Slots.{origin_of, dealt_of, back_of, known_of}
use Rattle.slot_desk.proofs.Opening.{more_names, more_alike, handed_on}
use Rattle.slot_desk.proofs.desks.opened.Goals as goal

pub loop-name-preserved : goal.loop-name-preserved
loop-name-preserved c =
    let i = c.loop-name.invariant.2 in
    let done = i.0 in
    let later = into_iter_items c.next.new.self in
    let part : String Global × Config × Verified = (c.in-Some.name, c.in-Some.config, c.in-Some.program) in
    let whole : c.args.services.items ≡ done ++ (part ∷ later) = i.1 ∙ ap (λ rest. done ++ rest) c.in-Some.ensures.steps.0 in
    let names : map string_bytes c.push-in-loop-name.new.self.items ≡ map name_of (done ++ part ∷ []) = rw c.in_ok-push-2.ensures.items (more_names string_bytes name_of c.loop-name.names.items done c.in-Some.name part i.2 refl) in
    let origins : map origin_of c.push.new.self.items ≡ map (first_from c.args.first_ticket) (done ++ part ∷ []) = rw c.in_ok-push.ensures.items (more_names origin_of (first_from c.args.first_ticket) c.loop-name.slots.items done c.in_ok-open_from.field-0 part i.3 c.in_ok-open_from.ensures.opened) in
    let dealt : map dealt_of c.push.new.self.items ≡ replicate (length (done ++ part ∷ [])) 0 = rw c.in_ok-push.ensures.items (more_alike dealt_of 0 c.loop-name.slots.items done c.in_ok-open_from.field-0 part i.4 c.in_ok-open_from.ensures.none_dealt.0) in
    let back : map back_of c.push.new.self.items ≡ replicate (length (done ++ part ∷ [])) 0 = rw c.in_ok-push.ensures.items (more_alike back_of 0 c.loop-name.slots.items done c.in_ok-open_from.field-0 part i.5 c.in_ok-open_from.ensures.none_dealt.1) in
    let known : map known_of c.push.new.self.items ≡ replicate (length (done ++ part ∷ [])) [] = rw c.in_ok-push.ensures.items (more_alike known_of [] c.loop-name.slots.items done c.in_ok-open_from.field-0 part i.6 c.in_ok-open_from.ensures.none_dealt.2) in
    (tt, tt, (done ++ part ∷ [], whole ∙ handed_on done part later, names, origins, dealt, back, known))
