use Rattle.std.proofs.Common.{◌≡◌, ℕ, ◌-◌, Some, ap, sym, subst, ◌∙◌}
use Rattle.breaker.specs.Calls.{after_note_in, followed, without_permission, fate_in, recorded_by}
use Rattle.breaker.specs.Situations.{HeldBreaker, StandsFor}
use Rattle.service_profile.specs.declared.notes.Note.{Note}
use Rattle.service_profile.specs.declared.replies.Fate.{Fate}
use Rattle.service_profile.specs.declared.replies.Fate.TheVariants as fate
use Rattle.service_profile.specs.declared.standings.Standing.{Standing}
use Rattle.breaker.proofs.machine.Breaker.record.Goals as goal

pub returns-in-Recorded-clause-stands : goal.returns-in-Recorded-clause-stands
returns-in-Recorded-clause-stands c = λ s stands after.
    let note : Note = record { moment = c.args.moment; failed = c.args.failed; slow = c.args.slow } in
    let next_is : c.after_note-next.result ≡ after_note_in note s = c.after_note-next.ensures.exact s stands after in
    let back : StandsFor c.return_permission.new.self (without_permission s) =
    rw c.return_permission.ensures (record { configured = stands.configured; standing = stands.standing; held = ap (λ (n : ℕ). n - 1) stands.held; notes = stands.notes }) in
    let went : StandsFor c.follow.new.self (followed c.after_note-next.result (Some note) (without_permission s)) = c.follow.ensures.stands (without_permission s) back after in
    let is : StandsFor c.follow.new.self (followed (after_note_in note s) (Some note) (without_permission s)) =
    subst (λ (next : Standing). StandsFor c.follow.new.self (followed next (Some note) (without_permission s))) next_is went in
    let standing_is : c.self.inside.standing ≡ s.standing = ap (λ (b : HeldBreaker). b.standing) c.self.view_is ∙ stands.standing in
    let fate_is : fate_in s.standing c.args.period ≡ fate.Recorded = ap (λ (standing : Standing). fate_in standing c.args.period) (sym standing_is) ∙ sym c.fate_of-fate.ensures ∙ c.in-Recorded.is in
    subst (λ (f : Fate). StandsFor c.follow.new.self (recorded_by f note s)) (sym fate_is) is
