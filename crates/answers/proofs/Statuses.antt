-- Every refusal that the machine replies with has an HTTP status.
use Rattle.std.proofs.Common.{◌≡◌, ℕ, ◌+◌, ◌-◌, nat_le, true, false, cond, length, Some, None, refl}
use Rattle.refusals.specs.declared.RefusalNumber.TheVariants as refusal
use Rattle.bpf_profile.specs.JudgedWork.{JudgedData}
use Rattle.bpf_profile.specs.Programs.{VerifiedProgram}
use Rattle.service_profile.specs.declared.replies.Reply.TheVariants as reply
use Rattle.service_profile.specs.Limits.{most_versions}
use Rattle.service_profile.specs.Events.{EventData, acquires, finishes, releases, installs, moves, resets}
use Rattle.service_profile.specs.Machine.{Situation, decision, decided, is_full, at_moment, acquired, placed, permission_in, permissions_held, refused, finished, finished_under, finished_by, concluded, same_program, is_issued, open_ticket, program_from, released, released_under, installed, current_version, meant, decision_by}
use Rattle.service_profile.specs.Verdicts.{judgement}
use Rattle.answers.specs.Answered.{has_status}

acquired_has : (s : Situation) (moment : ℕ) → has_status (acquired s moment).reply ≡ true
acquired_has s moment =
    let p = permission_in s.standing.state s.config s.standing (length s.notes) (permissions_held s.standing.period s.open_tickets) moment in
    elim p.given as (λ b. has_status (cond b (placed s p.standing) (refused p.standing refusal.CallNotPermitted)).reply ≡ true) [
      | true ↦ elim (nat_le s.config.max_concurrent_calls (length s.open_tickets))
          as (λ b. has_status (cond b (refused p.standing refusal.BulkheadFull) (record { reply = reply.Permitted s.next_ticket (current_version s) p.standing.state; next = p.standing })).reply ≡ true)
          [ true ↦ refl | false ↦ refl ]
      | false ↦ refl
    ]

finished_has : (s : Situation) (moment : ℕ) (work : JudgedData) (ticket : ℕ) → has_status (finished meant s moment work ticket).reply ≡ true
finished_has s moment work ticket =
    elim (is_issued s ticket) as (λ b. has_status (cond b (finished_under meant s moment work (open_ticket s.open_tickets ticket)) (refused s.standing refusal.NoTicket)).reply ≡ true) [
      | true ↦ elim (open_ticket s.open_tickets ticket) as (λ t. has_status (finished_under meant s moment work t).reply ≡ true) [
        | None ↦ refl
        | Some t ↦ elim (program_from s.first_version s.programs t.version) as (λ p. has_status (finished_by meant s moment t work p).reply ≡ true) [
          | None ↦ refl
          | Some p ↦ elim (same_program work.program p)
              as (λ b. has_status (cond b (concluded s moment t work.outcome (judgement p work.outcome)) (refused s.standing refusal.Stranger)).reply ≡ true)
              [ true ↦ refl | false ↦ refl ]
        ]
      ]
      | false ↦ refl
    ]

released_has : (s : Situation) (ticket : ℕ) → has_status (released s ticket).reply ≡ true
released_has s ticket =
    elim (is_issued s ticket) as (λ b. has_status (cond b (released_under s (open_ticket s.open_tickets ticket)) (refused s.standing refusal.NoTicket)).reply ≡ true) [
      | true ↦ elim (open_ticket s.open_tickets ticket) as (λ t. has_status (released_under s t).reply ≡ true) [ None ↦ refl | Some t ↦ refl ]
      | false ↦ refl
    ]

installed_has : (s : Situation) (program : VerifiedProgram) → has_status (installed s program).reply ≡ true
installed_has s program =
    elim (nat_le most_versions (length s.programs - s.dropped))
    as (λ b. has_status (cond b (refused s.standing refusal.VersionsFull) (record { reply = reply.Installed (s.first_version + length s.programs) program.budget program.layout; next = s.standing })).reply ≡ true)
    [ true ↦ refl | false ↦ refl ]

decided_has : (s : Situation) (moment : ℕ) (event : EventData) → has_status (decided meant s moment event).reply ≡ true
decided_has s moment acquires = acquired_has s moment
decided_has s moment (finishes work ticket) = finished_has s moment work ticket
decided_has s moment (releases ticket) = released_has s ticket
decided_has s moment (installs program) = installed_has s program
decided_has s moment (moves state) = refl
decided_has s moment resets = refl

pub decision_has : (s : Situation) (moment : ℕ) (event : EventData) → has_status (decision s moment event).reply ≡ true
unfolding decision_by
decision_has s moment event =
    elim (is_full s event) as (λ b. has_status (cond b (refused s.standing refusal.JournalFull) (decided meant (at_moment s moment) moment event)).reply ≡ true)
    [ true ↦ refl | false ↦ decided_has (at_moment s moment) moment event ]
