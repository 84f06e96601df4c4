-- The verdict of a finished call is the meaning's for the version that its ticket names.
use Rattle.std.proofs.Common.{◌≡◌, ℕ, ◌-◌, nat_le, ◌==◌, Bool, true, false, cond, if◌then◌else◌, List, [], ◌∷◌, ◌++◌, slice_get, Option, Some, None, arith, refl, ap, sym, ◌∙◌, subst, rules}
use Rattle.std.specs.Prelude.{Contains}
use Rattle.std.specs.List.{filter, AllByRecursion}
use Rattle.std.proofs.lemmas.Bool.Decides.{Decides-eqb}
use Rattle.std.proofs.lemmas.List.Elements.{Contains-append_left, Contains-append_right}
use Rattle.bpf_profile.specs.declared.machine.Verdict.{Verdict}
use Rattle.bpf_profile.specs.Layouts.{context_size}
use Rattle.bpf_profile.specs.Meaning.{Judges}
use Rattle.bpf_profile.specs.JudgedWork.{JudgedData}
use Rattle.bpf_profile.specs.Programs.{VerifiedProgram}
use Rattle.service_profile.specs.declared.decisions.Decision.{Decision}
use Rattle.service_profile.specs.declared.tickets.OpenTicket.{OpenTicket}
use Rattle.service_profile.specs.declared.replies.Fate.{Fate}
use Rattle.service_profile.specs.declared.replies.Reply.TheVariants as reply
use Rattle.service_profile.specs.declared.states.State.{State}
use Rattle.service_profile.specs.Events.{EventData, finishes}
use Rattle.service_profile.specs.Histories.{Past, issued, programs_of, situation_of}
use Rattle.service_profile.specs.Machine.{open_ticket}
use Rattle.book.specs.Accepted.{IsSafeProgram, IsJudged}
use Rattle.service_profile.specs.MeantVerdicts.{IsMeant}
use Rattle.service_profile.specs.Verdicts.{judgement}
use Rattle.bpf_profile.proofs.Layouts.{fits_layout}
use Rattle.book.proofs.Deciding.{Shape, IsByVersion}
use Rattle.book.proofs.Judging.{judgement_judges, program_accepted}
use Rattle.book.proofs.Lists.{still_there}

-- ---- an open ticket was issued under its number

kept_head : (t u : OpenTicket) (keep : Bool) (tickets kept : List OpenTicket) (number : ℕ) (here : Bool) → (t.number == number) ≡ here
    → (open_ticket kept number ≡ Some u → Contains tickets u × (u.number ≡ number))
    → open_ticket (cond keep (t ∷ kept) kept) number ≡ Some u → Contains (t ∷ tickets) u × (u.number ≡ number)
kept_head t u false tickets kept number here e on found = let rest = on found in (Contains-append_right (t ∷ []) tickets u rest.0, rest.1)
kept_head t u true tickets kept number true e on found =
    let first : ◌≡◌ {A = Option OpenTicket} (Some t) (Some u) = sym (ap (λ (b : Bool). if b then Some t else open_ticket kept number) e) ∙ found in
    let is : t ≡ u = cc in
    (subst (λ (v : OpenTicket). Contains (t ∷ tickets) v) is (Contains-append_left (t ∷ []) tickets t (0, omega arith, refl)), ap (λ (v : OpenTicket). v.number) (sym is) ∙ (Decides-eqb t.number number).0 e)
kept_head t u true tickets kept number false e on found =
    let later : open_ticket kept number ≡ Some u = sym (ap (λ (b : Bool). if b then Some t else open_ticket kept number) e) ∙ found in
    let rest = on later in (Contains-append_right (t ∷ []) tickets u rest.0, rest.1)

pub found_there : (keep : OpenTicket → Bool) (tickets : List OpenTicket) (number : ℕ) (u : OpenTicket) → open_ticket (filter keep tickets) number ≡ Some u → Contains tickets u × (u.number ≡ number)
found_there keep [] number u e = let bad : ◌≡◌ {A = Option OpenTicket} None (Some u) = e in cc
found_there keep (t ∷ tickets) number u e = kept_head t u (keep t) tickets (filter keep tickets) number (t.number == number) refl (found_there keep tickets number u) e

-- ---- later versions and tickets change nothing

pub later_held : (test : Bool) (programs more : List VerifiedProgram) (place : ℕ) (program : VerifiedProgram) → (if test then slice_get programs place else None) ≡ Some program → (if test then slice_get (programs ++ more) place else None) ≡ Some program
later_held test programs more place program e = search (rules, still_there)

pub still_meant : (first : ℕ) (programs more : List VerifiedProgram) (tickets others : List OpenTicket) (work : JudgedData) (ticket : ℕ) (v : Verdict) (steps version : ℕ)
    → IsMeant first programs tickets work ticket v steps version → IsMeant first (programs ++ more) (tickets ++ others) work ticket v steps version
still_meant first programs more tickets others work ticket v steps version meant_ = record {
  issued = meant_.issued;
  listed = Contains-append_left tickets others meant_.issued meant_.listed;
  number = meant_.number;
  of_version = meant_.of_version;
  program = meant_.program;
  held = later_held (nat_le first version) programs more (version - first) meant_.program meant_.held;
  meant = meant_.meant;
}

-- ---- the line that comes

by_version : (past : Past) (work : JudgedData) (ticket : ℕ) (v : Verdict) (steps version : ℕ) → AllByRecursion IsSafeProgram (programs_of past) → IsJudged IsSafeProgram work → IsByVersion (situation_of past) work ticket v steps version
    → IsMeant past.opening.version (programs_of past) (issued past.stages) work ticket v steps version
by_version past work ticket v steps version safe_ judged_ is =
    let there = found_there _ (issued past.stages) ticket is.opened is.found in
    let good = program_accepted IsSafeProgram past.opening.version (programs_of past) version is.program safe_ is.held in
    let judges = judgement_judges is.program work.outcome good (fits_layout is.program.layout work.outcome judged_.outcome) in
    record {
      issued = is.opened;
      listed = there.0;
      number = there.1;
      of_version = is.of_version;
      program = is.program;
      held = is.held;
      meant = subst (λ (w : Verdict). Judges (context_size is.program.layout) is.program.slots work.outcome w steps) is.verdict_is (subst (λ (k : ℕ). Judges (context_size is.program.layout) is.program.slots work.outcome (judgement is.program work.outcome).verdict k) is.steps_are judges);
    }

pub meant_by : (past : Past) (event : EventData) (d : Decision) (work : JudgedData) (ticket : ℕ) (f : Fate) (v : Verdict) (steps version : ℕ) (st : State)
    → AllByRecursion IsSafeProgram (programs_of past) → IsJudged IsSafeProgram work → Shape (situation_of past) event d → event ≡ finishes work ticket → d.reply ≡ reply.Finished f v steps version st
    → IsMeant past.opening.version (programs_of past) (issued past.stages) work ticket v steps version
meant_by past event d work ticket f v steps version st safe_ judged_ a same r = search (rules, by_version)
