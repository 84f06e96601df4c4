use Rattle.std.proofs.Common.{◌≡◌, ℕ, max, Option, ap, sym, ◌∙◌}
use Rattle.std.specs.Option.{option_map_or}
use Rattle.bpf_profile.specs.Programs.{VerifiedProgram}
use Rattle.service_profile.specs.Answers.{reading}
use Rattle.service_profile.specs.Events.{History}
use Rattle.service_profile.specs.Histories.{Past, past_of, situation_of, next_line, raised}
use Rattle.service_profile.specs.Machine.{Situation, current_version, program_from}
use Rattle.breaker.specs.Calls.{metrics_of}
use Rattle.book.specs.Books.{rolled_of, opening_of, journal, all_lines}
use Rattle.book.specs.Situations.{breaker_of}
use Rattle.book.proofs.Applying.{notes_there}
use Rattle.book.proofs.Openings.{reads_so}
use Rattle.book.proofs.books.Book.read.Goals as goal

pub returns-clause-reading : goal.returns-clause-reading
returns-clause-reading c =
    let past : Past = past_of (journal (opening_of c.self.inside.service.config c.self.inside.start) (all_lines c.self.inside.handed.items c.self.inside.entries.items) (rolled_of c.self.inside.rolled c.self.inside.service c.self.inside.start)) in
    let s : Situation = situation_of past in
    let stands = c.self.invariant.0.situated in
    let when : c.max.result ≡ raised past c.args.moment = c.max.ensures ∙ ap (λ (m : ℕ). max c.args.moment m) c.self.invariant.0.greatest_moment in
    let before = notes_there _ _ _ c.args.moment c.max.result _ _ c.self.invariant.0 c.max.ensures in
    let metrics : c.metrics-metrics.result ≡ metrics_of (raised past c.args.moment) (breaker_of s) = c.metrics-metrics.ensures _ _ stands before ∙ ap (λ (m : ℕ). metrics_of m (breaker_of s)) when in
    let budget : c.budget.result ≡ option_map_or (λ program. program.budget) (program_from s.first_version s.programs (current_version s)) 0 =
    c.budget.ensures.budget ∙ ap (λ (p : VerifiedProgram). p.budget) c.deref.ensures ∙ ap (λ (o : Option VerifiedProgram). option_map_or (λ program. program.budget) o 0) (c.current_program.ensures _ _ stands) in
    reads_so past c.args.moment c.last_number.result _ _ _ _ _ _ _ metrics (c.current_version.ensures _ _ stands) budget (c.open_count.ensures _ _ stands) (c.free_places.ensures _ _ stands) c.self.invariant.0.refused_calls
    (c.last_number.ensures.number ∙ ap (λ (h : History). next_line (past_of h)) (sym c.self.view_is)) (c.oldest_ticket.ensures _ _ stands)
    ∙ ap (λ (h : History). reading (past_of h) c.args.moment) c.self.view_is
