-- What an event finds is as the service has it, but for where the breaker stands and for the notes.
use Rattle.std.proofs.Common.{◌≡◌, ◌≤◌, ◌+◌, ℕ, Bool, if◌then◌else◌, Option, Some, None, unwrap_or, subst, rules}
use Rattle.service_profile.specs.declared.standings.Standing.{Standing}
use Rattle.service_profile.specs.declared.states.State.TheVariants as state
use Rattle.service_profile.specs.Machine.{Situation, in_state, at_moment, overstays}
use Rattle.service_profile.specs.Standings.{moved}
use Rattle.windows.specs.Notes.{AreNotAfter}
use Rattle.std.specs.List.{AllByRecursion}
use Rattle.book.specs.declared.found.FoundService.{FoundService}
use Rattle.book.specs.Finding.{IsAsFound, IsFoundAs}

-- a part of a situation that the end of a stay leaves alone
pub part : {X : Type 0} (f : Situation → X) → ((m : ℕ) (b : Situation) → f (in_state state.Open m b) ≡ f b) → (o : Option Standing) (before s : Situation) → IsAsFound o before s → (r : X) → r ≡ f before → r ≡ f s
part f same b before s is r e = search rules

found_by : (ends : Bool) (s : Situation) (moment : ℕ) → IsAsFound (if ends then Some (moved state.Open moment s.standing) else None) s (if ends then in_state state.Open moment s else s)
found_by ends s moment = search rules

pub is_found : (s : Situation) (moment : ℕ) → IsAsFound (if overstays s moment then Some (moved state.Open moment s.standing) else None) s (at_moment s moment)
is_found s moment = found_by (overstays s moment) s moment

-- at most one period more
pub next_period : (ends : Bool) (a b : Standing) (moment : ℕ) → a ≡ b → (unwrap_or (if ends then Some (moved state.Open moment b) else None) a).period ≤ b.period + 1
next_period ends a b moment same = search rules

config_by : (ends : Bool) (s : Situation) (moment : ℕ) → (if ends then in_state state.Open moment s else s).config ≡ s.config
config_by ends s moment = search rules

pub same_config : (s : Situation) (moment : ℕ) → (at_moment s moment).config ≡ s.config
same_config s moment = config_by (overstays s moment) s moment

notes_by : (ends : Bool) (s : Situation) (moment : ℕ) → AreNotAfter moment s.notes → AreNotAfter moment (if ends then in_state state.Open moment s else s).notes
notes_by ends s moment before = search rules

-- no note that is found is after the moment
pub notes_before : (s : Situation) (moment : ℕ) → AreNotAfter moment s.notes → AreNotAfter moment (at_moment s moment).notes
notes_before s moment before = notes_by (overstays s moment) s moment before

needed_by : (o : Option Standing) (before s : Situation) → IsAsFound o before s → AllByRecursion (λ ticket. before.first_version + before.dropped ≤ ticket.version) before.open_tickets → AllByRecursion (λ ticket. s.first_version + s.dropped ≤ ticket.version) s.open_tickets
needed_by None before s is all = rw is all
needed_by (Some standing) before s is all = rw is.2 all

-- no open ticket is of a version that was dropped
pub needed : (found_service : FoundService) (held : ℕ) (s : Situation) → IsFoundAs found_service held s → AllByRecursion (λ ticket. s.first_version + s.dropped ≤ ticket.version) s.open_tickets
needed found_service held s as_found = needed_by found_service.after_stay as_found.before s as_found.found as_found.stands.registered.needed

-- where no stay ends, an event finds all as it is
pub same_situation : (o : Option Standing) (before s : Situation) → IsAsFound o before s → o ≡ None → s ≡ before
same_situation o before s found none = subst (λ (p : Option Standing). IsAsFound p before s) none found

-- where one ends, it finds the breaker in OPEN, with no notes
pub new_situation : (o : Option Standing) (before s : Situation) (standing : Standing) → IsAsFound o before s → o ≡ Some standing → (standing ≡ s.standing) × (m : ℕ) × (s ≡ in_state state.Open m before)
new_situation o before s standing found some = subst (λ (p : Option Standing). IsAsFound p before s) some found
