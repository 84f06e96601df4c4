-- What was seen before a call begins the histories of its openings, where that holds of what was seen after it.
use Rattle.std.proofs.Common.{[], ◌∷◌, subst}
use Rattle.service_profile.specs.Events.{History}
use Rattle.book_slot.specs.declared.view.View.{View}
use Rattle.book_slot.specs.Called.{CalledAfterTries}
use Rattle.book_slot.specs.Courses.{Course, AllBegin}
use Rattle.book_slot.proofs.Histories.{seen_before}

pub called_back : (course : Course) (Did : History → History → Type 0) (v w : View) → CalledAfterTries Did v w → AllBegin course w.all_seen → AllBegin course v.all_seen
called_back course Did v w (tries, c) h = seen_before course.past course.last v.all_seen (c.before ∷ c.after ∷ []) (subst (λ (u : View). AllBegin course u.all_seen) c.view h)
