-- Calls one after another are a course.
use Rattle.std.proofs.Common.{◌≡◌, ℕ, List, [], ◌∷◌, map, ap}
use Rattle.service_profile.specs.Calls.{CallAnswer}
use Rattle.service_profile.specs.Events.{History, Opening}
use Rattle.service_profile.specs.Machine.{meant}
use Rattle.book.specs.Interleavings.{Driven, AreCalled, acts_of, Hands, World, answered, with_answer, IsCourse, begun}

-- the calls are a course that ends with this history
abbrev pub AreACourse : World → List Driven → List CallAnswer → History → Type 0
AreACourse w asked given after = (all : ℕ → Hands) × IsCourse meant w (acts_of asked) (map answered given) (record { history = after; hands = all })

pub are_a_course : (w : World) (asked : List Driven) (given : List CallAnswer) (after : History) → AreCalled w.history asked given after → AreACourse w asked given after
are_a_course w [] [] after same = (w.hands, ap (λ (h : History). let v : World = record { history = h; hands = w.hands } in v) same)
are_a_course w (one ∷ asked) (given ∷ more) after is =
    let next : World = record { history = is.0; hands = with_answer w.hands one.seat given } in
    let rest = are_a_course next asked more after is.2 in
    (rest.0, (next, (is.1, λ i. next.hands), rest.1))
are_a_course w [] (given ∷ more) after is = absurd is
are_a_course w (one ∷ asked) [] after is = absurd is

pub from_an_opening : (opening : Opening) (asked : List Driven) (given : List CallAnswer) (after : History) → AreCalled (begun opening).history asked given after → AreACourse (begun opening) asked given after
from_an_opening opening asked given after is = are_a_course (begun opening) asked given after is
