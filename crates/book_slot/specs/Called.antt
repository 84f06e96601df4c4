-- What a call of a place does, and what the place knows after it.
use Rattle.std.specs.Prelude.{◌≡◌, ℕ, ◌+◌, [], ◌∷◌, ◌++◌, false, Some}
use Rattle.book_slot.specs.Origins.{IsOf}
use Rattle.service_profile.specs.Events.{History}
use Rattle.service_profile.specs.Seats.{lines_of}
use Rattle.book_slot.specs.declared.view.View.{View}
use Rattle.book_slot.specs.Views.{missed, left_after, entries_since, cuts_since}
use Rattle.book_slot.specs.Seen.{Finds}

-- the view after a call that found and left these histories: it has seen both, last what was left, with its own entries in it, and there is one take more
abbrev pub called : View → History → History → View
called v before after = record v {
  holds = false;
  seen = Some after;
  all_seen = v.all_seen ++ before ∷ after ∷ [];
  left = left_after v.left (Some before) after;
  mine = lines_of v.number after.lines;
  entries = v.entries + entries_since (Some before) after;
  cuts = v.cuts + cuts_since (Some before) after;
  takes = v.takes + 1;
}

-- a call: the history that its last take found, what the call did to it, and the view after it. Both histories are good, and of the book that opened first in the slot, since its opening or since a cut
pub record Called (Did : History → History → Type 0) (v w : View) : Type 0 where
  pub before : History
  pub after : History
  pub of_before : IsOf v.origin before
  pub finds : Finds v before
  pub did : Did before after
  pub of_after : IsOf v.origin after
  pub view : w ≡ called v before after

-- the same after some failed tries
abbrev pub CalledAfterTries : (History → History → Type 0) → View → View → Type 0
CalledAfterTries Did v w = (tries : ℕ) × Called Did (missed tries v) w
