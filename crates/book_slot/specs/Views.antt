-- What a place knows after a call, and what it leaves behind.
use Rattle.std.specs.Prelude.{ℕ, ◌+◌, ◌-◌, ◌==◌, ◌&&◌, List, [], ◌∷◌, ◌++◌, Bool, false, Option, Some, None, if◌then◌else◌}
use Rattle.service_profile.specs.Events.{History}
use Rattle.book_slot.specs.declared.view.Trace.{Trace}
use Rattle.book_slot.specs.declared.view.View.{View}
use Rattle.book_slot.specs.Left.{next_number}

-- what a place of this number and this view leaves behind
abbrev pub trace : ℕ → View → Trace
trace number v = record { number = number; seen = v.all_seen; left = v.left; entries = v.entries; cuts = v.cuts }

abbrev pub missed : ℕ → View → View
missed n v = record v { misses = v.misses + n }

-- how many entries were made since what was seen
abbrev pub entries_since : Option History → History → ℕ
entries_since None history = 0
entries_since (Some seen) history = next_number history - next_number seen

-- how many cuts were made since what was seen, of which one call makes one at most: a cut begins another opening
abbrev pub cuts_since : Option History → History → ℕ
cuts_since None history = 0
cuts_since (Some seen) history = if history.opening.period == seen.opening.period then 0 else 1

-- whether a history is the one that was seen, as far as these numbers tell: its opening, how many entries it has, and how many
-- entries and programs rolls have handed out. Of what a place may put back they tell all
abbrev pub is_same : Option History → History → Bool
is_same None history = false
is_same (Some seen) history =
    ((seen.opening.period == history.opening.period) && (next_number seen == next_number history))
    && ((seen.rolled.lines == history.rolled.lines) && (seen.rolled.programs == history.rolled.programs))

-- what a place has put back changed, with this history, where it changed it
abbrev pub left_after : List History → Option History → History → List History
left_after left seen history = if is_same seen history then left else left ++ history ∷ []
