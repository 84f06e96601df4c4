-- What a place knows at first, when it takes the book, and when it finds none.
use Rattle.std.specs.Prelude.{ℕ, ◌+◌, [], ◌∷◌, ◌++◌, true, false, Option, Some, None}
use Rattle.service_profile.specs.Events.{History}
use Rattle.service_profile.specs.Seats.{lines_of}
use Rattle.book_slot.specs.declared.view.View.{View}

-- what a view is that knows nothing
abbrev pub spent : View
spent = record {
  origin = None;
  sits = false;
  number = 0;
  holds = false;
  seen = None;
  all_seen = [];
  left = [];
  mine = [];
  entries = 0;
  cuts = 0;
  takes = 0;
  misses = 0;
  deals = false;
  next = 0;
  parts = 0;
  told = None;
  known = [];
}

-- the view of a place of this number that has seen nothing, of a book that opened so
abbrev pub newcomer : Option History → ℕ → View
newcomer origin n = record spent { origin = origin; sits = true; number = n; parts = 1 }

-- it holds the history taken, which is now seen, with its own entries in it
abbrev pub taking : View → History → View
taking v history = record v { holds = true; seen = Some history; all_seen = v.all_seen ++ history ∷ []; mine = lines_of v.number history.lines; takes = v.takes + 1 }

abbrev pub missing : View → View
missing v = record v { misses = v.misses + 1 }
