-- What a view shows of a service.
use Rattle.std.specs.Prelude.{List}
use Rattle.service_profile.specs.Events.{History}
use Rattle.book_slot.specs.declared.view.View.{View}

-- all that was seen
abbrev pub seen_of : View → List History
seen_of view = view.all_seen
