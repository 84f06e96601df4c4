-- One line more, for seats that did not make it, and what a list of lines begins with.
use Rattle.std.proofs.Common.{◌≡◌, ℕ, ◌==◌, false, List, [], ◌∷◌, ◌++◌, ap, sym, ◌∙◌, append-nil, append_assoc, refl}
use Rattle.std.proofs.lemmas.List.Elements.{filter-append}
use Rattle.service_profile.specs.Events.{EntryData}
use Rattle.service_profile.specs.Seats.{lines_of, BeginsWith}

one_dropped : (seat : ℕ) (l : EntryData) → (l.seat == seat) ≡ false → lines_of seat (l ∷ []) ≡ []
one_dropped seat l other = rw other refl

-- another seat's line changes nothing for it
pub other_line : (seat : ℕ) (lines : List EntryData) (l : EntryData) → (l.seat == seat) ≡ false → lines_of seat (lines ++ l ∷ []) ≡ lines_of seat lines
other_line seat lines l other =
    filter-append (λ (m : EntryData). m.seat == seat) lines (l ∷ [])
    ∙ ap (λ (ms : List EntryData). lines_of seat lines ++ ms) (one_dropped seat l other)
    ∙ append-nil (lines_of seat lines)

pub begins_with_itself : (lines : List EntryData) → BeginsWith lines lines
begins_with_itself lines = ([], sym (append-nil lines))

pub begins_with_more : (later earlier : List EntryData) (l : EntryData) → BeginsWith later earlier → BeginsWith (later ++ l ∷ []) earlier
begins_with_more later earlier l begins = (begins.0 ++ l ∷ [], ap (λ (ms : List EntryData). ms ++ l ∷ []) begins.1 ∙ append_assoc earlier begins.0 (l ∷ []))
