-- The layout that the query of a request names.
use Rattle.std.specs.Prelude.{ℕ, ◌==◌, nat_eq, List, Bool, not, ◌||◌, if◌then◌else◌, Result, Ok, Err, bytes_eq, codes}
use Rattle.std.specs.List.{list_all, slice_split, starts_with}
use Rattle.refusals.specs.declared.RefusalNumber.{RefusalNumber}
use Rattle.refusals.specs.declared.RefusalNumber.TheVariants as refusal
use Rattle.bpf_profile.specs.declared.layout.Layout.{Layout}
use Rattle.bpf_profile.specs.declared.layout.Layout.TheVariants as layout

-- a part that begins so names a layout; the others are ignored
abbrev pub names_layout : List ℕ → Bool
names_layout part = starts_with nat_eq part (codes "layout=")

-- a part names a layout by this text, or names none
abbrev pub names_no_other : List ℕ → List ℕ → Bool
names_no_other text part = not (names_layout part) || bytes_eq part text

-- each part of a query that names a layout is this text; the parts stand between ampersands
abbrev pub names_only : List ℕ → List ℕ → Bool
names_only query text = list_all (names_no_other text) (slice_split (λ b. b == 38) query)

-- layout 1 where no part names another one, so also where none names any; else layout 2 where no part names another one
abbrev pub layout_in : List ℕ → Result Layout RefusalNumber
layout_in query =
    if names_only query (codes "layout=1") then Ok layout.One
    else (if names_only query (codes "layout=2") then Ok layout.Two
    else Err refusal.BadValue)
