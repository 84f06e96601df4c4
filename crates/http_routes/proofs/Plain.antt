-- What each route of a service but the journal has in common.
use Rattle.std.proofs.Common.{◌≡◌, ℕ, List, [], ◌∷◌, ◌++◌, map, Bool, true, ◌&&◌, ltb, ◌==◌, Some, None, ◌⊎◌, inl, inr, refl, subst, codes}
use Rattle.std.specs.List.{slice_split}
use Rattle.matchit.specs.Rows.{RowsOf, param_token}
use Rattle.matchit.specs.Router.{RouteOf}
use Rattle.matchit.specs.Seek.{seek, param_step}
use Rattle.http_routes.specs.declared.table.Route.{Route}
use Rattle.http_routes.specs.declared.table.Route.TheVariants as route
use Rattle.http_routes.specs.Patterns.{IsSegment, HasService, HasNumber}
use Rattle.http_routes.specs.Routing.{row, row_of, journal_row}
use Rattle.http_routes.specs.Table.{word_of}

abbrev pub is_plain : List ℕ → Bool
is_plain [] = true
is_plain (x ∷ w) = ltb x 256 && is_plain w

abbrev pub is_slash : ℕ → Bool
is_slash b = b == 47

-- what is left of a route's pattern behind the service
abbrev pub word_row : Route → List ℕ × RouteOf Route
word_row route.Journal = (codes "journal/" ++ (param_token ∷ []), journal_row.1)
word_row other = (word_of other, (row other).1)

abbrev pub service_routes : List Route
service_routes = route.Acquire ∷ route.Cut ∷ route.Journal ∷ route.Program ∷ route.Release ∷ route.Report ∷ route.Reset ∷ route.Roll ∷ route.State ∷ route.Transition ∷ []

abbrev pub word_rows : RowsOf (RouteOf Route)
word_rows = map word_row service_routes

-- it names a service and has no number, its word is bytes and one segment, and the search finds it by its word
pub record IsPlain (r : Route) : Type 0 where
  pub names : (service : List ℕ) → IsSegment service → HasService r (Some service)
  pub named : (service : List ℕ) → HasService r (Some service) → IsSegment service
  pub unnamed : HasService r None → ⊥
  pub none : HasNumber r None
  pub some : (number : List ℕ) → HasNumber r (Some number) → ⊥
  pub its_row : row_of r ≡ row r
  pub plain : is_plain (word_of r) ≡ true
  pub whole : slice_split is_slash (word_of r) ≡ word_of r ∷ []
  pub found : seek 0 word_rows (word_of r) ≡ Some (row r).1

-- the list of services, a route that is plain, or the journal
pub which_route : (r : Route) → (r ≡ route.Services) ⊎ (IsPlain r ⊎ (r ≡ route.Journal))
unfolding seek param_step
which_route route.Services = inl refl
which_route route.Acquire = inr (inl (record { names = λ s h. h; named = λ s h. h; unnamed = λ h. h; none = tt; some = λ n h. h; its_row = refl; plain = refl; whole = refl; found = refl }))
which_route route.Report = inr (inl (record { names = λ s h. h; named = λ s h. h; unnamed = λ h. h; none = tt; some = λ n h. h; its_row = refl; plain = refl; whole = refl; found = refl }))
which_route route.Release = inr (inl (record { names = λ s h. h; named = λ s h. h; unnamed = λ h. h; none = tt; some = λ n h. h; its_row = refl; plain = refl; whole = refl; found = refl }))
which_route route.Transition = inr (inl (record { names = λ s h. h; named = λ s h. h; unnamed = λ h. h; none = tt; some = λ n h. h; its_row = refl; plain = refl; whole = refl; found = refl }))
which_route route.Reset = inr (inl (record { names = λ s h. h; named = λ s h. h; unnamed = λ h. h; none = tt; some = λ n h. h; its_row = refl; plain = refl; whole = refl; found = refl }))
which_route route.Cut = inr (inl (record { names = λ s h. h; named = λ s h. h; unnamed = λ h. h; none = tt; some = λ n h. h; its_row = refl; plain = refl; whole = refl; found = refl }))
which_route route.Roll = inr (inl (record { names = λ s h. h; named = λ s h. h; unnamed = λ h. h; none = tt; some = λ n h. h; its_row = refl; plain = refl; whole = refl; found = refl }))
which_route route.Program = inr (inl (record { names = λ s h. h; named = λ s h. h; unnamed = λ h. h; none = tt; some = λ n h. h; its_row = refl; plain = refl; whole = refl; found = refl }))
which_route route.State = inr (inl (record { names = λ s h. h; named = λ s h. h; unnamed = λ h. h; none = tt; some = λ n h. h; its_row = refl; plain = refl; whole = refl; found = refl }))
which_route route.Journal = inr (inr refl)

-- a route of a service names one
pub never_unnamed : (r : Route) → IsPlain r ⊎ (r ≡ route.Journal) → HasService r None → ⊥
never_unnamed r (inl is) h = is.unnamed h
never_unnamed r (inr is) h = subst (λ q. HasService q None) is h
