-- The route that a path finds.
use Rattle.std.proofs.Common.{◌≡◌, List, ℕ, true, false, cond, Some, None, option_map, refl, ap, sym, ◌∙◌}
use Rattle.std.specs.Str.{IsUtf8, is_utf8}
use Rattle.std.proofs.lemmas.Str.{is_utf8-from_IsUtf8, IsUtf8-from_is_utf8}
use Rattle.matchit.specs.Rows.{RowsOf}
use Rattle.matchit.specs.Router.{RouteOf}
use Rattle.matchit.specs.Seek.{first}
use Rattle.http_routes.specs.declared.table.Route.{Route}
use Rattle.http_routes.specs.Finding.{asked_of, finds}
use Rattle.http_routes.specs.Paths.{path_of}
use Rattle.http_routes.specs.Routing.{routes, route_of}

pub other_bytes_find_none : (path : List ℕ) → (IsUtf8 path → ⊥) → route_of path ≡ None
other_bytes_find_none path not_text = elim (is_utf8 path) as (λ b. is_utf8 path ≡ b → cond b (option_map (λ (r : RouteOf Route). r.value) (first routes path)) None ≡ None) [ true ↦ λ e. absurd (not_text (IsUtf8-from_is_utf8 path e)) | false ↦ λ e. refl ] refl

pub text_finds : (path : List ℕ) (rows : RowsOf (RouteOf Route)) (r : RouteOf Route) → IsUtf8 path → rows ≡ routes → first rows path ≡ Some r → route_of path ≡ Some r.value
text_finds path rows r text same found =
    rw (is_utf8-from_IsUtf8 path text) (ap (λ z. option_map (λ (x : RouteOf Route). x.value) (first z path)) (sym same) ∙ ap (option_map (λ (x : RouteOf Route). x.value)) found)

pub nothing_is_asked : (target : List ℕ) → route_of (path_of target) ≡ None → None ≡ finds target
nothing_is_asked target none = sym (ap (λ r. option_map (asked_of (path_of target)) r) none)
