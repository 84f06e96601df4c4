-- The empty list: a struct of one field without bytes is made, and its clause names the items.
use mathlib.Core.Path.{refl}
use mathlib.Core.List.{[], ◌∷◌}
use mir.Syntax.{Args, Fn, a_type}
use mir.MapTy.{inst_fn}
use mir.Val.{Val, vstruct, vcons, vnil}
use contract.Running.{tables}
use denote.RattleType.{RattleType, owns}
use denote.Param.{param, layouts}
use denote.Shadow.{pure_i}
use denote.Triple.Entry.{alive}
use denote.Triple.Walked.{says, walk_of, ends_at}
use types.Kit.{‵, raw, ◌⊛◌, keep, split, ◌$◌, ◌∵◌, !, qed, move, suffices, done}
use types.Run.{no_more, and_then, returns, enter}
use types.Part.{agg}
use types.ByLocal.{alloc_all, pass_all, free_all, look_at, get, sets}
use Rattle.std.proofs.raw_atomic.Walks.{proved}
use Rattle.ghost_list.specs.contracts.list.GhostList as pieces
use Rattle.ghost_list.specs.contracts.list.GhostList.new as f
use Rattle.ghost_list.proofs.list.GhostList.new.Statement.{statement}
use Rattle.ghost_list.proofs.list.GhostList.new.Code as code

abbrev laid : RattleType → Args
laid A = layouts (a_type ∷ []) (A, tt)

abbrev body : RattleType → Fn
body A = inst_fn (laid A) code.function

abbrev bytes : Val
bytes = vstruct (vcons (vstruct vnil) vnil)

pub new_spec : {M : Type 1} → statement M
new_spec 𝓤 𝓛 𝓜 𝓡 wired A known =
    let c = f.clauses A 𝓛 𝓜.mem 𝓡.returns in
    let 𝓣 = tables 𝓤 𝓛.H 𝓜 𝓡 𝓡.env in
    let empty : (pieces.the_row (param 0 A)).Denot = record { of = record {}; items = [] } in
    proved 𝓛 (f.ended A) tt c 𝓜 𝓡 tt
    (f.Key.name (laid A)) (body A) (code.unfolded 𝓤 𝓛.H 𝓜 𝓡 wired (A, tt))
    (λ κs. tt) (λ κs. tt) (λ κs qs bounds a g are.
    let y : (walk_of 𝓛 (f.ended A) tt c).Ghost = ((κs, qs, bounds, a, tt), g) in
    qed 𝓛 ((raw (alive 𝓛 (f.ended A).signature κs qs) ⊛ ‵ (owns [] a tt)) ∷ raw ((c κs a).requires g) ∷ []) ∵ keep ! (0 ∷ []) $ split ! $
    enter ! _ _ _ _ _ $ alloc_all ! (λ l. pass_all ! refl tt $
    sets ! (agg ! (no_more !)) refl (tt, tt) $
    sets ! (agg ! (and_then ! (get ! refl) (no_more !))) refl (tt, (tt, tt)) $
    returns ! (look_at ! 0 refl) $ free_all ! refl $
    suffices ! _ (ends_at 𝓛 (f.ended A) tt c y bytes empty tt tt) $ says ! refl $
    pure_i ! ((pieces.the_row (param 0 A)).own_val empty (bytes ∷ []))
    ((λ vss. (tt, ((λ u. (tt, tt)), tt))), tt) (((vstruct vnil ∷ [], tt), (refl, ((tt, (refl, tt)), tt))), tt) $
    move ! (1 ∷ 2 ∷ 0 ∷ []) $ done !))
