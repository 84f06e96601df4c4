-- One piece more: a struct of one field without bytes is made, and its clause names the items. What is lent stays lent.
use mathlib.Core.Path.{refl}
use mathlib.Core.List.{[], ◌∷◌, ◌++◌}
use mir.Syntax.{Args, Fn, a_type, named}
use mir.MapTy.{inst_fn}
use mir.Val.{Val, vstruct, vcons, vnil}
use contract.Running.{tables}
use denote.Exit.{yes}
use denote.RattleType.{RattleType, owns}
use denote.Param.{param, layouts}
use denote.Ref.{shr_vals, shr_Tells}
use denote.Shadow.{pure_i}
use denote.Signature.{plain, types_at}
use denote.Triple.Entry.{alive}
use denote.Triple.Walked.{says, Stays, stay_none_ref, Goes-none_ref, walk_of, ends_at}
use types.Kit.{‵, raw, ◌⊛◌, keep, split, ◌$◌, ◌∵◌, !, qed, move, suffices, done}
use types.Run.{no_more, and_then, returns, enter}
use types.Part.{agg}
use types.ByLocal.{alloc_all, pass_all, free_all, look_at, get, sets}
use Rattle.std.proofs.raw_atomic.Walks.{proved}
use Rattle.ghost_list.specs.contracts.list.GhostList as pieces
use Rattle.ghost_list.specs.contracts.list.GhostList.and as f
use Rattle.ghost_list.proofs.list.GhostList.and.Statement.{statement}
use Rattle.ghost_list.proofs.list.GhostList.and.Code as code

abbrev laid : RattleType → Args
laid A = layouts (a_type ∷ []) (A, tt)

abbrev body : RattleType → Fn
body A = inst_fn (laid A) code.function

abbrev bytes : Val
bytes = vstruct (vcons (vstruct vnil) vnil)

abbrev stayed : (A : RattleType) → Stays (f.ended A).signature.params (f.ended A).kept
stayed A = (stay_none_ref (0 ∷ []) tt (plain (λ _. pieces.the_row (param 0 A))) yes, (stay_none_ref (1 ∷ []) tt (plain (λ _. param 0 A)) yes, tt))

pub and_spec : {M : Type 1} → statement M
and_spec 𝓤 𝓛 𝓜 𝓡 wired A known =
    let c = f.clauses A 𝓛 𝓜.mem 𝓡.returns in
    let 𝓣 = tables 𝓤 𝓛.H 𝓜 𝓡 𝓡.env in
    proved 𝓛 (f.ended A) (stayed A) c 𝓜 𝓡
    (Goes-none_ref 𝓛 3 (0 ∷ []) tt (plain (λ _. pieces.the_row (param 0 A))) yes, (Goes-none_ref 𝓛 3 (1 ∷ []) tt (plain (λ _. param 0 A)) yes, tt))
    (f.Key.name (laid A)) (body A) (code.unfolded 𝓤 𝓛.H 𝓜 𝓡 wired (A, tt))
    (λ κs. (shr_vals, (shr_vals, tt)))
    (λ κs. (shr_Tells (named 0) κs.0 (pieces.the_row (param 0 A)), (shr_Tells (named 1) κs.1.0 (param 0 A), tt)))
    (λ κs qs bounds a g are.
    let more : (pieces.the_row (param 0 A)).Denot = record { of = record {}; items = a.0.now.items ++ a.1.0.now ∷ [] } in
    let y : (walk_of 𝓛 (f.ended A) (stayed A) c).Ghost = ((κs, qs, bounds, a, (shr_vals a.0, (shr_vals a.1.0, tt))), g) in
    qed 𝓛 ((raw (alive 𝓛 (f.ended A).signature κs qs) ⊛ ‵ (owns (types_at (f.ended A).signature.params κs) a (shr_vals a.0, (shr_vals a.1.0, tt)))) ∷ raw ((c κs a).requires g) ∷ []) ∵
    keep ! (0 ∷ []) $ split ! $
    enter ! _ _ _ _ _ $ alloc_all ! (λ l. pass_all ! refl ((tt, tt), ((tt, tt), tt)) $
    sets ! (agg ! (no_more !)) refl (tt, tt) $
    sets ! (agg ! (and_then ! (get ! refl) (no_more !))) refl (tt, (tt, tt)) $
    returns ! (look_at ! 0 refl) $ free_all ! refl $
    suffices ! _ (ends_at 𝓛 (f.ended A) (stayed A) c y bytes more (tt, (tt, tt)) (tt, (tt, tt))) $ says ! refl $
    pure_i ! ((pieces.the_row (param 0 A)).own_val more (bytes ∷ []))
    ((λ vss. (tt, ((λ u. (tt, tt)), tt))), tt) (((vstruct vnil ∷ [], tt), (refl, ((tt, (refl, tt)), tt))), tt) $
    move ! (1 ∷ 2 ∷ 0 ∷ []) $ done !))
