use Rattle.std.proofs.Common.{◌≡◌, ◌≤◌, ◌+◌, Bool, true, false, List, length, get_or, arith, refl, sym, ap, ◌∙◌, subst}
use Rattle.abs_regs.specs.declared.value.AbsVal.{AbsVal}
use Rattle.abs_regs.specs.declared.value.AbsVal.TheVariants as known
use Rattle.abs_regs.specs.Values.{joined_value}
use Rattle.abs_regs.proofs.Joins.{JoinedTo, joined_none, joined_more, joined_kept, joined_all, get_or-default}
use Rattle.abs_regs.proofs.registers.join_values.Goals as goal
use Rattle.abs_regs.proofs.registers.join_values.Goals.{then-not-matches, else-not-matches, in-Unset, in_default}

pub loop-i-init : goal.loop-i-init
loop-i-init g c = joined_none (joined_value g.D.Domain) c.args.values.now c.args.others.now

pub loop-i-preserved : goal.loop-i-preserved
loop-i-preserved g c =
    let same = c.requires in
    let within = c.loop-i-test.true in
    let so_far = λ (values : List (AbsVal g.row.D.Denot)). JoinedTo (joined_value g.D.Domain) c.args.values.now c.args.others.now values (c.loop-i.i + 1) in
    elim c.if-not-matches.branch [
      | then-not-matches w ↦
          subst so_far (sym w.values-is)
          (joined_more (joined_value g.D.Domain) c.args.values.now c.args.others.now c.loop-i.values c.loop-i.i w.index-values-i.result w.index-others-i.result w.join.result c.loop-i.invariant
          (omega (arith, within)) (omega (arith, same, within))
          (w.join.ensures ∙ (ap (λ (a : AbsVal g.row.D.Denot). joined_value g.D.Domain a w.index-others-i.result) w.index-values-i.is ∙ ap (joined_value g.D.Domain (get_or c.loop-i.values c.loop-i.i w.index-values-i.result)) w.index-others-i.is)))
      | else-not-matches w ↦
          elim c.match-matches.branch [
            | in-Unset v ↦
                (let unset : get_or c.loop-i.values c.loop-i.i known.Unset ≡ known.Unset = get_or-default c.loop-i.values c.loop-i.i c.loop-i.i known.Unset _ refl (let long = c.loop-i.invariant.same in omega (arith, long, within)) ∙ v.in-Unset.is in
                subst so_far (sym w.values-is)
                (joined_kept (joined_value g.D.Domain) c.args.values.now c.args.others.now c.loop-i.values c.loop-i.i known.Unset c.loop-i.invariant within
                (λ b. ap (λ (a : AbsVal g.row.D.Denot). joined_value g.D.Domain a b) unset ∙ sym unset)))
            | in_default v ↦ absurd (let e : ◌≡◌ {A = Bool} true false = sym w.if-not-matches.false ∙ v.matches-is in cc)
          ]
    ]

pub returns : goal.returns
returns g c =
    let all : length c.args.values.now ≤ c.loop-i.i = omega arith in
    joined_all (joined_value g.D.Domain) c.args.values.now c.args.others.now c.loop-i.values c.loop-i.i c.loop-i.invariant c.requires all
