use Rattle.std.proofs.Common.{◌≡◌, ap, sym, subst, ◌∙◌, arith}
use Rattle.std.specs.Global.{Vec as Items}
use Rattle.tsdb_base.specs.declared.ids.SeriesId.{SeriesId}
use Rattle.tsdb_base.specs.declared.ids.Space.TheVariants.{Unsequence}
use Rattle.tsdb_flush.proofs.Numbers.{both_spaces, none_in, one_space}
use Rattle.tsdb_flush.specs.TakingSteps.{AreNumbersOf}
use Rattle.tsdb_flush.proofs.series.numbers.Goals.{then-points-gt0+in_ok-series+in_ok-append, else-points-gt0}
use Rattle.tsdb_flush.proofs.series.numbers.Goals as goal

pub returns : goal.returns
returns c =
    let pair = c.args.pair.now in
    elim c.if-points-gt0.branch [
      | then-points-gt0+in_ok-series+in_ok-append w ↦
          both_spaces pair c.points.ensures.rising c.in_ok-all.all.items w.in_ok-series.field-0.items c.if-points-gt0.all.items c.in_ok-all.ensures w.in_ok-series.ensures
          (ap (λ (v : Items SeriesId). v.items) w.all-is ∙ w.in_ok-append.ensures.items)
      | else-points-gt0 w ↦
          let zero : c.points.result ≡ 0 = omega (arith, w.if-points-gt0.false) in
          subst (λ (v : Items SeriesId). AreNumbersOf pair v.items) (sym w.all-is)
          (one_space pair c.points.ensures.rising c.in_ok-all.all.items c.in_ok-all.ensures (none_in Unsequence pair c.points.result c.points.ensures.rising c.points.ensures.count zero))
    ]
