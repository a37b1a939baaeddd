use Rattle.std.proofs.Common.{◌≡◌, ◌<◌, ◌^◌, w64, ap, sym, ◌∙◌, subst, pos, Some, arith}
use Rattle.std.specs.Prelude.{IfOk}
use Rattle.std.proofs.lemmas.Int.{to_z_pos}
use Rattle.tsdb_base.specs.declared.value.Value.TheVariants.{I64}
use Rattle.tsdb_map.proofs.FoldLemmas.{first_of, last_of, length-points_of_entries, of_range}
use Rattle.tsdb_map.proofs.series.Series.one_value.Goals as goal

pub returns-in-Count : goal.returns-in-Count
returns-in-Count c =
    let small : c.count_points.result < 2 ^ 63 = omega (arith, c.points_in-points.ensures.fits, c.count_points.ensures) in
    ap (λ z. Some (I64 z)) (to_z_pos w64 c.count_points.result small) ∙ ap (λ n. Some (I64 (pos n))) (c.count_points.ensures ∙ sym (length-points_of_entries c.points_in-points.result))
    ∙ of_range c.args.aggregate _ c.points_in-points.result _ c.in-Count.is c.points_in-points.ensures.points

pub returns-in-FirstValue : goal.returns-in-FirstValue
returns-in-FirstValue c =
    subst (λ o. IfOk c.value.result (λ v. v ≡ o))
    (first_of (λ t v. v) c.points_in-points.result c.next.new.self c.next.result c.next.ensures.steps
    ∙ of_range c.args.aggregate _ c.points_in-points.result _ c.in-FirstValue.is c.points_in-points.ensures.points) c.value.ensures

pub returns-in-LastValue : goal.returns-in-LastValue
returns-in-LastValue c =
    subst (λ o. IfOk c.value-in-LastValue.result (λ v. v ≡ o))
    (last_of (λ t v. v) c.points_in-points.result _ _ c.next_back.ensures.steps
    ∙ of_range c.args.aggregate _ c.points_in-points.result _ c.in-LastValue.is c.points_in-points.ensures.points) c.value-in-LastValue.ensures

pub returns-in-MinTime : goal.returns-in-MinTime
returns-in-MinTime c =
    c.time.ensures ∙ first_of (λ t v. I64 t) c.points_in-points.result _ _ c.next-in-MinTime.ensures.steps
    ∙ of_range c.args.aggregate _ c.points_in-points.result _ c.in-MinTime.is c.points_in-points.ensures.points

pub returns-in-MaxTime : goal.returns-in-MaxTime
returns-in-MaxTime c =
    c.time-in-MaxTime.ensures ∙ last_of (λ t v. I64 t) c.points_in-points.result _ _ c.next_back-in-MaxTime.ensures.steps
    ∙ of_range c.args.aggregate _ c.points_in-points.result _ c.in-MaxTime.is c.points_in-points.ensures.points

pub returns-in-MinValue : goal.returns-in-MinValue
returns-in-MinValue c =
    subst (λ o. IfOk c.least_number.result (λ v. v ≡ o)) (of_range c.args.aggregate _ c.points_in-points.result _ c.in-MinValue.is c.points_in-points.ensures.points) c.least_number.ensures

pub returns-in-MaxValue : goal.returns-in-MaxValue
returns-in-MaxValue c =
    subst (λ o. IfOk c.greatest_number.result (λ v. v ≡ o)) (of_range c.args.aggregate _ c.points_in-points.result _ c.in-MaxValue.is c.points_in-points.ensures.points) c.greatest_number.ensures
