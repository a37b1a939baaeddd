use Rattle.std.proofs.Common.{rules, ◌∙◌, length, sym, ap, arith}
use Rattle.std.proofs.lemmas.Bool.{eqb-false, eqb-true}
use Rattle.std.specs.Prelude.{◌≢◌}
use Rattle.tsdb_streams.proofs.CleanFacts.{hull_is, no_hull, or_none}
use Rattle.tsdb_aggregate.specs.Pieces.{overlap}
use Rattle.tsdb_streams.specs.Clean.{any_meets}
use Rattle.tsdb_streams.proofs.cleaning.points_meet.Goals as goal

pub returns-then-is_empty : goal.returns-then-is_empty
returns-then-is_empty c = ap (any_meets c.args.times.now) (sym (no_hull c.args.points.now (eqb-true (length c.args.points.now) 0 (sym c.is_empty.ensures ∙ c.if-is_empty.true))))

pub returns : goal.returns
returns c =
    let some : length c.args.points.now ≢ 0 = eqb-false (length c.args.points.now) 0 (sym c.is_empty.ensures ∙ c.if-is_empty.false) in
    let hull = hull_is c.args.points.now c.index-points-0.result c.index-points-points.result (omega (arith, some)) c.index-points-0.is c.index-points-points.is in
    (search rules) ∙ sym (ap (any_meets c.args.times.now) hull ∙ or_none (overlap (record { from = c.index-points-0.result.time; to = c.index-points-points.result.time }) c.args.times.now))
