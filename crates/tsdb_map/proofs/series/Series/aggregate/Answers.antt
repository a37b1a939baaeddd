use Rattle.std.proofs.Common.{◌∙◌}
use Rattle.tsdb_map.proofs.FoldLemmas.{sum_in_range, value_in_range}
use Rattle.tsdb_map.proofs.series.Series.aggregate.Goals as goal

pub returns-in_ok-sum-in-Sum : goal.returns-in_ok-sum-in-Sum
returns-in_ok-sum-in-Sum c = c.sum_figure.ensures
    ∙ sum_in_range c.args.aggregate c.points_in-points.result _ c.in_ok-sum-in-Sum.sum c.in-Sum.is c.points_in-points.ensures.points c.in_ok-sum-in-Sum.ensures

pub returns-in_ok-value-in_default : goal.returns-in_ok-value-in_default
returns-in_ok-value-in_default c = c.value_figure.ensures
    ∙ value_in_range c.args.aggregate _ c.in_ok-value-in_default.value c.in_default.not-Sum c.in_ok-value-in_default.ensures
