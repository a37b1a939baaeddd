use Rattle.std.proofs.Common.{rules}
use Rattle.std.proofs.lemmas.Fn.{filter_same}
use Rattle.tsdb_streams.specs.KeptPoints.{is_kept}
use Rattle.tsdb_streams.proofs.survival.Kept.retain.Goals as goal

pub returns : goal.returns
returns c =
    filter_same _ (is_kept c.args.self.now.series.now c.args.self.now.range c.args.self.now.marks.now.marks c.args.born.0) _ (λ x b f' t. search rules) c.args.points.now.items c.retain.new.self.items c.retain.ensures.filtered
