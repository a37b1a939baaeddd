use Rattle.std.proofs.Common.{rules, ◌∙◌, sym}
use Rattle.tsdb_streams.proofs.CleanFacts.{met_before, met_behind}
use Rattle.tsdb_streams.specs.Clean.{any_meets}
use Rattle.tsdb_streams.specs.Cleaning.{lane_hulls}
use Rattle.tsdb_streams.proofs.cleaning.others_meet.Goals as goal

pub returns-then-source_meets : goal.returns-then-source_meets
returns-then-source_meets g c =
    sym (met_before lane_hulls (any_meets c.args.times.now) c.args.place c.args.lanes.now c.split_at.result.0.now c.split_at.ensures.front (sym c.source_meets.ensures ∙ c.if-source_meets.true))

pub returns : goal.returns
returns g c =
    sym (met_behind lane_hulls (any_meets c.args.times.now) c.args.place c.args.lanes.now c.split_at.result.0.now c.split_at.result.1.now c.split_at-2.result.1.now c.source_meets-2.result
    c.split_at.ensures.front c.split_at.ensures.back c.split_at-2.ensures.back (sym c.source_meets.ensures ∙ c.if-source_meets.false) c.source_meets-2.ensures)
