use Rattle.std.proofs.Common.{w64, sym, ◌∙◌}
use Rattle.std.proofs.lemmas.Int.{to_z-of_z}
use Rattle.tsdb_map.proofs.PointLemmas.{get-series, no_room, set-put, set-removed}
use Rattle.tsdb_map.proofs.series.Series.set.Goals as goal

pub returns-in_err-insert-in-Some-clause-fits : goal.returns-in_err-insert-in-Some-clause-fits
returns-in_err-insert-in-Some-clause-fits c =
    no_room c.args.value c.in-Some.value _ c.in-Some.is
    (sym (get-series _ c.self.inside.points c.args.self.now c.args.time _ c.self.view_is (to_z-of_z w64 c.args.time c.ranges.time)) ∙ c.in_err-insert-in-Some.ensures.absent)

pub returns-in-None-clause-set : goal.returns-in-None-clause-set
returns-in-None-clause-set c =
    set-removed _ c.self.inside.points c.remove.new.self c.args.self.now c.args.time _ c.args.value c.self.view_is c.in-None.is
    (to_z-of_z w64 c.args.time c.ranges.time) c.remove.ensures.updates.0

pub returns-in-None-clause-old : goal.returns-in-None-clause-old
returns-in-None-clause-old c =
    c.remove.ensures.value ∙ get-series _ c.self.inside.points c.args.self.now c.args.time _ c.self.view_is (to_z-of_z w64 c.args.time c.ranges.time)

pub returns-in_ok-insert-in-Some-clause-set : goal.returns-in_ok-insert-in-Some-clause-set
returns-in_ok-insert-in-Some-clause-set c =
    set-put _ c.self.inside.points c.insert.new.self c.args.self.now c.args.time _ c.in-Some.value c.args.value c.self.view_is c.in-Some.is
    (to_z-of_z w64 c.args.time c.ranges.time) c.in_ok-insert-in-Some.ensures.updates.0

pub returns-in_ok-insert-in-Some-clause-old : goal.returns-in_ok-insert-in-Some-clause-old
returns-in_ok-insert-in-Some-clause-old c =
    c.in_ok-insert-in-Some.ensures.old ∙ get-series _ c.self.inside.points c.args.self.now c.args.time _ c.self.view_is (to_z-of_z w64 c.args.time c.ranges.time)
