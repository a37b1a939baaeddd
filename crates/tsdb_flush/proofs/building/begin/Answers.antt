use Rattle.tsdb_flush.specs.MakingSteps.{filled_with}
use Rattle.tsdb_flush.proofs.Trees.{given_more, may_follow}
use Rattle.std.proofs.Common.{[], map}
use Rattle.tsdb_flush.specs.Parts.{builder_series}
use Rattle.tsdb_flush.proofs.building.begin.Goals as goal

pub series-requires-clause-follows : goal.series-requires-clause-follows
series-requires-clause-follows c =
    let given = c.requires.follows in
    may_follow c.args.builder.now given.0 c.args.schema.now given.1 given.2 given.3

pub returns-in-Ok : goal.returns-in-Ok
returns-in-Ok c = record {
  ok = λ part was. given_more c.series.new.self part (filled_with c.args.schema.now []) (c.in-Ok.ensures.ok (map builder_series part) was);
}
